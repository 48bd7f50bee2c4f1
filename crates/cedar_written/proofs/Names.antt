-- SPDX-License-Identifier: Apache-2.0
-- Names that are known by their words.
use Rattle.std.proofs.Common.{◌≡◌, ℕ, List, [], None, IsTrue, codes, ap, subst, ◌∙◌}
use Rattle.std.proofs.Props.{props}
use Rattle.cedar_print.specs.of_text.Words.{is_id}
use Rattle.cedar_print.specs.of_names.Components.{internal_name}
use Rattle.cedar_print.specs.of_names.Identifiers.{id_word}
use Rattle.cedar_print.specs.of_names.declared.id.Id.{Id}
use Rattle.cedar_written.specs.Possibilities.{raw_name, written}
use Rattle.cedar_written.specs.Qualifying.{action_id, action_name}
use Rattle.cedar_written.specs.declared.raw_name.RawName.{RawName}

id_at : (w v : List ℕ) (f : IsTrue (is_id w)) (g : IsTrue (is_id v)) → w ≡ v → ◌≡◌ {A = Id} record { word = w; form = f } record { word = v; form = g }
id_at w v f g e =
    subst (λ x. (h : IsTrue (is_id x)) → ◌≡◌ {A = Id} record { word = w; form = f } record { word = x; form = h }) e
    (λ h. let p : IsProp (IsTrue (is_id w)) = hlevel props in ap (λ (t : IsTrue (is_id w)). let x : Id = record { word = w; form = t } in x) (p f h)) g

-- identifiers of one word are one identifier
pub Id-same : (i j : Id) → id_word i ≡ id_word j → i ≡ j
Id-same i j e = id_at i.word j.word i.form j.form e

-- the name of the one component `Action` is that name
pub is_action_name : (name : RawName) (id : Id) → written name ≡ internal_name id [] None → id_word id ≡ codes "Action" → name ≡ action_name
is_action_name name id is word = ap raw_name (is ∙ ap (λ i. internal_name i [] None) (Id-same id action_id word))
