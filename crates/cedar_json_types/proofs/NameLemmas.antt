-- SPDX-License-Identifier: Apache-2.0
-- An identifier as a reference, and one that is unreserved.
use Rattle.std.proofs.Common.{◌≡◌, List, [], ◌∷◌, ◌&&◌, not, Bool, true, false, None, ℕ, refl, sym, subst, ap, ◌∙◌}
use Rattle.std.proofs.lemmas.List.{append-nil}
use Rattle.std.specs.Cmp.{first_so}
use Rattle.std.specs.List.{list_all}
use Rattle.cedar_text.specs.Faults.{no_id, no_unreserved_id, word_fault}
use Rattle.cedar_text.specs.NormalNames.{name_fault, may_stand, parts}
use Rattle.cedar_text.specs.Words.{is_cedar, is_id, is_unreserved_id, is_word, is_reserved_word}
use Rattle.cedar_text.proofs.WritingLemmas.{parts-joined, name_fault-joined}
use Rattle.cedar_names.specs.Components.{components, loc_of, internal_name}
use Rattle.cedar_names.specs.declared.id.Id.{Id}
use Rattle.cedar_written.specs.Possibilities.{written}
use Rattle.cedar_written.specs.declared.raw_name.RawName.{RawName}
use Rattle.cedar_json_fault.specs.declared.json_fault.NameKind.{NameKind}
use Rattle.cedar_json_types.specs.Parts.{Names, id_fault, named, reference_fault}

id_is_name : (s : List ℕ) → is_id s ≡ true → name_fault no_id s ≡ None
id_is_name s id =
    let one : list_all (may_stand no_id) (s ∷ []) ≡ true = rw id refl in
    subst (λ (t : List ℕ). name_fault no_id t ≡ None) (append-nil s) (name_fault-joined no_id s [] one)

id_is_one_part : (s : List ℕ) → is_id s ≡ true → parts s ≡ s ∷ []
id_is_one_part s id =
    let word : is_word s ≡ true = first_so (is_word s) (not (is_reserved_word s)) id in
    let one : list_all is_word (s ∷ []) ≡ true = rw word refl in
    subst (λ (t : List ℕ). parts t ≡ s ∷ []) (append-nil s) (parts-joined s [] one)

-- nothing is wrong with it
pub clean_id : (what : NameKind) (s : List ℕ) → is_id s ≡ true → reference_fault what s ≡ None
clean_id what s id = ap (named what s) (id_is_name s id)

-- it is a name of one component
pub named_id : (s : List ℕ) (id : Id) (n : RawName) → is_id s ≡ true → id.word ≡ s → written n ≡ internal_name id [] None → Names s n
named_id s id n form word made = (
  id_is_name s form,
  ap components made ∙ ap (λ (w : List ℕ). w ∷ []) word ∙ sym (id_is_one_part s form),
  ap loc_of made,
)

-- ---- unreserved identifiers

all_hold : (word reserved cedar : Bool) → (word && not reserved) && not cedar ≡ true → (word ≡ true) × (reserved ≡ false) × (cedar ≡ false)
all_hold true true cedar e = absurd (cc)
all_hold true false true e = absurd (cc)
all_hold true false false e = (refl, refl, refl)
all_hold false reserved cedar e = absurd (cc)

-- nothing is wrong with one
pub no_word_fault : (s : List ℕ) → is_unreserved_id s ≡ true → word_fault no_unreserved_id s ≡ None
no_word_fault [] id = absurd (cc)
no_word_fault (b ∷ bs) id =
    let each = all_hold (is_word (b ∷ bs)) (is_reserved_word (b ∷ bs)) (is_cedar (b ∷ bs)) id in
    rw (each.0, each.1, each.2) refl

pub clean_unreserved_id : (what : NameKind) (s : List ℕ) → is_unreserved_id s ≡ true → id_fault what s ≡ None
unfolding id_fault
clean_unreserved_id what s id = ap (named what s) (no_word_fault s id)
