-- SPDX-License-Identifier: Apache-2.0
-- Reserved identifiers of common types.
use Rattle.std.proofs.Common.{◌≡◌, ℕ, List, [], ◌∷◌, map, Option, Some, None, Bool, true, false, not, ◌||◌, IsTrue, if◌then◌else◌, refl, sym, ap, subst, ◌∙◌}
use Rattle.std.proofs.Props.{props}
use Rattle.std.proofs.lemmas.Slice.Eq.{bytes_eq-Decides}
use Rattle.std.specs.Str.{bytes_eq}
use Rattle.cedar_text.specs.Words.{is_id, is_cedar, has_word}
use Rattle.cedar_names.specs.Identifiers.{unreserved_word}
use Rattle.cedar_names.specs.declared.id.UnreservedId.{UnreservedId}
use Rattle.cedar_written.specs.CommonTypeIds.{is_reserved_basename}
use Rattle.cedar_json_fault.specs.declared.json_fault.JsonFault.TheVariants as fault
use Rattle.cedar_json_types.specs.CommonIds.{word_id, is_one_of, reserved_ids, reserved_fault}
use Rattle.cedar_json_types.specs.Faults.{here}

-- identifiers of one word are one identifier
word_same : (w w' : List ℕ) (f : IsTrue (is_id w)) (f' : IsTrue (is_id w')) (u : IsTrue (not (is_cedar w))) (u' : IsTrue (not (is_cedar w'))) → w ≡ w' → word_id w f u ≡ word_id w' f' u'
word_same w w' f f' u u' same =
    subst (λ (x : List ℕ). (g : IsTrue (is_id x)) (v : IsTrue (not (is_cedar x))) → word_id w f u ≡ word_id x g v) same
    (λ g v. let p : IsProp (IsTrue (is_id w)) = hlevel props in let q : IsProp (IsTrue (not (is_cedar w))) = hlevel props in λ i. word_id w (p f g i) (q u v i)) f' u'

ids_same : (a b : UnreservedId) → unreserved_word a ≡ unreserved_word b → a ≡ b
ids_same a b same = word_same a.id.word b.id.word a.id.form b.id.form a.unreserved b.unreserved same

found : (b : Bool) (i id : UnreservedId) (w : List ℕ) (ws : List UnreservedId) → bytes_eq w (unreserved_word i) ≡ b → w ≡ unreserved_word id → (b ≡ false → is_one_of ws w ≡ Some (here (fault.ReservedId id)))
    → (if b then Some (here (fault.ReservedId i)) else is_one_of ws w) ≡ Some (here (fault.ReservedId id))
found true i id w ws test is later = ap (λ x. Some (here (fault.ReservedId x))) (ids_same i id (sym ((bytes_eq-Decides w (unreserved_word i)).0 test) ∙ is))
found false i id w ws test is later = later refl

rest_has : (b : Bool) (rest : Bool) → (b || rest) ≡ true → b ≡ false → rest ≡ true
rest_has true rest is fails = absurd (cc)
rest_has false rest is fails = is

one_of : (ids : List UnreservedId) (id : UnreservedId) → has_word (map unreserved_word ids) (unreserved_word id) ≡ true → is_one_of ids (unreserved_word id) ≡ Some (here (fault.ReservedId id))
one_of [] id is = absurd (cc)
one_of (i ∷ ids) id is = found (bytes_eq (unreserved_word id) (unreserved_word i)) i id (unreserved_word id) ids refl refl (λ fails. one_of ids id (rest_has _ _ is fails))

skipped : (b : Bool) (i : UnreservedId) (s : List ℕ) (ids : List UnreservedId) → b ≡ false → is_one_of ids s ≡ None → (if b then Some (here (fault.ReservedId i)) else is_one_of ids s) ≡ None
skipped true i s ids fails none = absurd (cc)
skipped false i s ids fails none = none

neither : (b rest : Bool) → (b || rest) ≡ false → (b ≡ false) × (rest ≡ false)
neither true rest is = absurd (cc)
neither false rest is = (refl, is)

none_of : (ids : List UnreservedId) (s : List ℕ) → has_word (map unreserved_word ids) s ≡ false → is_one_of ids s ≡ None
none_of [] s is = refl
none_of (i ∷ ids) s is = skipped (bytes_eq s (unreserved_word i)) i s ids (neither _ _ is).0 (none_of ids s (neither _ _ is).1)

pub is_reserved : (id : UnreservedId) → is_reserved_basename (unreserved_word id) ≡ true → reserved_fault (unreserved_word id) ≡ Some (here (fault.ReservedId id))
unfolding reserved_fault
is_reserved id is = one_of reserved_ids id is

pub is_free : (s : List ℕ) → is_reserved_basename s ≡ false → reserved_fault s ≡ None
unfolding reserved_fault
is_free s is = none_of reserved_ids s is

pub ruleset common_ids = (is_reserved, is_free)
