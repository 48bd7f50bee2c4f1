-- SPDX-License-Identifier: Apache-2.0
-- An object with one member or two, whose keys are known, has no other key.
use Rattle.std.proofs.Common.{◌≡◌, ℕ, List, [], ◌∷◌, length, slice_get, ◌-◌, Option, Some, None, String, Global, Bool, false, if◌then◌else◌, refl, sym, ap, ◌∙◌, arith}
use Rattle.std.specs.Cmp.Lexicographic.{slice_cmp, texts_ties}
use Rattle.std.specs.Ordering.{is_eq, match_ordering, nat_cmp}
use Rattle.std.specs.BTreeMap.{is_at}
use Rattle.std.specs.Option.{option_map}
use Rattle.std.specs.Map.{lookup}
use Rattle.std.specs.Prelude.{codes, string_bytes, unwrap_or}
use Rattle.std.specs.Str.{bytes_eq}
use Rattle.std.specs.declared.cmp.Ordering.{Ordering}
use Rattle.std.specs.declared.cmp.Ordering.TheVariants.{Less, Equal, Greater}
use Rattle.serde_json.specs.Data.{Data, null, boolean, number, string, array, object, Members, no_members, member}
use Rattle.serde_json.specs.Find.{as_object, get, get_member}
use Rattle.serde_json.specs.View.{view, members_view}
use Rattle.serde_json.specs.declared.value.Value.{Value}
use Rattle.serde_json.proofs.Views.{view-lookup}
use Rattle.cedar_json_fault.specs.declared.json_fault.JsonShape.{JsonShape}
use Rattle.cedar_json_types.specs.Faults.{excess, excess_of}
use Rattle.cedar_json_types.specs.Shapes.{Lacks}
use Rattle.cedar_json_types.specs.Types.{not_named, not_plain, not_record, not_set}
use Rattle.cedar_json_types.proofs.MemberLoops.{Member}

by_ordering : (o : Ordering) (b : Bool) (e : Data) (rest : Option Data) → b ≡ is_eq o → match_ordering o rest (Some e) rest ≡ (if b then Some e else rest)
by_ordering Less b e rest is = rw is refl
by_ordering Equal b e rest is = rw is refl
by_ordering Greater b e rest is = rw is refl

-- a key is that of the first member, or else of one behind it
first_member : (k l : List ℕ) (e : Data) (ms : Members) → get_member k (member l e ms) ≡ (if bytes_eq k l then Some e else get_member k ms)
first_member k l e ms = by_ordering (slice_cmp nat_cmp k l) (bytes_eq k l) e (get_member k ms) (texts_ties k l)

-- a member whose key is another, before members that do not have the key either
passed : (k l : List ℕ) (e : Data) (ms : Members) → bytes_eq k l ≡ false → get_member k ms ≡ None → get_member k (member l e ms) ≡ None
passed k l e ms other none = first_member k l e ms ∙ rw other none

-- the key of the member at a place
key_at : (a : Member) (k : String Global) (v : Value) → ◌≡◌ {A = Option Member} (Some a) (Some (k, v)) → string_bytes a.0 ≡ string_bytes k
key_at a k v at = ap (λ (o : Option Member). unwrap_or (option_map (λ (m : Member). string_bytes m.0) o) (string_bytes k)) at

-- a key that is none of one member, or of two
module _ (n : List ℕ) where
  one_other : (es : List Member) (k : String Global) (v : Value) (t : List ℕ) → length es ≡ 1 → slice_get es 0 ≡ Some (k, v) → string_bytes k ≡ t → bytes_eq n t ≡ false → get_member n (members_view es) ≡ None
  one_other [] k v t one at same other = absurd (omega (arith, one))
  one_other (a ∷ []) k v t one at same other = passed n (string_bytes a.0) (view a.1) no_members (ap (bytes_eq n) (key_at a k v at ∙ same) ∙ other) refl
  one_other (a ∷ b ∷ es) k v t one at same other = absurd (omega (arith, one))

  two_others : (es : List Member) (k l : String Global) (v w : Value) (u t : List ℕ) → length es ≡ 2 → slice_get es 0 ≡ Some (k, v) → slice_get es (length es - 1) ≡ Some (l, w)
      → string_bytes k ≡ u → string_bytes l ≡ t → bytes_eq n t ≡ false → bytes_eq n u ≡ false → get_member n (members_view es) ≡ None
  two_others [] k l v w u t two at at_last same same_last other not_first = absurd (omega (arith, two))
  two_others (a ∷ []) k l v w u t two at at_last same same_last other not_first = absurd (omega (arith, two))
  two_others (a ∷ b ∷ []) k l v w u t two at at_last same same_last other not_first =
      passed n (string_bytes a.0) (view a.1) (member (string_bytes b.0) (view b.1) no_members) (ap (bytes_eq n) (key_at a k v at ∙ same) ∙ not_first)
      (passed n (string_bytes b.0) (view b.1) no_members (ap (bytes_eq n) (key_at b l w at_last ∙ same_last) ∙ other) refl)
  two_others (a ∷ b ∷ c ∷ es) k l v w u t two at at_last same same_last other not_first = absurd (omega (arith, two))

get_in : (d : Data) (ms : Members) (k : List ℕ) → as_object d ≡ Some ms → get k d ≡ get_member k ms
get_in null ms k is = absurd (cc)
get_in (boolean b) ms k is = absurd (cc)
get_in (number n) ms k is = absurd (cc)
get_in (string s) ms k is = absurd (cc)
get_in (array ds) ms k is = absurd (cc)
get_in (object os) ms k is = let same : os ≡ ms = cc in ap (get_member k) same

-- the member that the map has at a key
pub at_key : (d : Data) (es : List Member) (k : String Global) (v : Value) (key : List ℕ) → as_object d ≡ Some (members_view es)
    → lookup (is_at (λ l. slice_cmp nat_cmp (string_bytes k) (string_bytes l))) es ≡ Some v → string_bytes k ≡ key → Some (view v) ≡ get key d
at_key d es k v key is found same =
    sym (get_in d (members_view es) key is ∙ ap (λ n. get_member n (members_view es)) (sym same) ∙ sym (view-lookup (string_bytes k) es) ∙ ap (option_map view) found)

-- the object of one member has no other key
pub none_other : (d : Data) (es : List Member) (k : String Global) (v : Value) (t : List ℕ) → as_object d ≡ Some (members_view es) → length es ≡ 1 → slice_get es 0 ≡ Some (k, v) → string_bytes k ≡ t
    → (n : List ℕ) → bytes_eq n t ≡ false → get n d ≡ None
none_other d es k v t is one at same n other = get_in d (members_view es) n is ∙ one_other n es k v t one at same other

-- the object of two members has no key but the two that it has
pub none_but : (d : Data) (es : List Member) (k l : String Global) (v w : Value) (u t : List ℕ) → as_object d ≡ Some (members_view es) → length es ≡ 2 → slice_get es 0 ≡ Some (k, v)
    → slice_get es (length es - 1) ≡ Some (l, w) → string_bytes k ≡ u → string_bytes l ≡ t → (n : List ℕ) → bytes_eq n t ≡ false → bytes_eq n u ≡ false → get n d ≡ None
none_but d es k l v w u t is two at at_last same same_last n other not_first = get_in d (members_view es) n is ∙ two_others n es k l v w u t two at at_last same same_last other not_first

-- such an object lacks each key that its word doesn't take
module _ (d : Data) where
  pub lacks_plain : ((k : List ℕ) → bytes_eq k (codes "type") ≡ false → get k d ≡ None) → Lacks not_plain d
  lacks_plain none = (none (codes "element") refl, (none (codes "attributes") refl, (none (codes "additionalAttributes") refl, (none (codes "name") refl, tt))))

  pub lacks_set : ((k : List ℕ) → bytes_eq k (codes "type") ≡ false → bytes_eq k (codes "element") ≡ false → get k d ≡ None) → Lacks not_set d
  lacks_set none = (none (codes "attributes") refl refl, (none (codes "additionalAttributes") refl refl, (none (codes "name") refl refl, tt)))

  pub lacks_record : ((k : List ℕ) → bytes_eq k (codes "type") ≡ false → bytes_eq k (codes "attributes") ≡ false → get k d ≡ None) → Lacks not_record d
  lacks_record none = (none (codes "element") refl refl, (none (codes "name") refl refl, tt))

  pub lacks_named : ((k : List ℕ) → bytes_eq k (codes "type") ≡ false → bytes_eq k (codes "name") ≡ false → get k d ≡ None) → Lacks not_named d
  lacks_named none = (none (codes "element") refl refl, (none (codes "attributes") refl refl, (none (codes "additionalAttributes") refl refl, tt)))

-- where none of the keys is there, none is refused
pub none_excess : (shape : JsonShape) (ks : List (List ℕ)) (d : Data) → Lacks ks d → excess_of shape ks d ≡ None
unfolding excess
none_excess shape [] d lacks = refl
none_excess shape (k ∷ ks) d lacks = rw lacks.0 (none_excess shape ks d lacks.1)
