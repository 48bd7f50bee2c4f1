-- SPDX-License-Identifier: Apache-2.0
-- No float is written.
use Rattle.std.proofs.Common.{◌≡◌, ℕ, Bool, true, false, ◌||◌, List, [], ◌∷◌, ◌++◌, map, Option, Some, None, refl, ap, ◌∙◌}
use Rattle.std.specs.Cmp.Lexicographic.{slice_cmp}
use Rattle.std.specs.List.{AllByRecursion}
use Rattle.std.specs.Ordering.{nat_cmp, match_ordering}
use Rattle.std.specs.declared.cmp.Ordering.{Ordering}
use Rattle.std.specs.declared.cmp.Ordering.TheVariants.{Less, Equal, Greater}
use Rattle.serde_json.specs.Data.{Data, Members, no_members, member, put}
use Rattle.serde_json.specs.View.{items_of}
use Rattle.serde_json.specs.Written.{has_float, items_have_float, members_have_float}
use Rattle.cedar_json_write.specs.Written.{Field, if_any, if_some, object_of, put_all, unless}

neither : (a b : Bool) → (a || b) ≡ false → (a ≡ false) × (b ≡ false)
neither true b is = absurd (cc)
neither false b is = (refl, is)

pub both : (a b : Bool) → a ≡ false → b ≡ false → (a || b) ≡ false
both a b first second = ap (λ x. x || b) first ∙ second

either_plain : (o : Ordering) (a b c : Members) → members_have_float a ≡ false → members_have_float b ≡ false → members_have_float c ≡ false → members_have_float (match_ordering o a b c) ≡ false
either_plain Less a b c first second third = first
either_plain Equal a b c first second third = second
either_plain Greater a b c first second third = third

put_plain : (k : List ℕ) (d : Data) (ms : Members) → has_float d ≡ false → members_have_float ms ≡ false → members_have_float (put k d ms) ≡ false
put_plain k d no_members plain rest = both (has_float d) false plain refl
put_plain k d (member l e ms) plain rest =
    let parts = neither (has_float e) (members_have_float ms) rest in
    either_plain (slice_cmp nat_cmp k l) _ _ _ (both (has_float d) _ plain rest) (both (has_float d) _ plain parts.1) (both (has_float e) _ parts.0 (put_plain k d ms plain parts.1))

-- none of these values has a float
abbrev pub Plain : List Field → Type 0
Plain fs = AllByRecursion (λ f. has_float f.1 ≡ false) fs

all_plain : (fs : List Field) (ms : Members) → Plain fs → members_have_float ms ≡ false → members_have_float (put_all fs ms) ≡ false
all_plain [] ms plain rest = rest
all_plain (f ∷ fs) ms plain rest = all_plain fs (put f.0 f.1 ms) plain.1 (put_plain f.0 f.1 ms plain.0 rest)

pub object_plain : (fs : List Field) → Plain fs → has_float (object_of fs) ≡ false
object_plain fs plain = all_plain fs no_members plain refl

pub append_plain : (fs gs : List Field) → Plain fs → Plain gs → Plain (fs ++ gs)
append_plain [] gs first second = second
append_plain (f ∷ fs) gs first second = (first.0, append_plain fs gs first.1 second)

pub unless_plain : (b : Bool) (k : List ℕ) (d : Data) → has_float d ≡ false → Plain (unless b k d)
unless_plain true k d plain = tt
unless_plain false k d plain = (plain, tt)

module _ {A : Type 0} where
  pub items_plain : (of : A → Data) → ((a : A) → has_float (of a) ≡ false) → (xs : List A) → items_have_float (items_of (map of xs)) ≡ false
  items_plain of plain [] = refl
  items_plain of plain (x ∷ xs) = both (has_float (of x)) _ (plain x) (items_plain of plain xs)

  pub if_some_plain : (k : List ℕ) (of : A → Data) → ((a : A) → has_float (of a) ≡ false) → (o : Option A) → Plain (if_some k of o)
  if_some_plain k of plain None = tt
  if_some_plain k of plain (Some a) = (plain a, tt)

  pub if_any_plain : (k : List ℕ) (of : List A → Data) → ((xs : List A) → has_float (of xs) ≡ false) → (xs : List A) → Plain (if_any k of xs)
  if_any_plain k of plain [] = tt
  if_any_plain k of plain (x ∷ xs) = (plain (x ∷ xs), tt)

module _ {K V : Type 0} (key : K → List ℕ) (of : V → Data) where
  pub each_plain : ((v : V) → has_float (of v) ≡ false) → (es : List (K × V)) → Plain (map (λ e. (key e.0, of e.1)) es)
  each_plain plain [] = tt
  each_plain plain (e ∷ es) = (plain e.1, each_plain plain es)
