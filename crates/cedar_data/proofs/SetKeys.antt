-- SPDX-License-Identifier: Apache-2.0
-- What the entries of a set, whose values are units, say of its keys.
use Rattle.std.proofs.Common.{◌≡◌, Bool, true, false, cond, ◌&&◌, ◌||◌, List, [], ◌∷◌, Option, Some, None, refl, ap, ◌∙◌}
use Rattle.std.specs.Option.{is_some}
use Rattle.std.specs.declared.cmp.Ordering.{Ordering}
use Rattle.std.specs.declared.cmp.Ordering.TheVariants.{Less, Equal, Greater}
use Rattle.std.specs.Ordering.{match_ordering, ordering_then, partial_ordering_then}
use Rattle.std.specs.Cmp.Lexicographic.{pointwise, slice_cmp, slice_partial_cmp}
use Rattle.std.specs.List.{list_any}
use Rattle.std.specs.Map.{keys_of, lookup}
use Rattle.std.specs.BTreeMap.{insert_entry}
use Rattle.std.specs.BTreeSet.{insert_key}

is_some-cond : {V : Type 0} (b : Bool) (value : V) (o : Option V) → is_some (cond b (Some value) o) ≡ (b || is_some o)
is_some-cond true value o = refl
is_some-cond false value o = refl

module _ {K V : Type 0} where
  -- a key has a value where it is one of the keys
  pub is_some-lookup : (test : K → Bool) (es : List (K × V)) → is_some (lookup test es) ≡ list_any test (keys_of es)
  is_some-lookup test [] = refl
  is_some-lookup test (e ∷ es) = is_some-cond (test e.0) e.1 (lookup test es) ∙ ap (λ b. test e.0 || b) (is_some-lookup test es)

  -- putting an entry in puts its key among the keys
  pub keys_of-insert_entry : (cmp : K → K → Ordering) (es : List (K × V)) (key : K) (value : V) → keys_of (insert_entry cmp es key value) ≡ insert_key cmp (keys_of es) key
  keys_of-insert_entry cmp [] key value = refl
  keys_of-insert_entry cmp (e ∷ es) key value =
      by (cmp key e.0) ∙ ap (λ ks. match_ordering (cmp key e.0) (key ∷ e.0 ∷ keys_of es) (e.0 ∷ keys_of es) (e.0 ∷ ks)) (keys_of-insert_entry cmp es key value)
    where
      by : (o : Ordering) → keys_of (match_ordering o ((key, value) ∷ e ∷ es) ((e.0, value) ∷ es) (e ∷ insert_entry cmp es key value))
          ≡ match_ordering o (key ∷ e.0 ∷ keys_of es) (e.0 ∷ keys_of es) (e.0 ∷ keys_of (insert_entry cmp es key value))
      by Less = refl
      by Equal = refl
      by Greater = refl

  -- where the values tell nothing, the keys alone are compared
  pub pointwise-keys_of : (eq : K → K → Bool) (es fs : List (K × V)) → pointwise (λ p q. eq p.0 q.0 && true) es fs ≡ pointwise eq (keys_of es) (keys_of fs)
  pointwise-keys_of eq [] [] = refl
  pointwise-keys_of eq [] (f ∷ fs) = refl
  pointwise-keys_of eq (e ∷ es) [] = refl
  pointwise-keys_of eq (e ∷ es) (f ∷ fs) = λ i. and_true (eq e.0 f.0) i && pointwise-keys_of eq es fs i
    where
      and_true : (b : Bool) → (b && true) ≡ b
      and_true true = refl
      and_true false = refl

  pub slice_cmp-keys_of : (cmp : K → K → Ordering) (es fs : List (K × V)) → slice_cmp (λ p q. ordering_then (cmp p.0 q.0) Equal) es fs ≡ slice_cmp cmp (keys_of es) (keys_of fs)
  slice_cmp-keys_of cmp [] [] = refl
  slice_cmp-keys_of cmp [] (f ∷ fs) = refl
  slice_cmp-keys_of cmp (e ∷ es) [] = refl
  slice_cmp-keys_of cmp (e ∷ es) (f ∷ fs) = λ i. ordering_then (then_equal (cmp e.0 f.0) i) (slice_cmp-keys_of cmp es fs i)
    where
      then_equal : (o : Ordering) → ordering_then o Equal ≡ o
      then_equal Less = refl
      then_equal Equal = refl
      then_equal Greater = refl

  pub slice_partial_cmp-keys_of : (cmp : K → K → Option Ordering) (es fs : List (K × V))
      → slice_partial_cmp (λ p q. partial_ordering_then (cmp p.0 q.0) (Some Equal)) es fs ≡ slice_partial_cmp cmp (keys_of es) (keys_of fs)
  slice_partial_cmp-keys_of cmp [] [] = refl
  slice_partial_cmp-keys_of cmp [] (f ∷ fs) = refl
  slice_partial_cmp-keys_of cmp (e ∷ es) [] = refl
  slice_partial_cmp-keys_of cmp (e ∷ es) (f ∷ fs) = λ i. partial_ordering_then (then_equal (cmp e.0 f.0) i) (slice_partial_cmp-keys_of cmp es fs i)
    where
      then_equal : (o : Option Ordering) → partial_ordering_then o (Some Equal) ≡ o
      then_equal None = refl
      then_equal (Some Less) = refl
      then_equal (Some Equal) = refl
      then_equal (Some Greater) = refl
