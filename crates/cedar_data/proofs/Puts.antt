-- SPDX-License-Identifier: Apache-2.0
-- What a map has after an entry is put in, and a set after a key is.
use Rattle.std.proofs.Common.{◌≡◌, Bool, true, false, cond, not, Bor, List, [], ◌∷◌, Option, Some, None, refl, sym, ap, ◌∙◌}
use Rattle.std.proofs.lemmas.Cmp.{eq_by_cmp_equiv}
use Rattle.std.specs.Option.{is_some, option_copied}
use Rattle.std.specs.declared.cmp.Ordering.{Ordering}
use Rattle.std.specs.declared.cmp.Ordering.TheVariants.{Less, Equal, Greater}
use Rattle.std.specs.Ordering.{is_eq, match_ordering}
use Rattle.std.specs.Cmp.{IsTotalOrder}
use Rattle.std.specs.Map.{keys_of}
use Rattle.std.specs.BTreeMap.{insert_entry, is_at}
use Rattle.cedar_data.specs.Maps.{get, Puts}
use Rattle.cedar_data.specs.Sets.{Adds}
use Rattle.cedar_data.proofs.SetKeys.{is_some-lookup}

-- a test is the negation of its negation
pub turned_not : (a b : Bool) → not a ≡ b → a ≡ not b
turned_not true b is = ap not is
turned_not false b is = ap not is

-- a copy of what may be lent is there where that is
pub is_some-copied : {V : Type 0} (o : Option (Bor V)) → is_some o ≡ is_some (option_copied o)
is_some-copied None = refl
is_some-copied (Some x) = refl

module _ {V : Type 0} where
  -- of two tests that do not both pass, either may come first
  cond-turn : (a b : Bool) (x y o : Option V) → (a ≡ true → b ≡ true → ⊥) → cond a x (cond b y o) ≡ cond b y (cond a x o)
  cond-turn true true x y o apart = absurd (apart refl refl)
  cond-turn true false x y o apart = refl
  cond-turn false true x y o apart = refl
  cond-turn false false x y o apart = refl

  -- of two tests that answer the same, the second is not asked
  cond-twice : (a b : Bool) (x y o : Option V) → a ≡ b → cond a x o ≡ cond b x (cond a y o)
  cond-twice true true x y o same = refl
  cond-twice false false x y o same = refl
  cond-twice true false x y o same = cc
  cond-twice false true x y o same = cc

  pub is_some-cond-true : (b : Bool) (x : V) (o : Option V) → is_some (cond b (Some x) o) ≡ cond b true (is_some o)
  is_some-cond-true true x o = refl
  is_some-cond-true false x o = refl

module _ {K V : Type 0} {cmp : K → K → Ordering} (total : IsTotalOrder cmp) where
  -- a map has at the key the value that was put there, and elsewhere what it had
  pub get-insert_entry : (es : List (K × V)) (key : K) (value : V) → Puts cmp es (insert_entry cmp es key value) key value
  get-insert_entry [] key value other = ap (λ b. cond b (Some value) None) ((eq_by_cmp_equiv total).symm other key)
  get-insert_entry (e ∷ es) key value other = by (cmp key e.0) refl (get-insert_entry es key value other)
    where
      turned : (x y : K) → is_at (cmp x) y ≡ is_at (cmp y) x
      turned = (eq_by_cmp_equiv total).symm

      apart : cmp key e.0 ≡ Greater → is_at (cmp other) e.0 ≡ true → is_at (cmp key) other ≡ true → ⊥
      apart greater at_first at_key =
          let same : is_eq (cmp key e.0) ≡ true = (eq_by_cmp_equiv total).congr key other e.0 at_key ∙ at_first in
          let differs : is_eq (cmp key e.0) ≡ false = ap is_eq greater in
          cc

      by : (o : Ordering) → cmp key e.0 ≡ o → get cmp (insert_entry cmp es key value) other ≡ cond (is_at (cmp key) other) (Some value) (get cmp es other)
          → get cmp (match_ordering o ((key, value) ∷ e ∷ es) ((e.0, value) ∷ es) (e ∷ insert_entry cmp es key value)) other
          ≡ cond (is_at (cmp key) other) (Some value) (get cmp (e ∷ es) other)
      by Less is rest = ap (λ b. cond b (Some value) (get cmp (e ∷ es) other)) (turned other key)
      by Equal is rest = cond-twice (is_at (cmp other) e.0) (is_at (cmp key) other) (Some value) (Some e.1) (get cmp es other)
          (turned other e.0 ∙ sym (ap is_eq (total.congr key e.0 other is)))
      by Greater is rest = ap (cond (is_at (cmp other) e.0) (Some e.1)) rest
          ∙ cond-turn (is_at (cmp other) e.0) (is_at (cmp key) other) (Some e.1) (Some value) (get cmp es other) (apart is)

  -- a set has the key that was put there, and of the others those that it had
  pub contains-keys_of : (old new : List (K × V)) (key : K) (value : V) → Puts cmp old new key value → Adds cmp (keys_of old) (keys_of new) key
  contains-keys_of old new key value puts other =
      sym (is_some-lookup (is_at (cmp other)) new) ∙ ap is_some (puts other) ∙ is_some-cond-true (is_at (cmp key) other) value (get cmp old other)
      ∙ ap (cond (is_at (cmp key) other) true) (is_some-lookup (is_at (cmp other)) old)
