-- SPDX-License-Identifier: Apache-2.0
-- Keys seen as names: in the same order, and equal where these are.
use Rattle.std.proofs.Common.{◌≡◌, ◌&&◌, ◌||◌, ◌⊎◌, inl, inr, Bool, true, false, cond, List, [], ◌∷◌, Option, Some, None, option_map, map, refl, sym, ap, ◌∙◌}
use Rattle.std.specs.BTreeMap.{is_at}
use Rattle.std.specs.List.{AllByRecursion, filter_map, cons_option}
use Rattle.std.specs.List.Sorted.{IsStrictlySortedBy}
use Rattle.std.specs.Map.{keys_of}
use Rattle.std.specs.Ordering.{is_eq}
use Rattle.std.specs.declared.cmp.Ordering.{Ordering}
use Rattle.std.specs.declared.cmp.Ordering.TheVariants.{Less, Equal, Greater}
use Rattle.cedar_data.specs.Firsts.{SomePasses}
use Rattle.cedar_data.specs.Maps.{get}
use Rattle.cedar_data.specs.Sets.{contains}

pub from_eq : (o : Ordering) → is_eq o ≡ true → o ≡ Equal
from_eq Less e = cc
from_eq Equal e = refl
from_eq Greater e = cc

pub or_left : (x y : Bool) → x ≡ true → (x || y) ≡ true
or_left x y h = ap (λ b. b || y) h

pub or_right : (x y : Bool) → y ≡ true → (x || y) ≡ true
or_right true y h = refl
or_right false y h = h

pub or_case : (x y : Bool) → (x || y) ≡ true → (x ≡ true) ⊎ (y ≡ true)
or_case true y h = inl refl
or_case false y h = inr h

pub and_both : (x y : Bool) → (x && y) ≡ true → (x ≡ true) × (y ≡ true)
and_both true y h = (refl, h)
and_both false y h = cc

-- keys are seen as names in the same order, and names that tie are equal
pub record IsView {K N : Type 0} (cmp : K → K → Ordering) (order : N → N → Ordering) (view : K → N) : Type 0 where
  pub in_order : (a b : K) → cmp a b ≡ order (view a) (view b)
  pub ties : (v w : N) → order v w ≡ Equal → v ≡ w
  pub itself : (v : N) → order v v ≡ Equal

module _ {N : Type 0} {order : N → N → Ordering} (ties : (v w : N) → order v w ≡ Equal → v ≡ w) (itself : (v : N) → order v v ≡ Equal) where
  pub named_same : (v w : N) → is_at (order v) w ≡ true → v ≡ w
  named_same v w e = ties v w (from_eq (order v w) e)

  pub named_itself : (v w : N) → v ≡ w → is_at (order v) w ≡ true
  named_itself v w e = ap (λ u. is_eq (order v u)) (sym e) ∙ ap is_eq (itself v)

  -- the names that items give have a name where some item gives it
  pub given_by : {R : Type 0} (target : R → Option N) (rs : List R) (n : N) → contains order (filter_map target rs) n ≡ true → SomePasses (λ r. target r ≡ Some n) rs
  given_by target [] n h = cc
  given_by target (r ∷ rs) n h = by (target r) refl h (given_by target rs n)
    where
      by : (o : Option N) → target r ≡ o → contains order (cons_option o (filter_map target rs)) n ≡ true → (contains order (filter_map target rs) n ≡ true → SomePasses (λ r. target r ≡ Some n) rs) → (target r ≡ Some n) ⊎ SomePasses (λ r. target r ≡ Some n) rs
      by None is h rest = inr (rest h)
      by (Some m) is h rest = either (or_case (is_at (order n) m) (contains order (filter_map target rs) n) h)
        where
          either : (is_at (order n) m ≡ true) ⊎ (contains order (filter_map target rs) n ≡ true) → (target r ≡ Some n) ⊎ SomePasses (λ r. target r ≡ Some n) rs
          either (inl e) = inl (is ∙ ap Some (sym (named_same n m e)))
          either (inr e) = inr (rest e)

  pub gives : {R : Type 0} (target : R → Option N) (rs : List R) (n : N) → SomePasses (λ r. target r ≡ Some n) rs → contains order (filter_map target rs) n ≡ true
  gives target [] n s = absurd s
  gives target (r ∷ rs) n (inl e) = ap (λ o. contains order (cons_option o (filter_map target rs)) n) e ∙ or_left (is_at (order n) n) (contains order (filter_map target rs) n) (named_itself n n refl)
  gives target (r ∷ rs) n (inr s) = by (target r) (gives target rs n s)
    where
      by : (o : Option N) → contains order (filter_map target rs) n ≡ true → contains order (cons_option o (filter_map target rs)) n ≡ true
      by None h = h
      by (Some m) h = or_right (is_at (order n) m) (contains order (filter_map target rs) n) h

module _ {K N : Type 0} {cmp : K → K → Ordering} {order : N → N → Ordering} {view : K → N} (seen : IsView cmp order view) where
  -- equal keys are seen as one name
  pub view_same : (a b : K) → is_at (cmp a) b ≡ true → view a ≡ view b
  view_same a b e = seen.ties (view a) (view b) (sym (seen.in_order a b) ∙ from_eq (cmp a b) e)

  pub same_view : (a b : K) → view a ≡ view b → is_at (cmp a) b ≡ true
  same_view a b e = ap is_eq (seen.in_order a b ∙ ap (order (view a)) (sym e) ∙ seen.itself (view a))

  -- so tests of keys are tests of names
  pub view_test : (a b : K) → is_at (cmp a) b ≡ is_at (order (view a)) (view b)
  view_test a b = ap is_eq (seen.in_order a b)

  -- the names of keys have the name of a key where the keys have it
  pub contains_view : (ks : List K) (k : K) → contains order (map view ks) (view k) ≡ contains cmp ks k
  contains_view [] k = refl
  contains_view (x ∷ ks) k = λ i. (sym (view_test k x) i) || (contains_view ks k i)

  -- a name among the names of keys is the name of a key
  pub viewed : (ks : List K) (n : N) → contains order (map view ks) n ≡ true → (k : K) × (view k ≡ n)
  viewed [] n h = cc
  viewed (x ∷ ks) n h = by (or_case (is_at (order n) (view x)) (contains order (map view ks) n) h) (viewed ks n)
    where
      by : (is_at (order n) (view x) ≡ true) ⊎ (contains order (map view ks) n ≡ true) → (contains order (map view ks) n ≡ true → (k : K) × (view k ≡ n)) → (k : K) × (view k ≡ n)
      by (inl e) rest = (x, sym (named_same seen.ties seen.itself n (view x) e))
      by (inr e) rest = rest e

  -- names of keys that ascend do
  ascends_from : (x : K) (ks : List K) → AllByRecursion (λ y. cmp x y ≡ Less) ks → AllByRecursion (λ n. order (view x) n ≡ Less) (map view ks)
  ascends_from x [] all = tt
  ascends_from x (k ∷ ks) all = (sym (seen.in_order x k) ∙ all.0, ascends_from x ks all.1)

  pub view_ascends : (ks : List K) → IsStrictlySortedBy cmp ks → IsStrictlySortedBy order (map view ks)
  unfolding IsStrictlySortedBy
  view_ascends [] s = tt
  view_ascends (k ∷ ks) s = (ascends_from k ks s.0, view_ascends ks s.1)

  -- equal keys are equal either way
  pub flipped : (a b : K) → is_at (cmp a) b ≡ is_at (cmp b) a
  flipped a b = by (is_at (cmp a) b) (is_at (cmp b) a) refl refl
    where
      by : (t u : Bool) → is_at (cmp a) b ≡ t → is_at (cmp b) a ≡ u → t ≡ u
      by true u e f = sym (same_view b a (sym (view_same a b e))) ∙ f
      by false true e f = sym e ∙ same_view a b (sym (view_same b a f))
      by false false e f = refl

  -- what stands at the name of a key, where values are seen as something else
  pub get_view : {V P : Type 0} (part : V → P) (es : List (K × V)) (k : K) → get order (map (λ e. (view e.0, part e.1)) es) (view k) ≡ option_map part (get cmp es k)
  get_view part [] k = refl
  get_view part (e ∷ es) k = by (is_at (cmp k) e.0) (sym (view_test k e.0)) (get_view part es k)
    where
      by : (t : Bool) → is_at (order (view k)) (view e.0) ≡ t → get order (map (λ e. (view e.0, part e.1)) es) (view k) ≡ option_map part (get cmp es k) → get order (map (λ e. (view e.0, part e.1)) (e ∷ es)) (view k) ≡ option_map part (cond t (Some e.1) (get cmp es k))
      by true is rest = ap (λ t. cond t (Some (part e.1)) (get order (map (λ e. (view e.0, part e.1)) es) (view k))) is
      by false is rest = ap (λ t. cond t (Some (part e.1)) (get order (map (λ e. (view e.0, part e.1)) es) (view k))) is ∙ rest

  -- a name at which something stands is the name of a key
  pub named_key : {V P : Type 0} (part : V → P) (es : List (K × V)) (n : N) (p : P) → get order (map (λ e. (view e.0, part e.1)) es) n ≡ Some p → (k : K) × (view k ≡ n) × (contains cmp (keys_of es) k ≡ true)
  named_key part [] n p h = cc
  named_key part (e ∷ es) n p h = by (is_at (order n) (view e.0)) refl h (named_key part es n p)
    where
      by : (t : Bool) → is_at (order n) (view e.0) ≡ t → cond t (Some (part e.1)) (get order (map (λ e. (view e.0, part e.1)) es) n) ≡ Some p
          → (get order (map (λ e. (view e.0, part e.1)) es) n ≡ Some p → (k : K) × (view k ≡ n) × (contains cmp (keys_of es) k ≡ true))
          → (k : K) × (view k ≡ n) × (contains cmp (keys_of (e ∷ es)) k ≡ true)
      by true is h rest = (e.0, sym (named_same seen.ties seen.itself n (view e.0) is), or_left (is_at (cmp e.0) e.0) (contains cmp (keys_of es) e.0) (same_view e.0 e.0 refl))
      by false is h rest = let (k, same, stands) = rest h in (k, same, or_right (is_at (cmp k) e.0) (contains cmp (keys_of es) k) stands)
