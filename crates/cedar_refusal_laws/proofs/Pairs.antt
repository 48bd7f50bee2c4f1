-- SPDX-License-Identifier: Apache-2.0
-- Lists of which each two items are related, the earlier to the later.
use Rattle.std.proofs.Common.{◌≡◌, ◌++◌, ◌||◌, Bool, true, false, IsTrue, List, [], ◌∷◌, map, inl, inr, refl, ap, ◌∙◌}
use Rattle.std.proofs.lemmas.List.Folds.{list_any-append}
use Rattle.std.specs.List.{AllByRecursion, flat_map, list_any}
use Rattle.std.specs.List.Sorted.{IsStrictlySortedBy}
use Rattle.std.specs.Map.{keys_of}
use Rattle.std.specs.declared.cmp.Ordering.{Ordering}
use Rattle.std.specs.declared.cmp.Ordering.TheVariants.{Less}
use Rattle.cedar_data.specs.Firsts.{AllPass, FirstAgain}
use Rattle.cedar_data.specs.Maps.{IsSortedMap}
use Rattle.cedar_sound.proofs.NothingMissed.{pass_append, pass_map, pass_weaker}
use Rattle.cedar_refusal_laws.proofs.Members.{pass_both, pass_each_item}

-- each item is related to each behind it
abbrev pub EachTwo : {A : Type 0} → (A → A → Type 0) → List A → Type 0
EachTwo R [] = Unit {0}
EachTwo R (x ∷ xs) = AllPass (R x) xs × EachTwo R xs

-- each item of a list is related to each of another
abbrev pub Across : {A B : Type 0} → (A → B → Type 0) → List A → List B → Type 0
Across R xs ys = AllPass (λ x. AllPass (R x) ys) xs

-- by what is known of the items of each
pub across : {A B : Type 0} (P : A → Type 0) (Q : B → Type 0) (R : A → B → Type 0) → ((x : A) (y : B) → P x → Q y → R x y) → (xs : List A) (ys : List B) → AllPass P xs → AllPass Q ys → Across R xs ys
across P Q R f xs ys p q = pass_weaker P (λ x. AllPass (R x) ys) (λ x h. pass_weaker Q (R x) (λ y. f x y h) ys q) xs p

pub across_none : {A B : Type 0} (R : A → B → Type 0) (xs : List A) → Across R xs []
across_none R xs = pass_each_item (λ x. AllPass (R x) []) (λ x. tt) xs

-- whatever the items are
pub across_maps : {A B X Y : Type 0} (R : A → B → Type 0) (f : X → A) (g : Y → B) → ((x : X) (y : Y) → R (f x) (g y)) → (xs : List X) (ys : List Y) → Across R (map f xs) (map g ys)
across_maps R f g each xs ys = pass_map (λ a. AllPass (R a) (map g ys)) f xs (pass_each_item (λ x. AllPass (R (f x)) (map g ys)) (λ x. pass_map (R (f x)) g ys (pass_each_item (λ y. R (f x) (g y)) (each x) ys)) xs)

pub across_append : {A B : Type 0} (R : A → B → Type 0) (xs : List A) (ys zs : List B) → Across R xs ys → Across R xs zs → Across R xs (ys ++ zs)
across_append R xs ys zs p q = pass_both (λ x. AllPass (R x) ys) (λ x. AllPass (R x) zs) (λ x. AllPass (R x) (ys ++ zs)) (λ x. pass_append (R x) ys zs) xs p q

module _ {A : Type 0} (R : A → A → Type 0) where
  pub two_append : (xs ys : List A) → EachTwo R xs → EachTwo R ys → Across R xs ys → EachTwo R (xs ++ ys)
  two_append [] ys p q c = q
  two_append (x ∷ xs) ys p q c = (pass_append (R x) xs ys p.0 c.0, two_append xs ys p.1 q c.1)

  -- lists one behind another, each item of one related to each of a later one
  across_flat : {B : Type 0} (f : B → List A) (xs : List A) (bs : List B) → AllPass (λ b. Across R xs (f b)) bs → Across R xs (flat_map f bs)
  across_flat f xs [] c = across_none R xs
  across_flat f xs (b ∷ bs) c = across_append R xs (f b) (flat_map f bs) c.0 (across_flat f xs bs c.1)

  pub two_flat : {B : Type 0} (f : B → List A) (bs : List B) → AllPass (λ b. EachTwo R (f b)) bs → EachTwo (λ b c. Across R (f b) (f c)) bs → EachTwo R (flat_map f bs)
  two_flat f [] each two = tt
  two_flat f (b ∷ bs) each two = two_append (f b) (flat_map f bs) each.0 (two_flat f bs each.1 two.1) (across_flat f (f b) bs two.0)

  pub two_map : {B : Type 0} (f : B → A) (bs : List B) → EachTwo (λ b c. R (f b) (f c)) bs → EachTwo R (map f bs)
  two_map f [] two = tt
  two_map {B} f (b ∷ bs) two = (all bs two.0, two_map f bs two.1)
    where
      all : (cs : List B) → AllPass (λ c. R (f b) (f c)) cs → AllPass (R (f b)) (map f cs)
      all [] h = tt
      all (c ∷ cs) h = (h.0, all cs h.1)

  pub two_weaker : (P : A → Type 0) (S : A → A → Type 0) → ((x y : A) → P x → P y → R x y → S x y) → (xs : List A) → AllPass P xs → EachTwo R xs → EachTwo S xs
  two_weaker P S f [] p two = tt
  two_weaker P S f (x ∷ xs) p two = (pass_both P (R x) (S x) (λ y. f x y p.0) xs p.1 two.0, two_weaker P S f xs p.1 two.1)

-- the entries of a map ascend
pub entries_ascend : {K V : Type 0} (cmp : K → K → Ordering) (es : List (K × V)) → IsSortedMap cmp es → EachTwo (λ x y. cmp x.0 y.0 ≡ Less) es
unfolding IsStrictlySortedBy
entries_ascend cmp [] sorted = tt
entries_ascend {K} {V} cmp (e ∷ es) sorted = (all es sorted.0, entries_ascend cmp es sorted.1)
  where
    all : (es : List (K × V)) → AllByRecursion (λ k. cmp e.0 k ≡ Less) (keys_of es) → AllPass (λ x. cmp e.0 x.0 ≡ Less) es
    all [] h = tt
    all (x ∷ es) h = (h.0, all es h.1)

-- ---- what stands a second time

module _ {A : Type 0} (same : A → A → Bool) where
  -- the second of two is not the first
  abbrev pub Apart : A → A → Type 0
  Apart x y = same y x ≡ false

  not_both : (b : Bool) → IsTrue b → b ≡ false → ⊥
  not_both true is isnt = cc
  not_both false is isnt = cc

  behind : (before : List A) (x : A) (ys : List A) → AllPass (λ y. list_any (same y) before ≡ false) ys → AllPass (Apart x) ys → AllPass (λ y. list_any (same y) (before ++ x ∷ []) ≡ false) ys
  behind before x ys outside apart = pass_both (λ y. list_any (same y) before ≡ false) (Apart x) (λ y. list_any (same y) (before ++ x ∷ []) ≡ false)
      (λ y out is. list_any-append (same y) before (x ∷ []) ∙ ap (λ b. b || (same y x || false)) out ∙ ap (λ b. b || false) is) ys outside apart

  never_again : (before xs : List A) → AllPass (λ x. list_any (same x) before ≡ false) xs → EachTwo Apart xs → (y : A) → FirstAgain same before xs y → ⊥
  never_again before [] outside two y again = again
  never_again before (x ∷ xs) outside two y again = elim again [
    | inl here ↦ not_both (list_any (same x) before) here.0 outside.0
    | inr later ↦ never_again (before ++ x ∷ []) xs (behind before x xs outside.1 two.0) two.1 y later.1
  ]

  -- where each two are apart, none stands a second time
  pub none_twice : (xs : List A) → EachTwo Apart xs → (y : A) → FirstAgain same [] xs y → ⊥
  none_twice xs = never_again [] xs (pass_each_item (λ x. list_any (same x) [] ≡ false) (λ x. refl) xs)
