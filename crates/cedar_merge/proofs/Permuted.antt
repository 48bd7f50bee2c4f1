-- SPDX-License-Identifier: Apache-2.0
-- What two of a list have against each other doesn't depend on its order.
use Rattle.std.proofs.Common.{◌≡◌, ◌||◌, ◌&&◌, ◌+◌, ℕ, zero, suc, Bool, true, false, cond, List, [], ◌∷◌, Option, Some, None, refl, sym, ap, ◌∙◌, inl, inr, arith}
use Rattle.std.proofs.lemmas.List.Sums.{sum_by-cons}
use Rattle.std.proofs.lemmas.List.Sorted.{All-permutation, IsPermutation-sym, list_any-IsPermutation, sum_by-IsPermutation}
use Rattle.std.specs.List.{All, count_by, list_any}
use Rattle.std.specs.List.Sorted.{IsPermutation}
use Rattle.std.specs.Option.{is_some}
use Rattle.cedar_data.specs.Firsts.{SomePasses}
use Rattle.cedar_merge.specs.Lookups.{Fragment, Path, Place, annotated, declared, has_namespace}
use Rattle.cedar_merge.specs.Merged.{IsClash, IsConflict, Merged, NotePlace, SayTheSame, differ, unlike}
use Rattle.cedar_merge.specs.Pairs.{some_pair}
use Rattle.cedar_merge.proofs.Texts.{alike, itself_alike}

-- ---- two that pass a test

any_none : {A : Type 0} (xs : List A) → list_any (λ (y : A). false) xs ≡ false
any_none [] = refl
any_none (x ∷ xs) = any_none xs

-- there is one, and there are two
abbrev some_of : ℕ → Bool
some_of zero = false
some_of (suc n) = true

abbrev two_of : ℕ → Bool
two_of zero = false
two_of (suc n) = some_of n

none_more : (n : ℕ) → 0 + n ≡ n
none_more n = omega arith

one_more : (n : ℕ) → 1 + n ≡ suc n
one_more n = omega arith

some_or_two : (n : ℕ) → (some_of n || two_of n) ≡ some_of n
some_or_two zero = refl
some_or_two (suc n) = refl

any_counted : {A : Type 0} (p : A → Bool) (xs : List A) → list_any p xs ≡ some_of (count_by p xs)
any_counted p [] = refl
any_counted p (x ∷ xs) = by (p x) (any_counted p xs) ∙ ap some_of (sym (sum_by-cons (λ y. cond (p y) 1 0) x xs))
  where
    by : (b : Bool) → list_any p xs ≡ some_of (count_by p xs) → (b || list_any p xs) ≡ some_of (cond b 1 0 + count_by p xs)
    by true h = ap some_of (sym (one_more (count_by p xs)))
    by false h = h ∙ ap some_of (sym (none_more (count_by p xs)))

-- two pass where more than one is counted
counted : {A : Type 0} (p : A → Bool) (xs : List A) → some_pair (λ x y. p x && p y) xs ≡ two_of (count_by p xs)
counted p [] = refl
counted p (x ∷ xs) = by (p x) (counted p xs) ∙ ap two_of (sym (sum_by-cons (λ y. cond (p y) 1 0) x xs))
  where
    by : (b : Bool) → some_pair (λ x y. p x && p y) xs ≡ two_of (count_by p xs) → (list_any (λ y. b && p y) xs || some_pair (λ x y. p x && p y) xs) ≡ two_of (cond b 1 0 + count_by p xs)
    by true h = (λ i. any_counted p xs i || h i) ∙ some_or_two (count_by p xs) ∙ ap two_of (sym (one_more (count_by p xs)))
    by false h = ap (λ b. b || some_pair (λ x y. p x && p y) xs) (any_none xs) ∙ h ∙ ap two_of (sym (none_more (count_by p xs)))

-- ---- two that differ

any_or : {A : Type 0} (p q : A → Bool) (xs : List A) → list_any (λ x. p x || q x) xs ≡ (list_any p xs || list_any q xs)
any_or p q [] = refl
any_or p q (x ∷ xs) = ap (λ b. (p x || q x) || b) (any_or p q xs) ∙ by (p x) (q x) (list_any p xs) (list_any q xs)
  where
    by : (a b c d : Bool) → ((a || b) || (c || d)) ≡ ((a || c) || (b || d))
    by true b c d = refl
    by false true true d = refl
    by false true false d = refl
    by false false c d = refl

any_same : {A : Type 0} (p q : A → Bool) → ((x : A) → p x ≡ q x) → (xs : List A) → list_any p xs ≡ list_any q xs
any_same p q same [] = refl
any_same p q same (x ∷ xs) = λ i. same x i || any_same p q same xs i

module _ {A : Type 0} (against : A → A → Bool) (turn : (x y : A) → against x y ≡ against y x) (never : (x : A) → against x x ≡ false) where
  any_any : (xs : List A) → some_pair against xs ≡ list_any (λ x. list_any (against x) xs) xs
  any_any [] = refl
  any_any (x ∷ xs) =
      let a : Bool = list_any (against x) xs in
      let rest : list_any (λ y. against y x || list_any (against y) xs) xs ≡ (a || some_pair against xs)
      = any_or (λ y. against y x) (λ y. list_any (against y) xs) xs ∙ (λ i. any_same (λ y. against y x) (against x) (λ y. turn y x) xs i || sym (any_any xs) i) in
      by a (some_pair against xs) ∙ sym (λ i. (never x i || a) || rest i)
    where
      by : (a b : Bool) → (a || b) ≡ ((false || a) || (a || b))
      by true b = refl
      by false b = refl

  permuted : (xs ys : List A) → IsPermutation xs ys → some_pair against xs ≡ some_pair against ys
  permuted xs ys p =
      any_any xs ∙ list_any-IsPermutation (λ x. list_any (against x) xs) xs ys p
      ∙ any_same (λ x. list_any (against x) xs) (λ x. list_any (against x) ys) (λ x. list_any-IsPermutation (against x) xs ys p) ys ∙ sym (any_any ys)

unlike_turned : (s t : List ℕ) → unlike s t ≡ unlike t s
unlike_turned s t = by (unlike s t) (unlike t s) refl refl
  where
    by : (a b : Bool) → unlike s t ≡ a → unlike t s ≡ b → a ≡ b
    by true true p q = refl
    by false false p q = refl
    by true false p q = absurd (let wrong : true ≡ false = sym p ∙ ap (λ u. unlike u t) (sym (alike t s q)) ∙ itself_alike t in cc)
    by false true p q = absurd (let wrong : true ≡ false = sym q ∙ ap (λ u. unlike u s) (sym (alike s t p)) ∙ itself_alike s in cc)

differ_turned : (o p : Option (List ℕ)) → differ o p ≡ differ p o
differ_turned None None = refl
differ_turned None (Some t) = refl
differ_turned (Some s) None = refl
differ_turned (Some s) (Some t) = unlike_turned s t

differ_never : (o : Option (List ℕ)) → differ o o ≡ false
differ_never None = refl
differ_never (Some s) = itself_alike s

-- ---- clashes and conflicts

module _ (L M : List Fragment) (permutes : IsPermutation L M) where
  clashes_same : (p : Place) → some_pair (λ f g. is_some (declared p f) && is_some (declared p g)) L ≡ some_pair (λ f g. is_some (declared p f) && is_some (declared p g)) M
  clashes_same p =
      counted (λ f. is_some (declared p f)) L ∙ ap two_of (sym (sum_by-IsPermutation (λ f. cond (is_some (declared p f)) 1 0) L M permutes)) ∙ sym (counted (λ f. is_some (declared p f)) M)

  conflicts_same : (p : NotePlace) → some_pair (λ f g. differ (annotated (Some p.namespace) p.key f) (annotated (Some p.namespace) p.key g)) L ≡ some_pair (λ f g. differ (annotated (Some p.namespace) p.key f) (annotated (Some p.namespace) p.key g)) M
  conflicts_same p =
      permuted (λ f g. differ (annotated (Some p.namespace) p.key f) (annotated (Some p.namespace) p.key g))
      (λ f g. differ_turned (annotated (Some p.namespace) p.key f) (annotated (Some p.namespace) p.key g)) (λ f. differ_never (annotated (Some p.namespace) p.key f)) L M permutes

  pub clash_permuted : (p : Place) → IsClash L p → IsClash M p
  clash_permuted p is = record { holds = sym (clashes_same p) ∙ is.holds; least = λ q clashes. is.least q (clashes_same q ∙ clashes) }

  pub conflict_permuted : (p : NotePlace) → IsConflict L p → IsConflict M p
  conflict_permuted p is = record { holds = sym (conflicts_same p) ∙ is.holds; least = λ q conflicts. is.least q (conflicts_same q ∙ conflicts) }

-- ---- what is merged

module _ {A : Type 0} (P : A → Type 0) (S : Type 0) where
  passes_in : (xs : List A) → SomePasses P xs → All (λ x. P x → S) xs → S
  passes_in [] some all = absurd some
  passes_in (x ∷ xs) (inl p) all = all 0 x (omega arith) p
  passes_in (x ∷ xs) (inr later) all = passes_in xs later (λ k d h. all (suc k) d (omega arith))

  each_in : (xs : List A) → (SomePasses P xs → S) → All (λ x. P x → S) xs
  each_in [] inside k d h = absurd (omega arith)
  each_in (x ∷ xs) inside zero d h = λ p. inside (inl p)
  each_in (x ∷ xs) inside (suc k) d h = each_in xs (λ later. inside (inr later)) k d (omega arith)

some_permuted : {A : Type 0} (P : A → Type 0) (xs ys : List A) → IsPermutation xs ys → SomePasses P xs → SomePasses P ys
some_permuted P xs ys p some = passes_in P (SomePasses P ys) xs some (All-permutation (λ x. P x → SomePasses P ys) ys xs (IsPermutation-sym xs ys p) (each_in P (SomePasses P ys) ys (λ later. later)))

same_option : {A : Type 0} (o p : Option A) → ((a : A) → o ≡ Some a → p ≡ Some a) → ((a : A) → p ≡ Some a → o ≡ Some a) → o ≡ p
same_option None None f g = refl
same_option None (Some b) f g = g b refl
same_option (Some a) p f g = sym (f a refl)

module _ (L M : List Fragment) (permutes : IsPermutation L M) (F G : Fragment) (f : Merged L F) (g : Merged M G) where
  back : IsPermutation M L
  back = IsPermutation-sym L M permutes

  annotations : (ns : Path) (key : List ℕ) → annotated ns key F ≡ annotated ns key G
  annotations None key = f.unnamed key ∙ sym (g.unnamed key)
  annotations (Some ns) key = same_option (annotated (Some ns) key F) (annotated (Some ns) key G)
      (λ t is. (g.annotations ns key t).1 (some_permuted (λ f. annotated (Some ns) key f ≡ Some t) L M permutes ((f.annotations ns key t).0 is)))
      (λ t is. (f.annotations ns key t).1 (some_permuted (λ f. annotated (Some ns) key f ≡ Some t) M L back ((g.annotations ns key t).0 is)))

  pub merged_permuted : SayTheSame F G
  merged_permuted = record {
    namespaces = λ ns. f.namespaces ns ∙ list_any-IsPermutation (has_namespace ns) L M permutes ∙ sym (g.namespaces ns);
    declarations = λ p. same_option (declared p F) (declared p G)
        (λ d is. (g.declarations p d).1 (some_permuted (λ f. declared p f ≡ Some d) L M permutes ((f.declarations p d).0 is)))
        (λ d is. (f.declarations p d).1 (some_permuted (λ f. declared p f ≡ Some d) M L back ((g.declarations p d).0 is)));
    annotations = annotations;
  }
