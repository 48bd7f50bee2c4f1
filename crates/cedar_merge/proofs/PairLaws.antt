-- SPDX-License-Identifier: Apache-2.0
-- What two of a list have against each other, as the list grows.
use Rattle.std.proofs.Common.{◌≡◌, ◌||◌, ◌&&◌, ◌++◌, Bool, true, false, List, [], ◌∷◌, Option, Some, None, refl, sym, ap, ◌∙◌}
use Rattle.std.proofs.lemmas.List.Folds.{list_any-append}
use Rattle.std.specs.List.{list_any}
use Rattle.std.specs.Option.{is_some, option_or}
use Rattle.cedar_merge.specs.Joining.{always, last_some}
use Rattle.cedar_merge.specs.Pairs.{opposed, some_pair}

or-false : (a : Bool) → (a || false) ≡ a
or-false true = refl
or-false false = refl

or-assoc : (a b c : Bool) → ((a || b) || c) ≡ (a || (b || c))
or-assoc true b c = refl
or-assoc false b c = refl

-- of three, the middle goes to the front or the back
or-turn : (a b c : Bool) → (a || (b || c)) ≡ (b || (a || c))
or-turn true true c = refl
or-turn true false c = refl
or-turn false b c = refl

-- declarations are opposed where both are there
pub both_there : {A : Type 0} (o p : Option A) → opposed always o p ≡ (is_some o && is_some p)
both_there None p = refl
both_there (Some a) None = refl
both_there (Some a) (Some b) = refl

module _ {A : Type 0} where
  pub or-none : (o : Option A) → option_or o None ≡ o
  or-none None = refl
  or-none (Some a) = refl

  pub or-first : (o p q : Option A) → option_or (option_or o p) q ≡ option_or o (option_or p q)
  or-first None p q = refl
  or-first (Some a) p q = refl

  -- one more at the end
  pub last_some-append : (os : List (Option A)) (o : Option A) → last_some (os ++ o ∷ []) ≡ option_or o (last_some os)
  last_some-append [] o = sym (or-none o)
  last_some-append (p ∷ os) o = ap (λ l. option_or l p) (last_some-append os o) ∙ or-first o (last_some os) p

module _ {A : Type 0} (against : A → A → Bool) where
  -- what is not there stands against nothing
  pub opposed-none : (o : Option A) → opposed against o None ≡ false
  opposed-none None = refl
  opposed-none (Some a) = refl

  none_opposed : (os : List (Option A)) → list_any (opposed against None) os ≡ false
  none_opposed [] = refl
  none_opposed (o ∷ os) = none_opposed os

  any-append : (test : Option A → Bool) (os : List (Option A)) (o : Option A) → list_any test (os ++ o ∷ []) ≡ (list_any test os || test o)
  any-append test os o = list_any-append test os (o ∷ []) ∙ ap (λ b. list_any test os || b) (or-false (test o))

  -- where nothing is there, nothing passes
  none_any : (test : Option A → Bool) → test None ≡ false → (os : List (Option A)) → last_some os ≡ None → list_any test os ≡ false
  none_any test none [] is = refl
  none_any test none (None ∷ os) is = ap (λ b. b || list_any test os) none ∙ none_any test none os (sym (or-none (last_some os)) ∙ is)
  none_any test none (Some a ∷ os) is = absurd (by (last_some os) is)
    where
      by : (o : Option A) → option_or o (Some a) ≡ None → ⊥
      by None e = cc
      by (Some b) e = cc

  -- the last that is there is among them
  pub last_any : (test : Option A → Bool) (os : List (Option A)) (a : A) → last_some os ≡ Some a → test (Some a) ≡ true → list_any test os ≡ true
  last_any test [] a is passes = absurd (cc)
  last_any test (o ∷ os) a is passes = by (last_some os) refl (λ among. last_any test os a among passes)
    where
      by : (l : Option A) → last_some os ≡ l → (last_some os ≡ Some a → list_any test os ≡ true) → list_any test (o ∷ os) ≡ true
      by None none rest =
          let here : o ≡ Some a = sym (ap (λ l. option_or l o) none) ∙ is in
          ap (λ o. test o || list_any test os) here ∙ ap (λ b. b || list_any test os) passes
      by (Some b) some rest =
          let same : Some b ≡ Some a = sym (ap (λ l. option_or l o) some) ∙ is in
          ap (λ b. test o || b) (rest (some ∙ same)) ∙ or_true (test o)
        where
          or_true : (b : Bool) → (b || true) ≡ true
          or_true true = refl
          or_true false = refl

  -- an item that is not there changes nothing
  pub pair-none : (os : List (Option A)) → some_pair (opposed against) (os ++ None ∷ []) ≡ some_pair (opposed against) os
  pair-none [] = refl
  pair-none (o ∷ os) = λ i. (any-append (opposed against o) os None ∙ ap (λ b. list_any (opposed against o) os || b) (opposed-none o) ∙ or-false (list_any (opposed against o) os)) i || pair-none os i

  module _ (joins : (a b c : A) → against a b ≡ false → against b c ≡ false → against a c ≡ false) where
    -- one more item stands against one of them where it stands against the last that is there
    pub pair-append : (os : List (Option A)) (a : A) → some_pair (opposed against) (os ++ Some a ∷ []) ≡ (some_pair (opposed against) os || opposed against (last_some os) (Some a))
    pair-append [] a = refl
    pair-append (o ∷ os) a =
        (λ i. any-append (opposed against o) os (Some a) i || pair-append os a i) ∙ by (last_some os) refl o
      where
        new : Option A
        new = Some a

        pairs : Bool
        pairs = some_pair (opposed against) os

        -- where the first stands against the new one, it stands against the last before, or that does
        passed : (b c : A) → last_some os ≡ Some b → against c a ≡ true → (list_any (opposed against (Some c)) os || (pairs || against b a)) ≡ true
        passed b c last is = split (against b a) refl (against c b) refl
          where
            any : Bool
            any = list_any (opposed against (Some c)) os

            split : (x : Bool) → against b a ≡ x → (y : Bool) → against c b ≡ y → (any || (pairs || against b a)) ≡ true
            split true p y q = ap (λ z. any || (pairs || z)) p ∙ all_true any pairs
              where
                all_true : (x y : Bool) → (x || (y || true)) ≡ true
                all_true true y = refl
                all_true false true = refl
                all_true false false = refl
            split false p true q = ap (λ z. z || (pairs || against b a)) (last_any (opposed against (Some c)) os b last q)
            split false p false q = absurd (let wrong : true ≡ false = sym is ∙ joins c b a q p in cc)

        absorbed : (x y z w : Bool) → (y ≡ true → (x || (z || w)) ≡ true) → ((x || y) || (z || w)) ≡ ((x || z) || w)
        absorbed true y z w h = refl
        absorbed false true z w h = sym (h refl)
        absorbed false false z w h = refl

        by : (l : Option A) → last_some os ≡ l → (o : Option A)
            → ((list_any (opposed against o) os || opposed against o new) || (pairs || opposed against (last_some os) new))
            ≡ ((list_any (opposed against o) os || pairs) || opposed against (option_or (last_some os) o) new)
        by None none o =
            let nothing : list_any (opposed against o) os ≡ false = none_any (opposed against o) (opposed-none o) os none in
            (λ i. (nothing i || opposed against o new) || (pairs || opposed against (none i) new))
            ∙ ap (λ b. opposed against o new || b) (or-false pairs)
            ∙ or_comm (opposed against o new) pairs
            ∙ sym (λ i. (nothing i || pairs) || opposed against (option_or (none i) o) new)
          where
            or_comm : (x y : Bool) → (x || y) ≡ (y || x)
            or_comm true true = refl
            or_comm true false = refl
            or_comm false true = refl
            or_comm false false = refl
        by (Some b) some None =
            absorbed (list_any (opposed against None) os) false pairs (opposed against (last_some os) new) (λ e. absurd (cc))
            ∙ ap (λ l. (list_any (opposed against None) os || pairs) || opposed against l new) (sym (or-none (last_some os)))
        by (Some b) some (Some c) =
            ap (λ l. (list_any (opposed against (Some c)) os || against c a) || (pairs || opposed against l new)) some
            ∙ absorbed (list_any (opposed against (Some c)) os) (against c a) pairs (against b a) (passed b c some)
            ∙ sym (ap (λ l. (list_any (opposed against (Some c)) os || pairs) || opposed against (option_or l (Some c)) new) some)

    -- the last item gets what it had not: it stands then against one of the others where it stands against the last that is there
    pub pair-grows : (os : List (Option A)) (had more : Option A) → (Rattle.std.specs.Option.is_some more ≡ true → had ≡ None)
        → some_pair (opposed against) (os ++ option_or more had ∷ []) ≡ (some_pair (opposed against) (os ++ had ∷ []) || opposed against (last_some (os ++ had ∷ [])) more)
    pair-grows os had None fresh = sym (ap (λ b. some_pair (opposed against) (os ++ had ∷ []) || b) (opposed-none (last_some (os ++ had ∷ []))) ∙ or-false (some_pair (opposed against) (os ++ had ∷ [])))
    pair-grows os had (Some a) fresh =
        let none = fresh refl in
        pair-append os a
        ∙ sym (λ i. (ap (λ h. some_pair (opposed against) (os ++ h ∷ [])) none ∙ pair-none os) i || opposed against ((ap (λ h. last_some (os ++ h ∷ [])) none ∙ last_some-append os None) i) (Some a))
