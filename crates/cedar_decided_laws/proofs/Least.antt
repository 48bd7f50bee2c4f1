-- SPDX-License-Identifier: Apache-2.0
-- Of what is decided and holds of listed items alone, there is none, or a least; so of pairs.
use Rattle.std.proofs.Common.{◌≡◌, ◌⊎◌, inl, inr, List, [], ◌∷◌, refl, sym, ◌∙◌, subst, ⊎_elim}
use Rattle.std.specs.declared.cmp.Ordering.{Ordering}
use Rattle.std.specs.declared.cmp.Ordering.TheVariants.{Less, Equal, Greater}
use Rattle.cedar_data.proofs.Exact.{IsExact}
use Rattle.cedar_data.specs.Firsts.{IsLeast}
use Rattle.cedar_shadowing.specs.Shadowing.{IsLeastPair, NoPair}
use Rattle.cedar_sound.proofs.Chains.{Among}
use Rattle.cedar_sound.proofs.SortedMaps.{itself}
use Rattle.cedar_decided_laws.proofs.Deciding.{Decided}

equal_less : Equal ≡ Less → ⊥
equal_less e = cc

greater_less : Greater ≡ Less → ⊥
greater_less e = cc

module _ {A : Type 0} {cmp : A → A → Ordering} (order : IsExact cmp) where
  not_below_itself : (x y : A) → x ≡ y → cmp y x ≡ Less → ⊥
  not_below_itself x y same less = equal_less (sym (itself order.total x) ∙ subst (λ z. cmp z x ≡ Less) (sym same) less)

  module _ (P : A → Type 0) (decide : (x : A) → Decided (P x)) where
    -- P holds of none of the list
    abbrev None : List A → Type 0
    None xs = (y : A) → Among xs y → P y → ⊥

    -- P holds of x, and of none of the list that is less
    record IsLeastOf (xs : List A) (x : A) : Type 0 where
      pub holds : P x
      pub least : (y : A) → Among xs y → P y → cmp y x ≡ Less → ⊥

    abbrev Searched : List A → Type 0
    Searched xs = None xs ⊎ ((x : A) × IsLeastOf xs x)

    -- the first of the list, before others among which this one is the least
    lesser : (x : A) (xs : List A) (z : A) → P x → IsLeastOf xs z → (o : Ordering) → cmp x z ≡ o → Searched (x ∷ xs)
    lesser x xs z p least Less is = inr (
      x,
      record {
        holds = p;
        least = λ y among q less. ⊎_elim (λ same. not_below_itself x y same less) (λ rest. least.least y rest q (order.total.trans y x z less is)) among;
      },
    )
    lesser x xs z p least Equal is = inr (
      z,
      record {
        holds = least.holds;
        least = λ y among q less. ⊎_elim (λ same. equal_less (sym is ∙ subst (λ w. cmp w z ≡ Less) (sym same) less)) (λ rest. least.least y rest q less) among;
      },
    )
    lesser x xs z p least Greater is = inr (
      z,
      record {
        holds = least.holds;
        least = λ y among q less. ⊎_elim (λ same. greater_less (sym is ∙ subst (λ w. cmp w z ≡ Less) (sym same) less)) (λ rest. least.least y rest q less) among;
      },
    )

    with_first : (x : A) (xs : List A) → Decided (P x) → Searched xs → Searched (x ∷ xs)
    with_first x xs (inl p) (inl none) = inr (
      x,
      record {
        holds = p;
        least = λ y among q less. ⊎_elim (λ same. not_below_itself x y same less) (λ rest. none y rest q) among;
      },
    )
    with_first x xs (inl p) (inr found) = lesser x xs found.0 p found.1 (cmp x found.0) refl
    with_first x xs (inr not_p) (inl none) = inl (λ y among q. ⊎_elim (λ same. not_p (subst P (sym same) q)) (λ rest. none y rest q) among)
    with_first x xs (inr not_p) (inr found) = inr (
      found.0,
      record {
        holds = found.1.holds;
        least = λ y among q less. ⊎_elim (λ same. not_p (subst P (sym same) q)) (λ rest. found.1.least y rest q less) among;
      },
    )

    searched : (xs : List A) → Searched xs
    searched [] = inl (λ y among q. among)
    searched (x ∷ xs) = with_first x xs (decide x) (searched xs)

    -- P holds of none, or of a least
    pub none_or_least : (xs : List A) → ((x : A) → P x → Among xs x) → ((x : A) → P x → ⊥) ⊎ ((x : A) × IsLeast cmp P x)
    none_or_least xs all = by (searched xs)
      where
        by : Searched xs → ((x : A) → P x → ⊥) ⊎ ((x : A) × IsLeast cmp P x)
        by (inl none) = inl (λ x p. none x (all x p) p)
        by (inr found) = inr (found.0, record { holds = found.1.holds; least = λ y q. found.1.least y (all y q) q })

  module _ (R : A → A → Type 0) (decide : (x y : A) → Decided (R x y)) (xs : List A) (firsts : (x y : A) → R x y → Among xs x) (seconds : (x y : A) → R x y → Among xs y) where
    second : (x : A) → ((y : A) → R x y → ⊥) ⊎ ((y : A) × IsLeast cmp (R x) y)
    second x = none_or_least (R x) (decide x) xs (seconds x)

    has_second : (x : A) → Decided ((y : A) × R x y)
    has_second x = by (second x)
      where
        by : ((y : A) → R x y → ⊥) ⊎ ((y : A) × IsLeast cmp (R x) y) → Decided ((y : A) × R x y)
        by (inl none) = inr (λ some. none some.0 some.1)
        by (inr found) = inl (found.0, found.1.holds)

    abbrev Pair : Type 0
    Pair = (a : A) × (b : A) × IsLeastPair cmp R a b

    paired : (a : A) → IsLeast cmp (λ x. (y : A) × R x y) a → ((y : A) → R a y → ⊥) ⊎ ((y : A) × IsLeast cmp (R a) y) → Pair
    paired a first (inl none) = absurd (none first.holds.0 first.holds.1)
    paired a first (inr found) = (a, found.0, record { first = first; second = found.1 })

    -- R holds of no two, or of a least pair
    pub none_or_pair : NoPair R ⊎ Pair
    none_or_pair = by (none_or_least (λ x. (y : A) × R x y) has_second xs (λ x some. firsts x some.0 some.1))
      where
        by : ((x : A) → ((y : A) × R x y) → ⊥) ⊎ ((x : A) × IsLeast cmp (λ x. (y : A) × R x y) x) → NoPair R ⊎ Pair
        by (inl none) = inl (λ a b r. none a (b, r))
        by (inr found) = inr (paired found.0 found.1 (second found.0))
