-- SPDX-License-Identifier: Apache-2.0
-- What is decided: it holds, or it doesn't.
use Rattle.std.proofs.Common.{◌≡◌, ◌⊎◌, ◌&&◌, inl, inr, Bool, true, false, List, refl, subst}
use Rattle.std.specs.declared.cmp.Ordering.{Ordering}
use Rattle.std.specs.declared.cmp.Ordering.TheVariants.{Less, Equal, Greater}
use Rattle.cedar_data.proofs.Exact.{IsExact}
use Rattle.cedar_data.specs.Sets.{IsSetOf, contains}
use Rattle.cedar_sound.proofs.SortedMaps.{itself}

-- it holds, or it doesn't
abbrev pub Decided : Type 0 → Type 0
Decided P = P ⊎ (P → ⊥)

not_true : false ≡ true → ⊥
not_true e = cc

not_false : true ≡ false → ⊥
not_false e = cc

pub decided_true : (b : Bool) → Decided (b ≡ true)
decided_true true = inl refl
decided_true false = inr not_true

pub decided_false : (b : Bool) → Decided (b ≡ false)
decided_false true = inr not_false
decided_false false = inl refl

-- so is what holds exactly where it does
pub decided_as : {P Q : Type 0} → (P → Q) → (Q → P) → Decided P → Decided Q
decided_as f g (inl p) = inl (f p)
decided_as f g (inr not_p) = inr (λ q. not_p (g q))

-- so are two
pub decided_both : {P Q : Type 0} → Decided P → Decided Q → Decided (P × Q)
decided_both (inl p) (inl q) = inl (p, q)
decided_both (inl p) (inr not_q) = inr (λ both. not_q both.1)
decided_both (inr not_p) q = inr (λ both. not_p both.0)

-- what a set holds is decided
pub decided_in : {K : Type 0} {cmp : K → K → Ordering} (P : K → Type 0) (ks : List K) → IsSetOf cmp P ks → (k : K) → Decided (P k)
decided_in {K} {cmp} P ks is k = decided_as (is.members k).0 (is.members k).1 (decided_true (contains cmp ks k))

-- ---- booleans

pub both_true : (x y : Bool) → (x && y) ≡ true → (x ≡ true) × (y ≡ true)
both_true true y e = (refl, e)
both_true false y e = absurd (cc)

-- ---- what an order ties

not_less : Less ≡ Equal → ⊥
not_less e = cc

not_greater : Greater ≡ Equal → ⊥
not_greater e = cc

decided_equal : (o : Ordering) → Decided (o ≡ Equal)
decided_equal Less = inr not_less
decided_equal Equal = inl refl
decided_equal Greater = inr not_greater

-- whether two are one is decided where an order ties what is equal alone
pub decided_same : {A : Type 0} {cmp : A → A → Ordering} → IsExact cmp → (x y : A) → Decided (x ≡ y)
decided_same {A} {cmp} order x y = decided_as (order.exact x y) (λ same. subst (λ z. cmp x z ≡ Equal) same (itself order.total x)) (decided_equal (cmp x y))
