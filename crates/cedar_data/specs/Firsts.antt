-- SPDX-License-Identifier: Apache-2.0
-- What comes first: the first item that is refused, the first of a list, the first that stands a second time, the least.
use Rattle.std.specs.Prelude.{◌≡◌, ◌⊎◌, ◌++◌, Bool, false, IsTrue, List, [], ◌∷◌}
use Rattle.std.specs.declared.cmp.Ordering.{Ordering}
use Rattle.std.specs.declared.cmp.Ordering.TheVariants.{Less}
use Rattle.std.specs.List.{list_any}

-- each item passes
abbrev pub AllPass : {A : Type 0} → (A → Type 0) → List A → Type 0
AllPass Passes [] = Unit {0}
AllPass Passes (x ∷ xs) = Passes x × AllPass Passes xs

-- some item passes
abbrev pub SomePasses : {A : Type 0} → (A → Type 0) → List A → Type 0
SomePasses Passes [] = ⊥
SomePasses Passes (x ∷ xs) = Passes x ⊎ SomePasses Passes xs

-- an item is refused with e, and those before it pass
abbrev pub FirstRefused : {A E : Type 0} → (A → Type 0) → (A → E → Type 0) → List A → E → Type 0
FirstRefused Passes Refuses [] e = ⊥
FirstRefused Passes Refuses (x ∷ xs) e = Refuses x e ⊎ (Passes x × FirstRefused Passes Refuses xs e)

-- x is the first of the list
abbrev pub IsFirst : {A : Type 0} → List A → A → Type 0
IsFirst {A} xs x = (rest : List A) × (xs ≡ x ∷ rest)

-- no item is one of those before it
abbrev pub NoneAgain : {A : Type 0} → (A → A → Bool) → List A → List A → Type 0
NoneAgain same before [] = Unit {0}
NoneAgain same before (x ∷ xs) = (list_any (same x) before ≡ false) × NoneAgain same (before ++ x ∷ []) xs

-- y is the first item that is one of those before it
abbrev pub FirstAgain : {A : Type 0} → (A → A → Bool) → List A → List A → A → Type 0
FirstAgain same before [] y = ⊥
FirstAgain same before (x ∷ xs) y =
    (IsTrue (list_any (same x) before) × (y ≡ x)) ⊎ ((list_any (same x) before ≡ false) × FirstAgain same (before ++ x ∷ []) xs y)

-- P holds of x, and of none that is less
pub record IsLeast {A : Type 0} (cmp : A → A → Ordering) (P : A → Type 0) (x : A) : Type 0 where
  pub holds : P x
  pub least : (y : A) → P y → cmp y x ≡ Less → ⊥
