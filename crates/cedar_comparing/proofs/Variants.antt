-- SPDX-License-Identifier: Apache-2.0
-- The equality of two variants, as a derive gives it.
use denote.Enum.Compared.{Each, by}
use denote.Enum.Declared.{Choice}
use denote.Struct.Field.{Field}
use denote.Struct.Values.{Values}
use mathlib.Core.Bool.{true≢false}
use mathlib.Core.Logic.{inl, inr, ⊎_elim}
use Rattle.std.specs.Prelude.{Bool, true, false, List, [], ◌∷◌}
use Rattle.std.proofs.Common.{◌≡◌, refl, sym}

-- the other is of the same variant, and its values are equal, where `top` tells what a choice is among all variants
abbrev pub IsAlike : {Top : Type 0} (Fss : List (List Field)) → Each Bool Fss → (Choice Fss → Top) → Choice Fss → Top → Type 0
IsAlike [] each top c other = ⊥
IsAlike (Fs ∷ Fss) each top c other =
    ⊎_elim (λ x. (y : Values Fs) × (other ≡ top (inl y)) × (each.0 x y ≡ true)) (λ later. IsAlike Fss each.1 (λ d. top (inr d)) later other) c

pub alike : {Top : Type 0} (Fss : List (List Field)) (each : Each Bool Fss) (top : Choice Fss → Top) (c d : Choice Fss) → by false false Fss each c d ≡ true → IsAlike Fss each top c (top d)
alike [] each top c d h = absurd c
alike (Fs ∷ Fss) each top (inl x) (inl y) h = (y, refl, h)
alike (Fs ∷ Fss) each top (inl x) (inr d) h = absurd (true≢false (sym h))
alike (Fs ∷ Fss) each top (inr c) (inl y) h = absurd (true≢false (sym h))
alike (Fs ∷ Fss) each top (inr c) (inr d) h = alike Fss each.1 (λ d. top (inr d)) c d h
