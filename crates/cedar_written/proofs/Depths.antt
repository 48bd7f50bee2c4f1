-- SPDX-License-Identifier: Apache-2.0
-- Values of maps are no deeper than the deepest of them.
use Rattle.std.proofs.Common.{◌≡◌, ◌≤◌, ℕ, List, [], ◌∷◌, ◌++◌, arith, subst, sym, ap, ◌∙◌}
use Rattle.std.specs.Map.{values_of}
use denote.Param.Weighed.{most}

behind : {K V : Type 0} (size : V → ℕ) (done rest : List (K × V)) (key : K) (value : V) → size value ≤ most size (values_of (done ++ (key, value) ∷ rest))
behind size [] rest key value = omega arith
behind size (x ∷ done) rest key value = let h = behind size done rest key value in omega (arith, h)

-- the entry before a loop that has passed `done`
pub value_within : {K V : Type 0} (size : V → ℕ) (done : List (K × V)) {left rest whole : List (K × V)} {key : K} {value : V} → done ++ left ≡ whole → left ≡ (key, value) ∷ rest → size value ≤ most size (values_of whole)
value_within size done {left} {rest} {whole} {key} {value} split first =
    subst (λ es. size value ≤ most size (values_of es)) (ap (λ es. done ++ es) (sym first) ∙ split) (behind size done rest key value)
