-- SPDX-License-Identifier: Apache-2.0
-- Names of entity types, but for those with `__cedar`.
use Rattle.std.proofs.Common.{◌≡◌, Bool, true, false, not, List, [], ◌∷◌, cond, refl, ap}
use Rattle.std.specs.List.{filter}
use Rattle.cedar_names.specs.Components.{has_cedar}
use Rattle.cedar_missing.specs.of_schema_error.FullNames.{FullName}
use Rattle.cedar_undeclared.specs.Undeclared.{is_free}

-- where no name has `__cedar`, none is left out
pub none_left_out : (ns : List FullName) → filter has_cedar ns ≡ [] → filter is_free ns ≡ ns
none_left_out [] none = refl
none_left_out (n ∷ ns) none = by (has_cedar n) none (none_left_out ns)
  where
    by : (b : Bool) → cond b (n ∷ filter has_cedar ns) (filter has_cedar ns) ≡ [] → (filter has_cedar ns ≡ [] → filter is_free ns ≡ ns) → cond (not b) (n ∷ filter is_free ns) (filter is_free ns) ≡ n ∷ ns
    by true some rest = absurd (cc)
    by false none rest = ap (λ l. n ∷ l) (rest none)
