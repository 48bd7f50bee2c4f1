-- SPDX-License-Identifier: Apache-2.0
-- What reading a value comes to.
use Rattle.std.specs.Prelude.{◌≡◌, None}
use Rattle.cedar_json_types.specs.Faults.{Fault}

-- the value has no fault, it has the shape of this structure, and it has the shape of no other
abbrev pub IsReadAs : {V : Type 0} → Fault → (V → Type 0) → V → Type 0
IsReadAs {V} fault Shapes v = (fault ≡ None) × Shapes v × ((u : V) → Shapes u → u ≡ v)
