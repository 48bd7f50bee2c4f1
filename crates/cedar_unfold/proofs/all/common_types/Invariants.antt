-- SPDX-License-Identifier: Apache-2.0
use Rattle.std.proofs.Common.{◌≡◌, ◌++◌}
use Rattle.std.specs.Map.{keys_of}
use Rattle.cedar_schema_error.specs.Refusals.{Refusal}
use Rattle.cedar_unfold.specs.Passing.{HasSome, HasType, LacksType}
use Rattle.cedar_unfold.specs.ResolvedViews.{resolved}
use Rattle.cedar_unfold.specs.Tables.{by_name, names_of, tabled}
use Rattle.cedar_unfold.proofs.Gathering.{Gathering}
use Rattle.cedar_unfold.proofs.all.common_types.Given as goal

-- the names so far and those that are left are all, and what is left decides the whole
abbrev pub invariant-loop-key : goal.invariant-loop-key
invariant-loop-key g l =
    (keys_of l.made ++ keys_of l.key-iterator ≡ keys_of l.defs)
    × Gathering {E = Refusal} (HasType (tabled l.table)) (HasSome (tabled l.table)) (LacksType (tabled l.table))
    (names_of (keys_of l.defs)) (names_of (keys_of l.key-iterator)) (by_name resolved l.made)
