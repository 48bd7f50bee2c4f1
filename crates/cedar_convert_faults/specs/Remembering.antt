-- SPDX-License-Identifier: Apache-2.0
-- What is known of the clauses of an `appliesTo` that were read.
use Rattle.std.specs.Prelude.{◌≡◌}
use Rattle.std.specs.Option.{option_copied}
use Rattle.cedar_tree.specs.Trees.{Principal, Resource}
use Rattle.cedar_convert_faults.specs.Faults.{Clauses, first_place, is_context, lists_types}
use Rattle.cedar_convert_faults.specs.declared.clauses.Seen.{Seen}

-- the places are those of the first of these clauses of each kind
pub record Remembers (seen : Seen) (before : Clauses) : Type 0 where
  pub principal : option_copied seen.principal ≡ first_place (lists_types Principal) before
  pub resource : option_copied seen.resource ≡ first_place (lists_types Resource) before
  pub context : option_copied seen.context ≡ first_place is_context before
