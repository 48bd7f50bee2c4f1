-- SPDX-License-Identifier: Apache-2.0
use Rattle.cedar_unfold.specs.ResolvedViews.{resolved}
use Rattle.cedar_checks.specs.SchemaViews.{schema_in}
use Rattle.cedar_conform.specs.Checks.{under}
use Rattle.cedar_conform.specs.ValueChecks.{value_check}
use Rattle.cedar_conform.proofs.Members.{PassesMembers}
use Rattle.cedar_conform.proofs.values.check_members.Given as goal

-- the values so far fit the type
abbrev pub invariant-loop-key : goal.invariant-loop-key
invariant-loop-key l = PassesMembers (λ k d. under k (value_check (schema_in l.schema) (resolved l.ty) d)) l.members.entries l.key-iterator
