-- SPDX-License-Identifier: Apache-2.0
use Rattle.cedar_types.specs.Types.{entries}
use Rattle.cedar_unfold.specs.ResolvedViews.{resolved_map}
use Rattle.cedar_conform.specs.ValueChecks.{name_known_check}
use Rattle.cedar_conform.proofs.Members.{PassesMembers}
use Rattle.cedar_conform.proofs.values.check_each_name.Given as goal

-- the keys so far are names of attributes
abbrev pub invariant-loop-key : goal.invariant-loop-key
invariant-loop-key l = PassesMembers (λ k d. name_known_check (resolved_map (entries l.attributes)) k) l.members.entries l.key-iterator
