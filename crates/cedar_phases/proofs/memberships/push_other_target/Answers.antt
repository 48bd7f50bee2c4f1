-- SPDX-License-Identifier: Apache-2.0
use Rattle.std.proofs.Common.{refl}
use Rattle.cedar_declared.specs.Held.{names_of}
use Rattle.cedar_phases.proofs.MembershipLists.{pushed_by_kind}
use Rattle.cedar_phases.proofs.memberships.push_other_target.Goals as goal

pub returns-in-Entity : goal.returns-in-Entity
returns-in-Entity c =
    pushed_by_kind (names_of c.args.all_defs.now) c.args.reference.now _ c.args.names.now.items c.args.names.now.items c.reference_type.ensures c.in-Entity.is refl
