-- SPDX-License-Identifier: Apache-2.0
use Rattle.std.proofs.Common.{map}
use Rattle.cedar_declared.specs.Held.{names_of}
use Rattle.cedar_names.specs.Components.{components}
use Rattle.cedar_phases.proofs.MembershipLists.{others_both}
use Rattle.cedar_phases.proofs.memberships.push_application.Goals as goal
use Rattle.cedar_schema_error.specs.NameReferences.{reference_of}

pub returns : goal.returns
returns c = others_both (names_of c.args.all_defs.now) (map components c.args.names.now.items) (map components c.push_other_targets.new.names.items) (map components c.push_other_targets-2.new.names.items)
    (map reference_of c.args.outline.now.applies_to.principal_apply_spec) (map reference_of c.args.outline.now.applies_to.resource_apply_spec) c.in_ok-push_other_targets.ensures c.in_ok-push_other_targets-2.ensures
