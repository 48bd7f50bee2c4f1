-- SPDX-License-Identifier: Apache-2.0
use Rattle.std.specs.List.{flat_map}
use Rattle.cedar_print.proofs.Prints.{Shows-three}
use Rattle.cedar_fragment.specs.Printed.{print_action_declaration, print_common, print_entity_declaration}
use Rattle.cedar_fragment.proofs.namespace_display.NamespaceDefinitionDisplay.fmt.Goals as goal

pub returns-clause-writes : goal.returns-clause-writes
returns-clause-writes g c =
    Shows-three g.W.Write.write_str_gives g.N.Display.output c.args.f.now c.write_common_types.new.f c.write_entity_types.new.f c.write_actions.new.f c.write_actions.result
    (flat_map print_common c.args.self.now.common_types) (flat_map print_entity_declaration c.args.self.now.entity_types) (flat_map print_action_declaration c.args.self.now.actions)
    c.in_ok-write_common_types.ensures c.in_ok-write_entity_types.ensures c.write_actions.ensures
