-- SPDX-License-Identifier: Apache-2.0
use Rattle.std.proofs.Common.{map, subst}
use Rattle.std.specs.List.{flat_map}
use Rattle.cedar_declared.specs.HeldPlaces.{HeldAmong}
use Rattle.cedar_declared.specs.of_definitions.DeclaredNames.{all_actions, all_types}
use Rattle.cedar_declared.specs.of_definitions.Structures.{definitions_of}
use Rattle.cedar_phases.proofs.declaring.declare.Goals as goal
use Rattle.cedar_schema_error.specs.KeptDeclarations.{placed, placed_action}

pub declare_with-requires-clause-held : goal.declare_with-requires-clause-held
declare_with-requires-clause-held c =
    subst (λ fs. HeldAmong (map placed (all_types (flat_map definitions_of fs))) (map placed_action (all_actions (flat_map definitions_of fs))) c.in_ok-own.own)
    c.as_slice.ensures.value c.in_ok-own.ensures.held
