-- SPDX-License-Identifier: Apache-2.0
use Rattle.cedar_outlines.specs.of_declared.Held.{names_of}
use Rattle.cedar_hierarchy.proofs.TypesMeant.{are_meant}
use Rattle.cedar_hierarchy.proofs.actions.types_meant.Goals as goal

pub returns : goal.returns
returns c = are_meant (names_of c.args.all_defs.now) c.args.references.now c.in_ok-types.types c.in_ok-types.ensures.ordered c.in_ok-types.ensures.keys
