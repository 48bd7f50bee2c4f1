-- SPDX-License-Identifier: Apache-2.0
use Rattle.cedar_declared.specs.Held.{names_of}
use Rattle.cedar_shadowing.proofs.Shadowers.{least_of_both}
use Rattle.cedar_shadowing.proofs.types.least_name.Goals as goal

pub returns-clause-least : goal.returns-clause-least
returns-clause-least c =
    least_of_both (names_of c.args.all_defs.now) c.qualified_entity_types.result c.qualified_common_types.result _ _ c.qualified_entity_types.ensures.qualified c.qualified_common_types.ensures.qualified
    c.least_among-least.ensures.least c.least_among.ensures.least

pub returns-clause-held : goal.returns-clause-held
returns-clause-held c = c.least_among.ensures.held (c.least_among-least.ensures.held tt c.qualified_entity_types.ensures.held) c.qualified_common_types.ensures.held
