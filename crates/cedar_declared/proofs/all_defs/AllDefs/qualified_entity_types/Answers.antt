-- SPDX-License-Identifier: Apache-2.0
use Rattle.cedar_declared.proofs.HeldPlaces.{qualified_entities}
use Rattle.cedar_declared.proofs.all_defs.AllDefs.qualified_entity_types.Goals as goal

pub returns-clause-held : goal.returns-clause-held
returns-clause-held c = qualified_entities c.args.self.now c.qualified_names.result c.qualified_names.ensures.all
