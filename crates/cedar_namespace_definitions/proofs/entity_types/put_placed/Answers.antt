-- SPDX-License-Identifier: Apache-2.0
use Rattle.std.proofs.Common.{refl, ap, ◌∙◌}
use Rattle.cedar_names.specs.Names.{entity_cmp, internal_cmp}
use Rattle.cedar_namespace_definitions.proofs.Defines.{put_one}
use Rattle.cedar_namespace_definitions.specs.Definitions.{with_keys}
use Rattle.cedar_namespace_definitions.specs.NamesIn.{entity_key}
use Rattle.cedar_namespace_definitions.proofs.entity_types.put_placed.Goals as goal

pub returns-clause-defs : goal.returns-clause-defs
returns-clause-defs g c = ap (with_keys entity_key) c.in_ok-put.ensures.ok ∙ put_one entity_cmp internal_cmp entity_key (λ a b. refl) c.args.defs.now c.args.name c.args.placed.0
