-- SPDX-License-Identifier: Apache-2.0
use Rattle.std.proofs.Common.{subst}
use Rattle.cedar_data.specs.Maps.{IsSortedMap}
use Rattle.cedar_data.specs.Sets.{contains}
use Rattle.cedar_names.specs.Names.{entity_cmp}
use Rattle.cedar_resolved.specs.Schemas.{types}
use Rattle.cedar_resolved.proofs.EnvironmentCounts.{entity_total}
use Rattle.cedar_resolved.proofs.KeyCounts.{among_passing}
use Rattle.cedar_resolved.proofs.laws.ancestors_descend.Goals as goal

pub returns : goal.returns
returns c = λ ty above.
    among_passing entity_total (λ found. contains entity_cmp found.descendants ty) above (types c.args.schema.now)
    (subst (λ es. IsSortedMap entity_cmp es) c.by_type.ensures c.iter.ensures.ordered)
