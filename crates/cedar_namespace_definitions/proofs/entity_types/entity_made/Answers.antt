-- SPDX-License-Identifier: Apache-2.0
use Rattle.std.proofs.Common.{◌≡◌, IfOk, subst}
use Rattle.std.specs.Option.{option_copied}
use Rattle.cedar_namespace_definitions.proofs.DistinctParents.{distinct_made}
use Rattle.cedar_namespace_definitions.proofs.entity_types.entity_made.Goals as goal

pub returns : goal.returns
returns c =
    subst (λ whole. IfOk c.kind_made.result (λ made. made ≡ whole))
    (distinct_made (option_copied c.args.step.now.namespace) c.args.entity_type c.in_ok-kind.kind c.in_ok-kind-2.kind c.in_ok-kind.ensures c.in_ok-kind-2.ensures)
    c.kind_made.ensures
