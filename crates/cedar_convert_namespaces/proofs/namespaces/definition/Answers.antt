-- SPDX-License-Identifier: Apache-2.0
use Rattle.std.proofs.Common.{refl}
use Rattle.cedar_convert_namespaces.proofs.Declaring.{definition-made}
use Rattle.cedar_convert_namespaces.proofs.namespaces.definition.Goals as goal

pub returns : goal.returns
returns c =
    definition-made (λ a b. refl) (λ a b. refl) c.in_ok-common_types.common_types c.args.common_types.items c.in_ok-entity_types.entity_types c.args.entity_types.items c.in_ok-actions.actions c.args.actions.items c.args.annotations
    c.in_ok-common_types.ensures.made c.in_ok-entity_types.ensures.made c.in_ok-actions.ensures.made
