-- SPDX-License-Identifier: Apache-2.0
use Rattle.cedar_merge.proofs.ordering.definition_in_order.Goals as goal

pub returns : goal.returns
returns c = record {
  common_types = c.len-common_types.ensures.ordered;
  entity_types = c.len-entity_types.ensures.ordered;
  actions = c.len-actions.ensures.ordered;
  annotations = c.iter-annotations.ensures.ascending;
}
