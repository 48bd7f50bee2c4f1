-- SPDX-License-Identifier: Apache-2.0
use Rattle.std.proofs.Common.{◌≡◌, ℕ, List}
use Rattle.cedar_closure.specs.of_data.Maps.{get_text, is_text, last_value}
use Rattle.cedar_types.proofs.Entries.{made-entries}
use Rattle.cedar_types.proofs.ty.Attributes.with_attributes.Goals as goal

pub returns-clause-values : goal.returns-clause-values
returns-clause-values c =
    made-entries c.from_map.result c.in_ok-map.map (λ es. (name : List ℕ) → get_text es name ≡ last_value (is_text name) c.args.list.items) c.from_map.ensures c.in_ok-map.ensures.values
