-- SPDX-License-Identifier: Apache-2.0
use Rattle.std.proofs.Common.{codes, rules}
use Rattle.serde_json.specs.View.{view}
use Rattle.cedar_json_types.proofs.PairLemmas.{none_but}
use Rattle.cedar_json_types.proofs.keyed.has_only.Goals as goal

pub returns-then-eq : goal.returns-then-eq
returns-then-eq c = λ yes.
    none_but (view c.args.value.now) c.in-Some.members.now.entries c.in-Some-first_key_value.first.now c.in-Some-last_key_value.last.now c.in-Some-first_key_value.field-0-1.now c.in-Some-last_key_value.field-0-1.now c.args.key.now (codes "type")
    (search rules) (search rules) c.in-Some-first_key_value.ensures.first c.in-Some-last_key_value.ensures.last (search rules) (search rules)
