-- SPDX-License-Identifier: Apache-2.0
use Rattle.std.proofs.Common.{codes, rules}
use Rattle.serde_json.specs.View.{view}
use Rattle.cedar_json_types.proofs.PairLemmas.{none_other}
use Rattle.cedar_json_types.proofs.keyed.has_type_alone.Goals as goal

pub returns-then-len-eq1 : goal.returns-then-len-eq1
returns-then-len-eq1 c = λ yes.
    none_other (view c.args.value.now) c.in-Some.members.now.entries c.in-Some-first_key_value.first.now c.in-Some-first_key_value.field-0-1.now (codes "type")
    (search rules) (search rules) c.in-Some-first_key_value.ensures.first (search rules)
