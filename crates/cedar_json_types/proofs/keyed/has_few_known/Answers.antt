-- SPDX-License-Identifier: Apache-2.0
use Rattle.std.proofs.Common.{rules}
use Rattle.cedar_json_types.specs.Keys.{keys_of}
use Rattle.cedar_json_types.proofs.KeyLemmas.{one_within, two_within}
use Rattle.cedar_json_types.proofs.keyed.has_few_known.Goals as goal

pub returns-then-len-eq1 : goal.returns-then-len-eq1
returns-then-len-eq1 c = λ yes.
    one_within (keys_of c.args.set) c.args.members.now.entries c.in-Some.first.now c.in-Some.field-0-1.now (search rules) c.in-Some.ensures.first (search rules)

pub returns-then-len-eq2 : goal.returns-then-len-eq2
returns-then-len-eq2 c = λ yes.
    two_within (keys_of c.args.set) c.args.members.now.entries c.in-Some.first.now c.in-Some-last_key_value.last.now c.in-Some.field-0-1.now c.in-Some-last_key_value.field-0-1.now
    (search rules) c.in-Some.ensures.first c.in-Some-last_key_value.ensures.last (search rules) (search rules)
