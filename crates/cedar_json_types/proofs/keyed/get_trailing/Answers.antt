-- SPDX-License-Identifier: Apache-2.0
use Rattle.std.proofs.Common.{rules}
use Rattle.serde_json.specs.View.{view}
use Rattle.cedar_json_types.proofs.PairLemmas.{at_key}
use Rattle.cedar_json_types.proofs.keyed.get_trailing.Goals as goal

pub returns : goal.returns
returns c =
    at_key (view c.args.value.now) c.in-Some.members.now.entries c.in-Some-last_key_value.last.now c.in-Some-last_key_value.member.now c.args.key.now
    (search rules) c.in-Some-last_key_value.ensures.value (search rules)
