-- SPDX-License-Identifier: Apache-2.0
use Rattle.cedar_syntax.proofs.OneCause.{one_at_most}
use Rattle.cedar_syntax.proofs.causes.one_cause.Goals as goal

pub returns : goal.returns
returns c = one_at_most c.one_token_list.ensures c.one_place.ensures c.tokens_without_place.ensures c.grammar_viable.ensures.viable c.one_reading.ensures
