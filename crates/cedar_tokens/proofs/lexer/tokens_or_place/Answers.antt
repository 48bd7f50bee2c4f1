-- SPDX-License-Identifier: Apache-2.0
use Rattle.cedar_tokens.proofs.Placing.{walked}
use Rattle.cedar_tokens.proofs.lexer.tokens_or_place.Goals as goal

pub returns : goal.returns
returns c = walked
