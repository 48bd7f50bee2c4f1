-- SPDX-License-Identifier: Apache-2.0
use Rattle.cedar_tokens.proofs.Longest.{tells_fronts}
use Rattle.cedar_tokens.proofs.lexer.longest_token.Goals as goal

pub returns : goal.returns
returns c = tells_fronts
