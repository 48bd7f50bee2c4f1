-- SPDX-License-Identifier: Apache-2.0
use Rattle.std.proofs.Common.{arith}
use Rattle.cedar_syntax.proofs.Unclosed.{found_at, none_found}
use Rattle.cedar_syntax.proofs.brackets.first_too_many.Goals as goal

pub returns-then-unclosed-gt-OPEN_AT_MOST : goal.returns-then-unclosed-gt-OPEN_AT_MOST
returns-then-unclosed-gt-OPEN_AT_MOST c source =
    found_at c.args.lexemes.now c.loop-token.token-index c.loop-token.unclosed c.unclosed_behind-unclosed.result source _ c.span.result (omega arith)
    (c.loop-token.invariant.found source) c.unclosed_behind-unclosed.ensures (omega arith) c.span.ensures

pub returns : goal.returns
returns c source = none_found c.args.lexemes.now c.loop-token.token-index c.loop-token.unclosed source (omega arith) (c.loop-token.invariant.found source)
