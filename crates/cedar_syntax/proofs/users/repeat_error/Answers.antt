-- SPDX-License-Identifier: Apache-2.0
use Rattle.cedar_tokens.specs.Lexemes.{lexeme_token}
use Rattle.cedar_syntax.proofs.users.repeat_error.Goals as goal

pub returns : goal.returns
returns c source =
    let key = rw c.in-Some-2.is at c.in_ok-key.ensures in
    (key.0, c.span-2.ensures, (lexeme_token source c.in-Some.first, c.in-Some.ensures source, c.span.ensures))
