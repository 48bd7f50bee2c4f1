-- SPDX-License-Identifier: Apache-2.0
use Rattle.std.proofs.Common.{map}
use Rattle.cedar_tokens.specs.Lexemes.{lexeme_token}
use Rattle.cedar_syntax.proofs.Completing.{accepts_found}
use Rattle.cedar_syntax.proofs.reading.read_tokens.Goals as goal

pub returns-clause-accepts : goal.returns-clause-accepts
returns-clause-accepts c s reads =
    let ts = map (lexeme_token c.args.source.now) c.args.lexemes.now in
    accepts_found ts s c.parse.result c.parse.ensures (c.reading_finds.ensures.found ts s reads)
