-- SPDX-License-Identifier: Apache-2.0
use Rattle.cedar_syntax_laws.proofs.Whole.{reads_text}
use Rattle.cedar_syntax_laws.proofs.laws.tokens_make_a_text.Goals as goal

pub returns : goal.returns
returns c = reads_text
