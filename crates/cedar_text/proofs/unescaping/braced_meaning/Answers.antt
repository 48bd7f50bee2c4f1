-- SPDX-License-Identifier: Apache-2.0
use Rattle.cedar_text.proofs.UnescapeLemmas.{hex_front}
use Rattle.cedar_text.proofs.unescaping.braced_meaning.Goals as goal

pub digits_meaning-requires-clause-hexadecimal : goal.digits_meaning-requires-clause-hexadecimal
digits_meaning-requires-clause-hexadecimal c = hex_front c.in_ok-open_brace.digits.now _ c.hex_len.ensures.value
