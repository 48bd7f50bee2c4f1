-- SPDX-License-Identifier: Apache-2.0
use Rattle.cedar_print_laws.proofs.Lexed.{printed_lexes}
use Rattle.cedar_print_laws.proofs.laws.printed_tokens.Goals as goal

pub returns : goal.returns
returns c s = λ shown words named ps text is u apart. printed_lexes shown words named ps text is u apart
