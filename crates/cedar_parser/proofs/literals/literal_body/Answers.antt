-- SPDX-License-Identifier: Apache-2.0
use Rattle.std.proofs.Common.{sym, arith, None, Some}
use Rattle.std.proofs.lemmas.Str.Pattern.{strip_prefix_char, strip_suffix_char}
use Rattle.cedar_parser.proofs.Quotes.{no_front, body_of}
use Rattle.cedar_parser.proofs.literals.literal_body.Goals as goal

pub returns-in_err-strip_prefix : goal.returns-in_err-strip_prefix
returns-in_err-strip_prefix c = rw c.from_residual.ensures (sym (no_front c.args.text.now (strip_prefix_char 34 c.args.text.now None c.in_err-strip_prefix.ensures.cases (omega arith))))

pub returns : goal.returns
returns c =
    body_of c.args.text.now c.in_ok-strip_prefix.field-0.now c.strip_suffix.result
    (strip_prefix_char 34 c.args.text.now (Some c.in_ok-strip_prefix.field-0) c.in_ok-strip_prefix.ensures.cases (omega arith))
    (strip_suffix_char 34 c.in_ok-strip_prefix.field-0.now c.strip_suffix.result c.strip_suffix.ensures.cases (omega arith))
