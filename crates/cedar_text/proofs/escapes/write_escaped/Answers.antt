-- SPDX-License-Identifier: Apache-2.0
use Rattle.std.proofs.Common.{arith, sym, ◌∙◌}
use Rattle.std.proofs.Output.{has_written_of_eq}
use Rattle.cedar_text.proofs.EscapeLemmas.{StandsAlone, escaped_char-alone}
use Rattle.cedar_text.proofs.escapes.write_escaped.Goals as goal

pub returns-in_default-2 : goal.returns-in_default-2
returns-in_default-2 g c = λ plain ok.
    let alone : StandsAlone c.args.c = record {
      nul = omega arith;
      tab = omega arith;
      line_feed = omega arith;
      carriage_return = omega arith;
      quote = omega arith;
      apostrophe = omega arith;
      backslash = omega arith;
      control = sym c.is_ascii_control.ensures.value ∙ c.if-is_ascii_control.false;
    } in
    has_written_of_eq _ _ _ _ _ (escaped_char-alone c.args.c alone) (c.write-in_default-2.ensures.writes plain ok)
