-- SPDX-License-Identifier: Apache-2.0
use Rattle.std.proofs.Common.{◌∙◌}
use Rattle.std.specs.String.{string_bytes}
use Rattle.cedar_generator.proofs.Lines.{lines-behind}
use Rattle.cedar_generator.proofs.generating.push_lines.Goals as goal

pub returns : goal.returns
returns c =
    lines-behind c.args.i (string_bytes c.args.text.now) _ _ _ c.as_str.result.now c.as_str-2.result.now c.as_str-3.result.now
    (c.as_str.ensures.value ∙ c.in_ok-line.ensures) (c.as_str-2.ensures.value ∙ c.in_ok-line-2.ensures) (c.as_str-3.ensures.value ∙ c.in_ok-line-3.ensures)
    c.in_ok-push_str.ensures.bytes c.in_ok-push_str-2.ensures.bytes c.in_ok-push_str-3.ensures.bytes
