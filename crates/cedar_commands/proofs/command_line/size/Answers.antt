-- SPDX-License-Identifier: Apache-2.0
use Rattle.std.proofs.Common.{◌≡◌, ◌<◌, ◌⊎◌, inl, inr, sym, ◌∙◌}
use Rattle.cedar_commands.proofs.Decimals.{untrue}
use Rattle.cedar_commands.proofs.Asking.{number-unread, number-beyond, number-other}
use Rattle.cedar_commands.proofs.command_line.size.Goals.{then-size-eq0-via-then-size-eq0, then-size-eq0-via-else-size-eq0+then-size-gt-GREATEST_SIZE}
use Rattle.cedar_commands.proofs.command_line.size.Goals as goal

pub returns-in_default : goal.returns-in_default
returns-in_default c = number-unread c.args.word.now c.parse.result c.in_default.field-0 c.parse.ensures.value.0 c.in_default.is

pub returns-then-size-eq0 : goal.returns-then-size-eq0
returns-then-size-eq0 c =
    let beyond : (c.in-Ok.size ≡ 0) ⊎ (5000 < c.in-Ok.size) = elim c.then-size-eq0.branch [
      | then-size-eq0-via-then-size-eq0 w ↦ inl w.if-size-eq0.true
      | then-size-eq0-via-else-size-eq0+then-size-gt-GREATEST_SIZE w ↦ inr w.if-size-gt-GREATEST_SIZE.true
    ] in number-beyond c.args.word.now c.parse.result c.in-Ok.size c.parse.ensures.value.0 c.in-Ok.is beyond

pub returns-then-not-is_decimal : goal.returns-then-not-is_decimal
returns-then-not-is_decimal c =
    number-other c.args.word.now c.parse.result c.in-Ok.size c.parse.ensures.value.0 c.in-Ok.is
    (λ e. untrue (sym c.if-not-is_decimal.true ∙ c.is_decimal.ensures.1 (c.as_bytes.ensures.value ∙ sym e)))
