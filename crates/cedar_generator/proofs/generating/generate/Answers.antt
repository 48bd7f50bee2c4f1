-- SPDX-License-Identifier: Apache-2.0
use Rattle.cedar_generator.proofs.Lines.{lines-next, lines-none}
use Rattle.std.specs.String.{string_bytes}
use Rattle.cedar_generator.proofs.generating.generate.Goals as goal

pub loop-index-init : goal.loop-index-init
loop-index-init c = lines-none (string_bytes c.new-text.result) c.new-text.ensures.bytes

pub loop-index-preserved : goal.loop-index-preserved
loop-index-preserved c = lines-next c.loop-index.index (string_bytes c.loop-index.text) (string_bytes c.push_lines.new.text) c.loop-index.invariant c.in_ok-push_lines.ensures
