-- SPDX-License-Identifier: Apache-2.0
use Rattle.std.specs.String.{string_bytes}
use Rattle.std.proofs.Common.{map}
use Rattle.cedar_commands.proofs.Asking.{words-unnamed}
use Rattle.cedar_commands.proofs.command_line.asked.Goals as goal

pub returns-in-Ok-None : goal.returns-in-Ok-None
returns-in-Ok-None c =
    words-unnamed (map string_bytes c.args.words.now) (map string_bytes c.in-Some.options.now) c.in-Some.command c.in-Some.ensures
    (rw c.in-Ok-None.field-0-is at c.in-Ok-None.ensures)
