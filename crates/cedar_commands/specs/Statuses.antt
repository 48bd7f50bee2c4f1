-- SPDX-License-Identifier: Apache-2.0
-- The numbers of the statuses.
use Rattle.std.specs.Prelude.{ℕ}
use Rattle.cedar_commands.specs.declared.status.Status.{Status}
use Rattle.cedar_commands.specs.declared.status.Status.TheVariants.{Done, Refused, Usage, ReadFault, WriteFault, NotUtf8, TooLong, NoMemory}

-- the status that the process ends with
abbrev pub status_code : Status → ℕ
status_code Done = 0
status_code Refused = 1
status_code Usage = 2
status_code ReadFault = 3
status_code WriteFault = 4
status_code NotUtf8 = 5
status_code TooLong = 6
status_code NoMemory = 7
