-- SPDX-License-Identifier: Apache-2.0
use Rattle.cedar_commands.proofs.command_line.+is_decimal.Given as goal

-- the digits before the last are those of a lesser number
abbrev pub decreases-is_decimal : goal.decreases-is_decimal
decreases-is_decimal l = l.number
