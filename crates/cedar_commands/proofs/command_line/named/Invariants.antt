-- SPDX-License-Identifier: Apache-2.0
use Rattle.std.proofs.Common.{◌≡◌, ◌++◌, ◌-◌, ◌≤◌, length, drop, map}
use Rattle.std.specs.String.{string_bytes}
use Rattle.cedar_commands.specs.CommandLine.{ext_words}
use Rattle.cedar_commands.proofs.command_line.named.Given as goal

abbrev pub invariant-loop-index : goal.invariant-loop-index
invariant-loop-index l = record {
  read : map string_bytes l.options ≡ ext_words l.names.items ++ map string_bytes (drop l.index l.options);
  within : l.index ≤ length l.options;
}

abbrev pub decreases-loop-index : goal.decreases-loop-index
decreases-loop-index l = length l.options - l.index
