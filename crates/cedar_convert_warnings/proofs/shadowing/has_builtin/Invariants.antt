-- SPDX-License-Identifier: Apache-2.0
use Rattle.std.proofs.Common.{◌≡◌}
use Rattle.std.specs.List.{list_any}
use Rattle.std.specs.Slice.Iter.{iter_rest}
use Rattle.cedar_names.specs.Extensions.{extension_words}
use Rattle.cedar_convert_faults.specs.Repeats.{words_of}
use Rattle.cedar_convert_warnings.specs.Shadowing.{is_builtin}
use Rattle.cedar_convert_warnings.proofs.shadowing.has_builtin.Given as goal

-- a builtin type has one of the names that are left where one has one of all, since none had one of those before
abbrev pub invariant-loop-name : goal.invariant-loop-name
invariant-loop-name l = list_any (is_builtin (extension_words l.extensions)) (words_of (iter_rest l.name-iterator)) ≡ list_any (is_builtin (extension_words l.extensions)) (words_of l.names)
