-- SPDX-License-Identifier: Apache-2.0
use Rattle.std.proofs.Common.{◌≡◌, ◌++◌, map}
use Rattle.std.specs.Slice.Iter.{iter_rest}
use Rattle.cedar_names.specs.Extensions.{extension_words}
use Rattle.cedar_convert_faults.specs.Gathering.{gathered_tree}
use Rattle.cedar_convert_warnings.specs.Shadowing.{by_words, namespace_entry}
use Rattle.cedar_convert_warnings.proofs.shadowing.named_warnings.Given as goal

-- the warnings so far, with those of the rest, are all
abbrev pub invariant-loop-gathered : goal.invariant-loop-gathered
invariant-loop-gathered l =
    map by_words l.pairs.items ++ map (namespace_entry (extension_words l.extensions)) (map gathered_tree (iter_rest l.gathered-iterator))
    ≡ map (namespace_entry (extension_words l.extensions)) (map gathered_tree l.all)
