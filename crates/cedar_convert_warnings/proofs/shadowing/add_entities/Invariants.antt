-- SPDX-License-Identifier: Apache-2.0
use Rattle.std.proofs.Common.{◌≡◌, ◌++◌, flat_map}
use Rattle.cedar_names.specs.Extensions.{extension_words}
use Rattle.cedar_convert_warnings.specs.Shadowing.{builtin_shadowed}
use Rattle.cedar_convert_warnings.proofs.shadowing.add_entities.Given as goal

-- the warnings so far, with those of the rest, are all
abbrev pub invariant-loop-name : goal.invariant-loop-name
invariant-loop-name l =
    l.warnings.items ++ flat_map (builtin_shadowed (extension_words l.extensions)) l.name-iterator
    ≡ l.initial.warnings.items ++ flat_map (builtin_shadowed (extension_words l.extensions)) l.entities
