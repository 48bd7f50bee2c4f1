-- SPDX-License-Identifier: Apache-2.0
use Rattle.std.proofs.Common.{◌≡◌, ◌++◌, map}
use Rattle.cedar_names.specs.Extensions.{extension_words}
use Rattle.cedar_names.specs.Identifiers.{unreserved_word}
use Rattle.cedar_meaning.specs.DefinitionViews.{common_type_in}
use Rattle.cedar_meaning.specs.Worlds.{builtins, extension_type}
use Rattle.cedar_world.proofs.builtins.builtin_types.Given as goal

-- the types so far, with those of the rest, are all
abbrev pub invariant-loop-extension : goal.invariant-loop-extension
invariant-loop-extension l = map common_type_in l.types.items ++ map extension_type (map unreserved_word l.extension-iterator) ≡ builtins (extension_words l.extensions)
