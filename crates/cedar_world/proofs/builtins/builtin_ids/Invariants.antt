-- SPDX-License-Identifier: Apache-2.0
use Rattle.std.proofs.Common.{◌≡◌, ◌++◌, map}
use Rattle.cedar_names.specs.Extensions.{extension_words}
use Rattle.cedar_names.specs.Identifiers.{unreserved_word}
use Rattle.cedar_names.specs.of_text.Words.{primitive_words}
use Rattle.cedar_world.proofs.builtins.builtin_ids.Given as goal

-- the words so far, with those of the rest, are all
abbrev pub invariant-loop-extension : goal.invariant-loop-extension
invariant-loop-extension l = map unreserved_word l.ids.items ++ map unreserved_word l.extension-iterator ≡ primitive_words ++ extension_words l.extensions
