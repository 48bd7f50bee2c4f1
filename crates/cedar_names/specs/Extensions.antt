-- SPDX-License-Identifier: Apache-2.0
use Rattle.std.specs.Prelude.{ℕ, List}
use Rattle.cedar_names.specs.Identifiers.{unreserved_words}
use Rattle.cedar_names.specs.declared.extensions.Extensions.{Extensions}
use Rattle.cedar_names.specs.declared.id.UnreservedId.{UnreservedId}

-- the names of the extension types, in order
abbrev pub extension_types : Extensions → List UnreservedId
extension_types x = x.types

-- the words of the extension types, in order
abbrev pub extension_words : Extensions → List (List ℕ)
extension_words x = unreserved_words x.types
