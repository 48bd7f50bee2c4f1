-- SPDX-License-Identifier: Apache-2.0
-- Refusals that JSON or code alone can come to, and no text in the human syntax does.
use Rattle.std.specs.Prelude.{Bool, true, false}
use Rattle.cedar_schema_error.specs.Refusals.{Refusal, ActionAttributes, ActionAttributesContainEmptySet, DuplicateAction, DuplicateCommonType, DuplicateEntityType, OpenRecord, UnknownExtensionType, UnsupportedActionAttribute}

-- attributes of actions, what is declared twice, open records, and extension types that aren't known
abbrev pub never_of_texts : Refusal → Bool
never_of_texts (ActionAttributes ids) = true
never_of_texts (ActionAttributesContainEmptySet uid) = true
never_of_texts (UnsupportedActionAttribute uid what) = true
never_of_texts (DuplicateCommonType name) = true
never_of_texts (DuplicateEntityType name) = true
never_of_texts (DuplicateAction uid) = true
never_of_texts OpenRecord = true
never_of_texts (UnknownExtensionType name) = true
never_of_texts e = false
