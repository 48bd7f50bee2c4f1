-- SPDX-License-Identifier: Apache-2.0
use Rattle.std.specs.Prelude.{ℕ, if◌then◌else◌, List, [], ◌∷◌, ◌++◌, length, Option, Some, None}
use Rattle.std.specs.Option.{option_map}
use Rattle.cedar_text.specs.Faults.{word_fault, no_unreserved_id}
use Rattle.cedar_text.specs.Words.{has_word, is_primitive_word}
use Rattle.cedar_names.specs.declared.extensions.ExtensionsFault.{ExtensionsFault}
use Rattle.cedar_names.specs.declared.extensions.ExtensionsFault.TheVariants.{BadName, RepeatedName, PrimitiveName}

-- the first fault, or else the second
abbrev pub fault_before : Option ExtensionsFault → Option ExtensionsFault → Option ExtensionsFault
fault_before None other = other
fault_before (Some fault) other = Some fault

-- what is wrong with a name by itself: it is no unreserved identifier, or that of a primitive type
abbrev pub naming_fault : ℕ → List ℕ → Option ExtensionsFault
naming_fault index name =
    fault_before (option_map (BadName index) (word_fault no_unreserved_id name)) (if is_primitive_word name then Some (PrimitiveName name) else None)

-- what is wrong with a name behind those before it
abbrev pub repeat_fault : List (List ℕ) → List ℕ → Option ExtensionsFault
repeat_fault before name = if has_word before name then Some (RepeatedName name) else None

-- what is wrong with the first faulty name of a list, behind the names before the list
abbrev pub extensions_fault : List (List ℕ) → List (List ℕ) → Option ExtensionsFault
extensions_fault before [] = None
extensions_fault before (name ∷ names) =
    fault_before (fault_before (naming_fault (length before) name) (repeat_fault before name)) (extensions_fault (before ++ name ∷ []) names)
