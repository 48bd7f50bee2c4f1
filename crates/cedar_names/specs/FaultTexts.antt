-- SPDX-License-Identifier: Apache-2.0
use Rattle.std.specs.Prelude.{ℕ, List, ◌++◌, codes}
use Rattle.cedar_names.specs.declared.extensions.ExtensionsFault.{ExtensionsFault}
use Rattle.cedar_names.specs.declared.extensions.ExtensionsFault.TheVariants.{BadName, RepeatedName, PrimitiveName}
use Rattle.cedar_text.specs.FaultTexts.{name_fault_text}

-- what is said of a fault of a list of extension names
abbrev pub extensions_fault_text : ExtensionsFault → List ℕ
extensions_fault_text (BadName index fault) = codes "bad extension name: " ++ name_fault_text fault
extensions_fault_text (RepeatedName name) = codes "extension name `" ++ name ++ codes "` stands twice"
extensions_fault_text (PrimitiveName name) = codes "extension name `" ++ name ++ codes "` is a primitive type"
