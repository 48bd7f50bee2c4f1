-- SPDX-License-Identifier: Apache-2.0
use Rattle.std.specs.Prelude.{ℕ, List, ◌++◌, codes}
use Rattle.cedar_text.specs.declared.fault.NameFault.{NameFault}
use Rattle.cedar_text.specs.declared.fault.NameFault.TheVariants.{Empty, BadToken, Reserved}

-- what is said of a fault of a name
abbrev pub name_fault_text : NameFault → List ℕ
name_fault_text Empty = codes "unexpected end of input"
name_fault_text (BadToken at token) = codes "unexpected token `" ++ token ++ codes "`"
name_fault_text (Reserved word) = codes "`" ++ word ++ codes "` is a reserved identifier"
