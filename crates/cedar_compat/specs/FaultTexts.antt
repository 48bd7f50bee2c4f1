-- SPDX-License-Identifier: Apache-2.0
-- What is said of a new schema under which old data may not be valid.
use Rattle.std.specs.Prelude.{ℕ, List, [], ◌∷◌, ◌++◌, codes}
use Rattle.cedar_print.specs.Pieces.{quoted_text}
use Rattle.cedar_conform_fault.specs.FaultTexts.{path_text, type_text}
use Rattle.cedar_compat.specs.declared.fault.CompatFault.{CompatFault}
use Rattle.cedar_compat.specs.declared.kind.CompatKind.{CompatKind}
use Rattle.cedar_compat.specs.declared.kind.CompatKind.TheVariants as kind

-- the choice of this id isn't there any more
abbrev pub choice_text : List ℕ → List ℕ
choice_text id = codes "choice " ++ quoted_text id ++ codes " removed"

-- what is taken away
abbrev pub kind_text : CompatKind → List ℕ
kind_text kind.TypeRemoved = codes "entity type removed"
kind_text kind.BecameEnumerated = codes "became enumerated"
kind_text (kind.ChoiceRemoved id) = choice_text id
kind_text (kind.AttributeRemoved name) = codes "attribute `" ++ name ++ codes "` removed"
kind_text (kind.NowRequired name) = codes "attribute `" ++ name ++ codes "` is now required"
kind_text kind.TypeChanged = codes "type changed"
kind_text kind.TagsRemoved = codes "tags removed"
kind_text (kind.DescendantRemoved ty) = codes "descendant `" ++ type_text ty ++ codes "` removed"

-- where, with slashes between the keys; nothing where there are none
abbrev pub place_text : List (List ℕ) → List ℕ
place_text [] = []
place_text (key ∷ keys) = codes " at " ++ path_text (key ∷ keys)

-- where and why old data may not be valid
abbrev pub fault_text : CompatFault → List ℕ
fault_text fault = type_text fault.ty ++ place_text fault.path ++ codes ": " ++ kind_text fault.kind
