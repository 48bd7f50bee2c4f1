-- SPDX-License-Identifier: Apache-2.0
-- What is said where fragments can't be merged, and what an error keeps.
use Rattle.std.specs.Prelude.{⊤, ℕ, List, [], ◌++◌, Option, Some, None, codes}
use Rattle.cedar_text.specs.Escapes.{escaped}
use Rattle.cedar_text.specs.Joining.{joined}
use Rattle.cedar_names.specs.Identifiers.{any_word}
use Rattle.cedar_names.specs.Names.{name_words}
use Rattle.cedar_names.specs.declared.any_id.AnyId.{AnyId}
use Rattle.cedar_names.specs.declared.name.Name.{Name}
use Rattle.cedar_merge.specs.Lookups.{Fragment, Place, path_of}
use Rattle.cedar_merge.specs.Merged.{IsClash, IsConflict, NoClash, NotePlace}
use Rattle.cedar_merge.specs.declared.errors.DeclKind.{DeclKind}
use Rattle.cedar_merge.specs.declared.errors.DeclKind.TheVariants.{Common, Entity, Action}
use Rattle.cedar_merge.specs.declared.errors.MergeError.{MergeError}
use Rattle.cedar_merge.specs.declared.errors.MergeError.TheVariants.{AnnotationConflict, DuplicateDeclaration}

-- ---- what an error keeps

-- the place of a declaration
abbrev pub place_told : DeclKind → Option Name → List ℕ → Place
place_told kind namespace name = record { namespace = path_of namespace; kind = kind; name = name }

-- that of an annotation
abbrev pub note_told : Name → AnyId → NotePlace
note_told namespace key = record { namespace = name_words namespace; key = any_word key }

-- an error that tells a clash tells the least one
abbrev pub TellsClash : List Fragment → MergeError → Type 0
TellsClash L (DuplicateDeclaration kind namespace name) = IsClash L (place_told kind namespace name)
TellsClash L (AnnotationConflict namespace key) = ⊤

-- one that tells a conflict tells the least one, and there is no clash
abbrev pub TellsConflict : List Fragment → MergeError → Type 0
TellsConflict L (DuplicateDeclaration kind namespace name) = ⊤
TellsConflict L (AnnotationConflict namespace key) = NoClash L × IsConflict L (note_told namespace key)

-- ---- texts

-- the components of a namespace, each with `::` behind it
abbrev pub within_text : Option Name → List ℕ
within_text None = []
within_text (Some ns) = joined (name_words ns) ++ codes "::"

-- a full name: that of an action is its whole entity id
abbrev pub full_text : DeclKind → Option Name → List ℕ → List ℕ
full_text Common ns name = within_text ns ++ name
full_text Entity ns name = within_text ns ++ name
full_text Action ns name = within_text ns ++ codes "Action::\"" ++ escaped name ++ codes "\""

-- that two fragments declare it
abbrev pub duplicate_text : DeclKind → Option Name → List ℕ → List ℕ
duplicate_text kind ns name = codes "`" ++ (full_text kind ns name ++ codes "` is declared in more than one fragment")

-- that two fragments give an annotation different texts
abbrev pub conflict_text : Name → AnyId → List ℕ
conflict_text ns key = codes "annotation `" ++ any_word key ++ codes "` of namespace `" ++ joined (name_words ns) ++ codes "` differs"

abbrev pub error_text : MergeError → List ℕ
error_text (DuplicateDeclaration kind ns name) = duplicate_text kind ns name
error_text (AnnotationConflict ns key) = conflict_text ns key
