-- SPDX-License-Identifier: Apache-2.0
-- Which names an error of merging keeps: the name of a namespace as it stands in the later of two fragments, with its place.
use Rattle.std.specs.Prelude.{◌≡◌, ◌&&◌, ℕ, Bool, is_some, IsTrue, List, Option, Some}
use Rattle.cedar_data.specs.Firsts.{SomePasses}
use Rattle.cedar_names.specs.Annotating.{annotation_entries}
use Rattle.cedar_names.specs.Identifiers.{any_word}
use Rattle.cedar_names.specs.Names.{name_words}
use Rattle.cedar_names.specs.declared.any_id.AnyId.{AnyId}
use Rattle.cedar_names.specs.declared.name.Name.{Name}
use Rattle.cedar_merge.specs.Lookups.{Definition, Fragment, annotated, declared, declared_in, text_at}
use Rattle.cedar_merge.specs.Merged.{differ}
use Rattle.cedar_merge.specs.Pairs.{SomePair}
use Rattle.cedar_merge.specs.Texts.{place_told}
use Rattle.cedar_merge.specs.declared.errors.DeclKind.{DeclKind}
use Rattle.cedar_merge.specs.declared.errors.MergeError.{MergeError}
use Rattle.cedar_merge.specs.declared.errors.MergeError.TheVariants.{AnnotationConflict, DuplicateDeclaration}

-- the fragment has a namespace of which this holds, under the very name
abbrev pub HasUnder : Option Name → (Definition → Bool) → Fragment → Type 0
HasUnder name holds f = SomePasses (λ n. (name ≡ n.0) × IsTrue (holds n.1)) f.0

-- the later fragment declares, under the very name, what the earlier one declares too
abbrev pub DeclaresAgain : DeclKind → Option Name → List ℕ → Fragment → Fragment → Type 0
DeclaresAgain kind namespace name earlier later =
    HasUnder namespace (λ d. is_some (declared (place_told kind namespace name) earlier) && is_some (declared_in kind name d)) later

-- the later fragment gives the annotation, under the very name, another text than the earlier one does
abbrev pub AnnotatesOtherwise : Name → AnyId → Fragment → Fragment → Type 0
AnnotatesOtherwise namespace key earlier later =
    HasUnder (Some namespace) (λ d. differ (annotated (Some (name_words namespace)) (any_word key) earlier) (text_at (annotation_entries d.annotations) (any_word key))) later

-- the namespace is kept as it stands in the later of two fragments of the list that have what is told against each other
abbrev pub KeepsNamespace : List Fragment → MergeError → Type 0
KeepsNamespace L (DuplicateDeclaration kind namespace name) = SomePair (DeclaresAgain kind namespace name) L
KeepsNamespace L (AnnotationConflict namespace key) = SomePair (AnnotatesOtherwise namespace key) L
