-- SPDX-License-Identifier: Apache-2.0
-- What a fragment declares at a namespace, kind and name, and what it says of a namespace.
use Rattle.std.specs.Prelude.{ℕ, Bool, List, Option, is_some, option_map, map}
use Rattle.std.specs.Option.{option_and_then, option_cmp}
use Rattle.std.specs.declared.cmp.Ordering.{Ordering}
use Rattle.cedar_data.specs.Maps.{get}
use Rattle.cedar_names.specs.Annotating.{annotation_entries}
use Rattle.cedar_names.specs.Identifiers.{any_word, unreserved_word}
use Rattle.cedar_names.specs.Names.{name_words}
use Rattle.cedar_names.specs.Order.{word_cmp, words_cmp}
use Rattle.cedar_names.specs.declared.annotation.Annotation.{Annotation}
use Rattle.cedar_names.specs.declared.any_id.AnyId.{AnyId}
use Rattle.cedar_names.specs.declared.name.Name.{Name}
use Rattle.cedar_written.specs.CommonTypeIds.{unreserved_of}
use Rattle.cedar_written.specs.declared.common_type_id.CommonTypeId.{CommonTypeId}
use Rattle.cedar_written.specs.declared.raw_name.RawName.{RawName}
use Rattle.cedar_fragment.specs.ActionUids.{over_raw}
use Rattle.cedar_fragment.specs.declared.definitions.ActionType.{ActionType}
use Rattle.cedar_fragment.specs.declared.definitions.CommonType.{CommonType}
use Rattle.cedar_fragment.specs.declared.definitions.EntityType.{EntityType}
use Rattle.cedar_fragment.specs.declared.definitions.Fragment as fragment
use Rattle.cedar_fragment.specs.declared.definitions.NamespaceDefinition.{NamespaceDefinition}
use Rattle.cedar_merge.specs.declared.errors.DeclKind.{DeclKind}
use Rattle.cedar_merge.specs.declared.errors.DeclKind.TheVariants.{Common, Entity, Action}

-- ---- names

-- the name of a namespace as its components; the unnamed one has none
abbrev pub Path : Type 0
Path = Option (List (List ℕ))

abbrev pub path_of : Option Name → Path
path_of name = option_map name_words name

-- the unnamed namespace comes first, the others by their components
abbrev pub path_cmp : Path → Path → Ordering
path_cmp = option_cmp words_cmp

-- the word of the name of a common type
abbrev pub common_word : CommonTypeId → List ℕ
common_word c = unreserved_word (unreserved_of c)

-- ---- look-ups

-- the value of the entry whose key has these words, in a map whose keys are ordered by their words
abbrev pub at : {K V W : Type 0} → (W → W → Ordering) → (K → W) → List (K × V) → W → Option V
at cmp words es w = get cmp (map (λ e. (words e.0, e.1)) es) w

-- the same where the words are one
abbrev pub at_word : {K V : Type 0} → (K → List ℕ) → List (K × V) → List ℕ → Option V
at_word word es name = at word_cmp word es name

abbrev pub Fragment : Type 0
Fragment = fragment.Fragment RawName over_raw

abbrev pub Definition : Type 0
Definition = NamespaceDefinition RawName over_raw

-- what a fragment may declare
pub data Declaration : Type 0 where
  common_type : CommonType RawName → Declaration
  entity_type : EntityType RawName → Declaration
  action : ActionType RawName over_raw → Declaration

-- where it may declare it
pub record Place : Type 0 where
  pub namespace : Path
  pub kind : DeclKind
  pub name : List ℕ

-- what a namespace declares as this kind under this name
abbrev pub declared_in : DeclKind → List ℕ → Definition → Option Declaration
declared_in Common name d = option_map common_type (at_word common_word d.common_types name)
declared_in Entity name d = option_map entity_type (at_word unreserved_word d.entity_types name)
declared_in Action name d = option_map action (at_word (λ id. id) d.actions name)

-- the text at the key, among annotations
abbrev pub text_at : List (AnyId × Annotation) → List ℕ → Option (List ℕ)
text_at notes key = option_map (λ a. a.val) (at_word any_word notes key)

-- the definition of a namespace
abbrev pub definition_at : Fragment → Path → Option Definition
definition_at f ns = at path_cmp path_of f.0 ns

-- whether the fragment has the namespace
abbrev pub has_namespace : Path → Fragment → Bool
has_namespace ns f = is_some (definition_at f ns)

-- what it declares at a place
abbrev pub declared : Place → Fragment → Option Declaration
declared p f = option_and_then (declared_in p.kind p.name) (definition_at f p.namespace)

-- the text of the annotation at this key of the namespace
abbrev pub annotated : Path → List ℕ → Fragment → Option (List ℕ)
annotated ns key f = option_and_then (λ d. text_at (annotation_entries d.annotations) key) (definition_at f ns)
