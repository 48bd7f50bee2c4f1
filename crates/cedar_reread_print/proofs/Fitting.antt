-- SPDX-License-Identifier: Apache-2.0
-- A fragment that code holds can be read where it fits.
use Rattle.std.proofs.Common.{ℕ, List, [], ◌∷◌, Option, Some, None, map}
use Rattle.std.specs.List.{AllByRecursion}
use Rattle.std.specs.Option.{option_map}
use Rattle.std.specs.Prelude.{IfSome}
use Rattle.cedar_names.specs.Identifiers.{unreserved_word}
use Rattle.cedar_names.specs.Names.{internal_of}
use Rattle.cedar_names.specs.declared.annotation.Annotations.{Annotations}
use Rattle.cedar_names.specs.declared.id.UnreservedId.{UnreservedId}
use Rattle.cedar_names.specs.declared.name.Name.{Name}
use Rattle.cedar_tree.specs.Meanings.{annotations_tree}
use Rattle.cedar_written.specs.Possibilities.{written as name_written}
use Rattle.cedar_written.specs.declared.common_type_id.CommonTypeId.{CommonTypeId}
use Rattle.cedar_written.specs.declared.raw_name.RawName.{RawName}
use Rattle.cedar_written.specs.declared.ty.SchemaType.{SchemaType}
use Rattle.cedar_fragment.specs.ActionUids.{over_raw}
use Rattle.cedar_fragment.specs.declared.action_uid.ActionEntityUID.{ActionEntityUID}
use Rattle.cedar_fragment.specs.declared.definitions.ActionType.{ActionType}
use Rattle.cedar_fragment.specs.declared.definitions.ApplySpec.{ApplySpec}
use Rattle.cedar_fragment.specs.declared.definitions.CommonType.{CommonType}
use Rattle.cedar_fragment.specs.declared.definitions.EntityType.{EntityType}
use Rattle.cedar_fragment.specs.declared.definitions.EntityTypeKind.{EntityTypeKind}
use Rattle.cedar_fragment.specs.declared.definitions.EntityTypeKind.TheVariants as sort
use Rattle.cedar_fragment.specs.declared.definitions.Fragment as held
use Rattle.cedar_fragment.specs.declared.definitions.NamespaceDefinition.{NamespaceDefinition}
use Rattle.cedar_convert_fragment.specs.Fragments.{Form, TypeAt, written, common_type, string, long, boolean, set_of, record_of, entity, entity_or_common, extension}
use Rattle.cedar_convert_fragment.specs.Views.{action_seen, apply_seen, common_seen, common_word, definition_seen, entity_seen, fragment_seen, kind_seen, name_at, namespace_words, parent_seen, type_seen}
use Rattle.cedar_reread_print.specs.Fits.{ActionEntryFits, ApplyFits, CommonEntryFits, DefinitionFits, EntityEntryFits, EntityFits, Fits, FormFits, FormSorted, InOrder, NamedFits, NamespaceFits, ShapeFits, TypeFits}
use Rattle.cedar_reread_print.proofs.Names.{components_are_ids, keys_are_words, unreserved_identifier}
use Rattle.cedar_reread.proofs.Actions.{IsApplied, IsParent}
use Rattle.cedar_reread.proofs.Annotated.{AreKeys}
use Rattle.cedar_reread.proofs.Entities.{IsEntity}
use Rattle.cedar_reread.proofs.Lists.{Named}
use Rattle.cedar_reread.proofs.Reading.{IsActionEntry, IsCommonEntry, IsDefinition, IsEntityEntry, IsNamedSo, IsNamespace, IsReadable}
use Rattle.cedar_reread.proofs.Shapes.{FormIsShape, IsShape, IsType}
use Rattle.cedar_reread.proofs.Types.{FormWorded}
use Rattle.cedar_reread_print.proofs.Worded.{SortedIsWorded, type_worded}

-- ---- lists

all_seen : {T A : Type 0} (f : T → A) (Good : A → Type 0) → ((t : T) → Good (f t)) → (ts : List T) → AllByRecursion Good (map f ts)
all_seen f Good each [] = tt
all_seen f Good each (t ∷ ts) = (each t, all_seen f Good each ts)

all_fitting : {T A : Type 0} (f : T → A) (Fit Good : A → Type 0) → ((t : T) → Fit (f t) → Good (f t)) → (ts : List T) → AllByRecursion Fit (map f ts) → AllByRecursion Good (map f ts)
all_fitting f Fit Good each [] fit = tt
all_fitting f Fit Good each (t ∷ ts) fit = (each t fit.0, all_fitting f Fit Good each ts fit.1)

-- ---- names and annotations

name_named : (n : RawName) → Named (name_at n)
name_named n = components_are_ids (name_written n)

names_named : (ns : List RawName) → AllByRecursion Named (map name_at ns)
names_named = all_seen name_at Named name_named

annotations_keys : (a : Annotations) → InOrder (annotations_tree a) → AreKeys (annotations_tree a)
annotations_keys a sorted = (sorted, keys_are_words a)

module _ (n : ℕ) where
  -- ---- types

  type_fits : (t : SchemaType RawName) → TypeFits n (type_seen t) → IsType n (type_seen t)
  type_fits t fits = (fits.0, type_worded t fits.1)

  form_fits : (form : Form) → (FormSorted form → FormWorded form) → FormFits n form → FormIsShape n form
  form_fits (record_of attributes others) worded fits = (fits.0, worded fits.1)
  form_fits (entity_or_common name) worded fits = worded tt
  form_fits string worded fits = absurd fits
  form_fits long worded fits = absurd fits
  form_fits boolean worded fits = absurd fits
  form_fits (set_of element) worded fits = absurd fits
  form_fits (entity name) worded fits = absurd fits
  form_fits (extension name) worded fits = absurd fits

  shape_at_fits : (t : TypeAt) → SortedIsWorded t → ShapeFits n t → IsShape n t
  shape_at_fits (written form place) worded fits = form_fits form worded fits
  shape_at_fits (common_type name place) worded fits = worded tt

  shape_fits : (t : SchemaType RawName) → ShapeFits n (type_seen t) → IsShape n (type_seen t)
  shape_fits t fits = shape_at_fits (type_seen t) (type_worded t) fits

  -- ---- entity types

  tags_fit : (tags : Option (SchemaType RawName)) → IfSome (option_map type_seen tags) (TypeFits n) → IfSome (option_map type_seen tags) (IsType n)
  tags_fit None fits = tt
  tags_fit (Some t) fits = type_fits t fits

  kind_fits : (kind : EntityTypeKind RawName) → EntityFits n (kind_seen kind) → IsEntity n (kind_seen kind)
  kind_fits (sort.Standard e) fits = (names_named e.member_of_types, shape_fits e.shape.0 fits.0, tags_fit e.tags fits.1)
  kind_fits (sort.Enum choices) fits = tt

  -- ---- actions

  parent_is : (ty : Option RawName) → IfSome (option_map name_at ty) Named
  parent_is None = tt
  parent_is (Some name) = name_named name

  parents_are : (us : Option (List (ActionEntityUID RawName over_raw))) → IfSome (option_map (map parent_seen) us) (λ parents. AllByRecursion IsParent parents)
  parents_are None = tt
  parents_are (Some us) = all_seen parent_seen IsParent (λ u. parent_is u.ty) us

  apply_fits : (a : Option (ApplySpec RawName)) → IfSome (option_map apply_seen a) (ApplyFits n) → IfSome (option_map apply_seen a) (IsApplied n)
  apply_fits None fits = tt
  apply_fits (Some a) fits = (names_named a.principal_types, names_named a.resource_types, shape_fits a.context.0 fits)

  -- ---- declarations

  common_fits : (e : CommonTypeId × CommonType RawName) → CommonEntryFits n (common_word e.0, common_seen e.1) → IsCommonEntry n (common_word e.0, common_seen e.1)
  common_fits e fits = (unreserved_identifier e.0.id, annotations_keys e.1.annotations fits.0, type_fits e.1.ty fits.1)

  entity_fits : (e : UnreservedId × EntityType RawName) → EntityEntryFits n (unreserved_word e.0, entity_seen e.1) → IsEntityEntry n (unreserved_word e.0, entity_seen e.1)
  entity_fits e fits = (unreserved_identifier e.0, annotations_keys e.1.annotations fits.0, kind_fits e.1.kind fits.1)

  action_fits : (e : List ℕ × ActionType RawName over_raw) → ActionEntryFits n (e.0, action_seen e.1) → IsActionEntry n (e.0, action_seen e.1)
  action_fits e fits = (annotations_keys e.1.annotations fits.0, (parents_are e.1.member_of, apply_fits e.1.applies_to fits.1))

  -- ---- namespaces

  definition_fits : (d : NamespaceDefinition RawName over_raw) → DefinitionFits n (definition_seen d) → IsDefinition n (definition_seen d)
  definition_fits d fits = (
    all_fitting (λ e. (common_word e.0, common_seen e.1)) (CommonEntryFits n) (IsCommonEntry n) common_fits d.common_types fits.0,
    all_fitting (λ e. (unreserved_word e.0, entity_seen e.1)) (EntityEntryFits n) (IsEntityEntry n) entity_fits d.entity_types fits.1,
    all_fitting (λ e. (e.0, action_seen e.1)) (ActionEntryFits n) (IsActionEntry n) action_fits d.actions fits.2,
  )

  named_fits : (path : Option Name) (d : NamespaceDefinition RawName over_raw) → NamedFits n (namespace_words path) (definition_seen d) → IsNamedSo n (namespace_words path) (definition_seen d)
  named_fits None d fits = tt
  named_fits (Some path) d fits = (components_are_ids (internal_of path), annotations_keys d.annotations fits)

-- a fragment that fits can be read
pub fits_readable : (n : ℕ) (F : held.Fragment RawName over_raw) → Fits n (fragment_seen F) → IsReadable n (fragment_seen F)
fits_readable n F fits =
    all_fitting (λ e. (namespace_words e.0, definition_seen e.1)) (NamespaceFits n) (IsNamespace n) (λ e fit. (named_fits n e.0 e.1 fit.0, definition_fits n e.1 fit.1)) F.0 fits
