-- SPDX-License-Identifier: Apache-2.0
-- What tables say is what the definitions say, places aside.
use Rattle.std.proofs.Common.{◌≡◌, List, [], ◌∷◌, ◌++◌, map, Option, Some, None, refl, sym, ap, ◌∙◌}
use Rattle.std.proofs.lemmas.List.{map-append}
use Rattle.std.specs.List.{flat_map}
use Rattle.cedar_data.specs.Maps.{map_of, map_values}
use Rattle.cedar_data.proofs.MapsMade.{map-map_of}
use Rattle.cedar_declared.specs.Gathering.{action_cmp}
use Rattle.cedar_declared.specs.of_definitions.declared.structures.EntityTypeFragment.{EntityTypeFragment}
use Rattle.cedar_declared.specs.of_definitions.declared.structures.EntityTypeFragment.TheVariants.{Standard, Enum}
use Rattle.cedar_names.specs.Components.{components}
use Rattle.cedar_names.specs.Names.{entity_cmp, entity_words, internal_cmp}
use Rattle.cedar_names.specs.Order.{words_cmp}
use Rattle.cedar_names.specs.declared.entity_uid.EntityUID.{EntityUID}
use Rattle.cedar_names.specs.declared.internal_name.InternalName.{InternalName}
use Rattle.cedar_names.specs.declared.name.EntityType.{EntityType}
use Rattle.cedar_meaning.specs.of_schema_error.FullNames.{FullName, Uid, uid_cmp, uid_in}
use Rattle.cedar_meaning.specs.of_schema_error.NameReferences.{ActionReference, NameReference}
use Rattle.cedar_meaning.specs.of_schema_error.Refusals.{UsePlace}
use Rattle.cedar_meaning.specs.of_schema_error.Refusals as refusal
use Rattle.cedar_meaning.specs.of_schema_error.declared.use_place.UsePlace.TheVariants.{Shape, Tags}
use Rattle.cedar_text.specs.declared.location.Loc.{Loc}
use Rattle.cedar_meaning.specs.of_unfolding.Written.{Written}
use Rattle.cedar_meaning.specs.DefinitionViews.{action_in, action_of, common_type_in, kind_in, namespace_in, type_in}
use Rattle.cedar_meaning.specs.Definitions.{ActionDefinition, EntityDefinition, shape_of, tags_of}
use Rattle.cedar_meaning.specs.Worlds.{actions_in, common_types_in, entity_types_in, uses_in}
use Rattle.cedar_written.specs.declared.conditional_name.ConditionalName.{ConditionalName}
use Rattle.cedar_written.specs.declared.ty.SchemaType.{SchemaType}
use Rattle.cedar_tables.specs.Declarations.{Action, Definition, PlacedEntity, action_places, actions_of, common_types_of, entity_places, entity_types_of, fragments_of, placed, placed_in, placed_types}
use Rattle.cedar_outlines.specs.Outlines.{action_outline, action_outline_in, action_place, entity_outline, entity_outline_in, entity_parts, entity_place, parts_of_entity, use_in}
use Rattle.cedar_tables.specs.Splits.{Use, action_outline_of, all_uses, context_use, fragment_shape, fragment_tags, outline_at, outline_of, shape_at, shape_use, tags_at, tags_use, use_at, uses_kept}
use Rattle.cedar_outlines.specs.declared.outlines.ActionOutline.{ActionOutline}
use Rattle.cedar_outlines.specs.declared.outlines.EntityOutline.{EntityOutline}

map-map : {A B C : Type 0} (f : B → C) (g : A → B) (xs : List A) → map f (map g xs) ≡ map (λ x. f (g x)) xs
map-map f g [] = refl
map-map f g (x ∷ xs) = ap (λ l. f (g x) ∷ l) (map-map f g xs)

-- what is gathered of definitions, seen through functions, is what is gathered of what they are seen as
gathered_views : {A B C D : Type 0} (f : A → List B) (view : B → C) (seen : A → D) (g : D → List C) → ((x : A) → map view (f x) ≡ g (seen x)) → (xs : List A) → map view (flat_map f xs) ≡ flat_map g (map seen xs)
gathered_views f view seen g each [] = refl
gathered_views f view seen g each (x ∷ xs) = map-append view (f x) (flat_map f xs) ∙ ap (λ l. l ++ map view (flat_map f xs)) (each x) ∙ ap (λ l. g (seen x) ++ l) (gathered_views f view seen g each xs)

gathered_again : {A B C : Type 0} (f : A → List B) (view : B → C) (g : A → List C) → ((x : A) → map view (f x) ≡ g x) → (xs : List A) → map view (flat_map f xs) ≡ flat_map g xs
gathered_again f view g each [] = refl
gathered_again f view g each (x ∷ xs) = map-append view (f x) (flat_map f xs) ∙ ap (λ l. l ++ map view (flat_map f xs)) (each x) ∙ ap (λ l. g x ++ l) (gathered_again f view g each xs)

-- two views of each item are one
map_views : {A B : Type 0} (f g : A → B) → ((x : A) → f x ≡ g x) → (xs : List A) → map f xs ≡ map g xs
map_views f g same [] = refl
map_views f g same (x ∷ xs) = (λ i. same x i ∷ map_views f g same xs i)

-- what is left of an entity type, its shape and its tags, each after its kind
parts_kept : (f : EntityTypeFragment ConditionalName) (loc : Option Loc) → parts_of_entity (outline_at f loc) ≡ entity_parts (kind_in f)
parts_kept (Standard shape parents tags) loc = refl
parts_kept (Enum ids) loc = refl

place_kept : (f : EntityTypeFragment ConditionalName) (loc : Option Loc) → (outline_at f loc).loc ≡ loc
place_kept (Standard shape parents tags) loc = refl
place_kept (Enum ids) loc = refl

shape_kept : (name : EntityType) (f : EntityTypeFragment ConditionalName) → map use_in (use_at (Shape name) (fragment_shape f)) ≡ map (λ t. (refusal.Shape (entity_words name), t)) (shape_of (kind_in f))
shape_kept name (Standard shape parents tags) = refl
shape_kept name (Enum ids) = refl

tags_kept : (name : EntityType) (f : EntityTypeFragment ConditionalName) → map use_in (use_at (Tags name) (fragment_tags f)) ≡ map (λ t. (refusal.Tags (entity_words name), t)) (tags_of (kind_in f))
tags_kept name (Standard shape parents tags) = by tags
  where
    by : (o : Option (SchemaType ConditionalName)) → map use_in (use_at (Tags name) (fragment_tags (Standard shape parents o))) ≡ map (λ t. (refusal.Tags (entity_words name), t)) (tags_of (kind_in (Standard shape parents o)))
    by None = refl
    by (Some t) = refl
tags_kept name (Enum ids) = refl

map_itself : {A B : Type 0} (xs : List (A × B)) → map (λ e. (e.0, e.1)) xs ≡ xs
map_itself [] = refl
map_itself (x ∷ xs) = ap (λ l. x ∷ l) (map_itself xs)

-- an entity type without its place
abbrev fragment_in : EntityType × PlacedEntity → EntityType × EntityTypeFragment ConditionalName
fragment_in e = (e.0, e.1.fragment)

of_fragments : {B : Type 0} (f : EntityType × EntityTypeFragment ConditionalName → List B) (es : List (EntityType × PlacedEntity)) → flat_map (λ e. f (fragment_in e)) es ≡ flat_map f (map fragment_in es)
of_fragments f [] = refl
of_fragments f (e ∷ es) = ap (λ l. f (fragment_in e) ++ l) (of_fragments f es)

-- the uses of entity types and of actions, under their full names
abbrev shapes_of : FullName × EntityDefinition NameReference → List (UsePlace × Written NameReference)
shapes_of e = map (λ t. (refusal.Shape e.0, t)) (shape_of e.1)

abbrev tagged_of : FullName × EntityDefinition NameReference → List (UsePlace × Written NameReference)
tagged_of e = map (λ t. (refusal.Tags e.0, t)) (tags_of e.1)

abbrev context_of : Uid × ActionDefinition NameReference ActionReference → UsePlace × Written NameReference
context_of a = (refusal.Context a.0, a.1.context)

shapes_told : (es : List (EntityType × PlacedEntity)) → map use_in (flat_map shape_use es) ≡ flat_map shapes_of (map placed_in es)
shapes_told es = gathered_views shape_use use_in placed_in shapes_of (λ e. shape_kept e.0 e.1.fragment) es

tags_told : (es : List (EntityType × PlacedEntity)) → map use_in (flat_map tags_use es) ≡ flat_map tagged_of (map placed_in es)
tags_told es = gathered_views tags_use use_in placed_in tagged_of (λ e. tags_kept e.0 e.1.fragment) es

contexts_told : (acts : List (EntityUID × Action)) → map use_in (map context_use acts) ≡ map context_of (map action_in acts)
contexts_told acts = map-map use_in context_use acts ∙ sym (map-map context_of action_in acts)

module _ (ds : List Definition) where
  -- the maps of what is gathered
  entity_types_kept : map placed_in (map_of entity_cmp (entity_types_of ds)) ≡ entity_types_in (map namespace_in ds)
  entity_types_kept =
      map-map_of entity_cmp words_cmp entity_words (λ (e : PlacedEntity). kind_in e.fragment) (λ a b. refl) (entity_types_of ds)
      ∙ ap (map_of words_cmp) (gathered_views (λ d. placed_types d.entity_types) placed_in namespace_in (λ ns. ns.entity_types) (λ d. map-map placed_in (placed d.entity_types) d.entity_types.defs) ds)

  actions_kept : map action_in (map_of action_cmp (actions_of ds)) ≡ actions_in (map namespace_in ds)
  actions_kept =
      map-map_of action_cmp uid_cmp uid_in action_of (λ a b. refl) (actions_of ds)
      ∙ ap (map_of uid_cmp) (gathered_views (λ d. d.actions.actions) action_in namespace_in (λ ns. ns.actions) (λ d. refl) ds)

  pub common_types_told : (types : List (InternalName × SchemaType ConditionalName)) (all : List (InternalName × SchemaType ConditionalName)) → types ≡ map_of internal_cmp all → all ≡ common_types_of ds → map common_type_in types ≡ common_types_in (map namespace_in ds)
  common_types_told types all is gathered =
      ap (map common_type_in) (is ∙ ap (map_of internal_cmp) gathered)
      ∙ map-map_of internal_cmp words_cmp components type_in (λ a b. refl) (common_types_of ds)
      ∙ ap (map_of words_cmp) (gathered_views (λ d. d.common_types.defs) common_type_in namespace_in (λ ns. ns.common_types) (λ d. refl) ds)

  pub entity_types_told : (types : List (EntityType × EntityOutline)) (all : List (EntityType × PlacedEntity)) → types ≡ map_values outline_of (map_of entity_cmp all) → all ≡ entity_types_of ds → map entity_outline_in types ≡ map entity_outline (entity_types_in (map namespace_in ds))
  entity_types_told types all is gathered =
      let made : List (EntityType × PlacedEntity) = map_of entity_cmp (entity_types_of ds) in
      ap (map entity_outline_in) (is ∙ ap (λ a. map_values outline_of (map_of entity_cmp a)) gathered)
      ∙ map-map entity_outline_in (λ e. (e.0, outline_of e.1)) made
      ∙ map_views (λ e. entity_outline_in (e.0, outline_of e.1)) (λ e. entity_outline (placed_in e)) (λ e i. (entity_words e.0, parts_kept e.1.fragment e.1.loc i)) made
      ∙ sym (map-map entity_outline placed_in made)
      ∙ ap (map entity_outline) entity_types_kept

  -- the places of what is left
  pub entity_places_told : (types : List (EntityType × EntityOutline)) (all : List (EntityType × PlacedEntity)) → types ≡ map_values outline_of (map_of entity_cmp all) → all ≡ entity_types_of ds → map entity_place types ≡ map_of entity_cmp (flat_map entity_places ds)
  entity_places_told types all is gathered =
      let made : List (EntityType × PlacedEntity) = map_of entity_cmp (entity_types_of ds) in
      ap (map entity_place) (is ∙ ap (λ a. map_values outline_of (map_of entity_cmp a)) gathered)
      ∙ map-map entity_place (λ e. (e.0, outline_of e.1)) made
      ∙ map_views (λ e. entity_place (e.0, outline_of e.1)) (λ e. (e.0, e.1.loc)) (λ e i. (e.0, place_kept e.1.fragment e.1.loc i)) made
      ∙ map-map_of entity_cmp entity_cmp (λ k. k) (λ (e : PlacedEntity). e.loc) (λ a b. refl) (entity_types_of ds)
      ∙ ap (map_of entity_cmp) (gathered_again (λ d. placed_types d.entity_types) (λ e. (e.0, e.1.loc)) entity_places (λ d. map-map (λ (e : EntityType × PlacedEntity). (e.0, e.1.loc)) (placed d.entity_types) d.entity_types.defs) ds)

  pub action_places_told : (actions : List (EntityUID × ActionOutline)) (all : List (EntityUID × Action)) → actions ≡ map_values action_outline_of (map_of action_cmp all) → all ≡ actions_of ds → map action_place actions ≡ map_of action_cmp (flat_map action_places ds)
  action_places_told actions all is gathered =
      let made : List (EntityUID × Action) = map_of action_cmp (actions_of ds) in
      ap (map action_place) (is ∙ ap (λ a. map_values action_outline_of (map_of action_cmp a)) gathered)
      ∙ map-map action_place (λ e. (e.0, action_outline_of e.1)) made
      ∙ map-map_of action_cmp action_cmp (λ k. k) (λ (a : Action). a.loc) (λ a b. refl) (actions_of ds)
      ∙ ap (map_of action_cmp) (gathered_again (λ d. d.actions.actions) (λ a. (a.0, a.1.loc)) action_places (λ d. refl) ds)

  pub actions_told : (actions : List (EntityUID × ActionOutline)) (all : List (EntityUID × Action)) → actions ≡ map_values action_outline_of (map_of action_cmp all) → all ≡ actions_of ds → map action_outline_in actions ≡ map action_outline (actions_in (map namespace_in ds))
  actions_told actions all is gathered =
      let made : List (EntityUID × Action) = map_of action_cmp (actions_of ds) in
      ap (map action_outline_in) (is ∙ ap (λ a. map_values action_outline_of (map_of action_cmp a)) gathered)
      ∙ map-map action_outline_in (λ e. (e.0, action_outline_of e.1)) made
      ∙ sym (map-map action_outline action_in made)
      ∙ ap (map action_outline) actions_kept

  pub common_types_kept : (types all : List (InternalName × SchemaType ConditionalName)) → types ≡ map_of internal_cmp all → all ≡ common_types_of ds → types ≡ map_of internal_cmp (common_types_of ds)
  common_types_kept types all is gathered = is ∙ ap (map_of internal_cmp) gathered

  -- the uses with all that the types have
  fragments_kept : map fragment_in (map_of entity_cmp (entity_types_of ds)) ≡ map_of entity_cmp (fragments_of ds)
  fragments_kept =
      map-map_of entity_cmp entity_cmp (λ k. k) (λ (e : PlacedEntity). e.fragment) (λ a b. refl) (entity_types_of ds)
      ∙ ap (map_of entity_cmp) (gathered_again (λ d. placed_types d.entity_types) fragment_in (λ d. d.entity_types.defs) (λ d. map-map fragment_in (placed d.entity_types) d.entity_types.defs ∙ map_itself d.entity_types.defs) ds)

  pub uses_stay : (uses : List Use) (types : List (EntityType × PlacedEntity)) (actions : List (EntityUID × Action)) → uses ≡ all_uses (map_of entity_cmp types) (map_of action_cmp actions) → types ≡ entity_types_of ds → actions ≡ actions_of ds → uses ≡ uses_kept ds
  uses_stay uses types actions is types_are actions_are =
      let entities : List (EntityType × PlacedEntity) = map_of entity_cmp (entity_types_of ds) in
      let contexts : List Use = map context_use (map_of action_cmp (actions_of ds)) in
      is ∙ (λ i. all_uses (map_of entity_cmp (types_are i)) (map_of action_cmp (actions_are i)))
      ∙ (λ i. (of_fragments shape_at entities i ++ of_fragments tags_at entities i) ++ contexts)
      ∙ (λ i. (flat_map shape_at (fragments_kept i) ++ flat_map tags_at (fragments_kept i)) ++ contexts)

  pub uses_told : (uses : List Use) (types : List (EntityType × PlacedEntity)) (actions : List (EntityUID × Action)) → uses ≡ all_uses (map_of entity_cmp types) (map_of action_cmp actions) → types ≡ entity_types_of ds → actions ≡ actions_of ds → map use_in uses ≡ uses_in (map namespace_in ds)
  uses_told uses types actions is types_are actions_are =
      let entities : List (EntityType × PlacedEntity) = map_of entity_cmp (entity_types_of ds) in
      let acts : List (EntityUID × Action) = map_of action_cmp (actions_of ds) in
      let shapes : List Use = flat_map shape_use entities in
      let tags : List Use = flat_map tags_use entities in
      let contexts : List Use = map context_use acts in
      ap (map use_in) (is ∙ (λ i. all_uses (map_of entity_cmp (types_are i)) (map_of action_cmp (actions_are i))))
      ∙ map-append use_in (shapes ++ tags) contexts
      ∙ ap (λ l. l ++ map use_in contexts) (map-append use_in shapes tags)
      ∙ (λ i. (shapes_told entities i ++ tags_told entities i) ++ contexts_told acts i)
      ∙ (λ i. (flat_map shapes_of (entity_types_kept i) ++ flat_map tagged_of (entity_types_kept i)) ++ map context_of (actions_kept i))

pub ruleset told = (common_types_told, entity_types_told, actions_told, uses_told, entity_places_told, action_places_told, common_types_kept, uses_stay)
