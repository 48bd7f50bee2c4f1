-- SPDX-License-Identifier: Apache-2.0
-- Loops over the common types, the entity types and the actions of a namespace.
use Rattle.std.proofs.Common.{◌≡◌, List, [], ◌∷◌, Option, Some, map, refl, sym, ap, ◌∙◌}
use Rattle.std.specs.BTreeMap.{insert_entry}
use Rattle.std.specs.declared.cmp.Ordering.{Ordering}
use Rattle.cedar_data.specs.Maps.{IsSortedMap}
use Rattle.cedar_names.specs.Components.{components}
use Rattle.cedar_names.specs.Identifiers.{id_of, unreserved_word}
use Rattle.cedar_names.specs.Names.{internal_cmp}
use Rattle.cedar_names.specs.Order.{word_cmp}
use Rattle.cedar_names.specs.OrderLaws.{words-total}
use Rattle.cedar_names.specs.declared.id.UnreservedId.{UnreservedId}
use Rattle.cedar_names.specs.declared.internal_name.InternalName.{InternalName}
use Rattle.cedar_names.specs.declared.name.EntityType as type_name
use Rattle.cedar_text.specs.declared.location.Loc.{Loc}
use Rattle.cedar_written.specs.CommonTypeIds.{unreserved_of}
use Rattle.cedar_written.specs.declared.common_type_id.CommonTypeId.{CommonTypeId}
use Rattle.cedar_written.specs.declared.conditional_name.ConditionalName.{ConditionalName}
use Rattle.cedar_written.specs.declared.raw_name.RawName.{RawName}
use Rattle.cedar_written.specs.declared.ty.SchemaType.{SchemaType}
use Rattle.cedar_fragment.specs.declared.definitions.CommonType.{CommonType}
use Rattle.cedar_fragment.specs.declared.definitions.EntityType.{EntityType}
use Rattle.cedar_definitions.specs.declared.structures.EntityTypeFragment.{EntityTypeFragment}
use Rattle.cedar_definitions.specs.declared.structures.EntityTypesDef.{EntityTypesDef}
use Rattle.cedar_namespace_definitions.specs.Definitions.{AreEntityTypes, common_in, entity_in, entity_name, entity_place, put_entries, with_keys}
use Rattle.cedar_namespace_definitions.specs.NamesIn.{entity_key}
use Rattle.cedar_namespace_definitions.proofs.Defines.{Defines, Defines-start, Defines-next, Defines-end, one_entry, put_one, same_keys}
use Rattle.cedar_namespace_definitions.proofs.NameOrders.{names_in_order}
use Rattle.cedar_namespace_definitions.proofs.Sorting.{entry}

-- the order of identifiers of common types
abbrev pub common_id_cmp : CommonTypeId → CommonTypeId → Ordering
common_id_cmp i j = word_cmp (unreserved_word (unreserved_of i)) (unreserved_word (unreserved_of j))

-- that of identifiers
abbrev pub id_cmp : UnreservedId → UnreservedId → Ordering
id_cmp i j = word_cmp (unreserved_word i) (unreserved_word j)

module _ (ns : Option InternalName) where
  abbrev common_entry : CommonTypeId × CommonType RawName → List (InternalName × SchemaType ConditionalName)
  common_entry = entry internal_cmp (λ c. (common_in ns c).0) (λ c. Some (common_in ns c).1)

  -- of the common types of a namespace, those before `left` are defined
  abbrev pub CommonTypes : List (CommonTypeId × CommonType RawName) → List (CommonTypeId × CommonType RawName) → List (InternalName × SchemaType ConditionalName) → Type 0
  CommonTypes whole left made = Defines internal_cmp (λ (n : InternalName). n) common_entry whole left made

  pub CommonTypes-start : (whole left : List (CommonTypeId × CommonType RawName)) (made : List (InternalName × SchemaType ConditionalName)) → left ≡ whole → made ≡ [] → CommonTypes whole left made
  CommonTypes-start = Defines-start internal_cmp (λ n. n) common_entry

  pub CommonTypes-next : {whole left rest : List (CommonTypeId × CommonType RawName)} {made more : List (InternalName × SchemaType ConditionalName)} (item : CommonTypeId × CommonType RawName) (name : InternalName) (ty : SchemaType ConditionalName)
      → CommonTypes whole left made → left ≡ item ∷ rest → (name, ty) ≡ common_in ns item → more ≡ insert_entry internal_cmp made name ty → CommonTypes whole rest more
  CommonTypes-next {made = made} item name ty sofar first is put =
      Defines-next item sofar first (ap (with_keys (λ n. n)) put ∙ put_one internal_cmp internal_cmp (λ n. n) (λ a b. refl) made name ty ∙ ap (λ e. insert_entry internal_cmp (with_keys (λ n. n) made) e.0 e.1) is)

  pub CommonTypes-end : {whole left : List (CommonTypeId × CommonType RawName)} {made : List (InternalName × SchemaType ConditionalName)} → CommonTypes whole left made → left ≡ [] → IsSortedMap common_id_cmp whole → made ≡ map (common_in ns) whole
  CommonTypes-end {whole} {made = made} sofar none sorted =
      sym (same_keys made)
      ∙ Defines-end (words-total components) common_id_cmp (λ c. (common_in ns c).0) (λ c. Some (common_in ns c).1) (λ x y. names_in_order ns (id_of (unreserved_of x.0)) (id_of (unreserved_of y.0)) x.1.loc y.1.loc) sofar none sorted
      ∙ one_entry (λ c. (common_in ns c).0) (λ c. (common_in ns c).1) whole

  -- of the entity types of a namespace, those before `left` are defined, and have their places
  pub record EntityTypes (whole left : List (UnreservedId × EntityType RawName)) (types : List (type_name.EntityType × EntityTypeFragment ConditionalName)) (places : List (type_name.EntityType × Loc)) : Type 0 where
    pub defs : Defines internal_cmp entity_key (entry internal_cmp (entity_name ns) (λ e. Some (entity_in ns e).1)) whole left types
    pub locs : Defines internal_cmp entity_key (entry internal_cmp (entity_name ns) (λ e. e.1.loc)) whole left places

  pub EntityTypes-start : (whole left : List (UnreservedId × EntityType RawName)) (types : List (type_name.EntityType × EntityTypeFragment ConditionalName)) (places : List (type_name.EntityType × Loc))
      → left ≡ whole → types ≡ [] → places ≡ [] → EntityTypes whole left types places
  EntityTypes-start whole left types places all none none' = record {
    defs = Defines-start internal_cmp entity_key (entry internal_cmp (entity_name ns) (λ e. Some (entity_in ns e).1)) whole left types all none;
    locs = Defines-start internal_cmp entity_key (entry internal_cmp (entity_name ns) (λ e. e.1.loc)) whole left places all none';
  }

  pub EntityTypes-next : {whole left rest : List (UnreservedId × EntityType RawName)} {types types' : List (type_name.EntityType × EntityTypeFragment ConditionalName)} {places places' : List (type_name.EntityType × Loc)} (item : UnreservedId × EntityType RawName)
      → EntityTypes whole left types places → left ≡ item ∷ rest
      → with_keys entity_key types' ≡ put_entries internal_cmp (with_keys entity_key types) (entity_in ns item ∷ [])
      → with_keys entity_key places' ≡ put_entries internal_cmp (with_keys entity_key places) (entity_place ns item) → EntityTypes whole rest types' places'
  EntityTypes-next item sofar first put put' = record {
    defs = Defines-next item sofar.defs first put;
    locs = Defines-next item sofar.locs first put';
  }

  pub EntityTypes-end : {whole left : List (UnreservedId × EntityType RawName)} (d : EntityTypesDef ConditionalName) → EntityTypes whole left d.defs d.locs → left ≡ [] → IsSortedMap id_cmp whole → AreEntityTypes ns whole d
  EntityTypes-end {whole} d sofar none sorted = record {
    types_are = Defines-end (words-total components) id_cmp (entity_name ns) (λ e. Some (entity_in ns e).1) (λ x y. names_in_order ns (id_of x.0) (id_of y.0) x.1.loc y.1.loc) sofar.defs none sorted ∙ one_entry (entity_name ns) (λ e. (entity_in ns e).1) whole;
    places_are = Defines-end (words-total components) id_cmp (entity_name ns) (λ e. e.1.loc) (λ x y. names_in_order ns (id_of x.0) (id_of y.0) x.1.loc y.1.loc) sofar.locs none sorted;
  }

pub ruleset common_types = (CommonTypes-start, CommonTypes-next, CommonTypes-end)

pub ruleset entity_types = (EntityTypes-start, EntityTypes-next, EntityTypes-end)
