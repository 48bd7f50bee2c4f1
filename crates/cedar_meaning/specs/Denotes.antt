-- SPDX-License-Identifier: Apache-2.0
-- The schema that a world denotes.
use Rattle.std.specs.Prelude.{◌≡◌, IsTrue, List, Option, Some, None}
use Rattle.std.specs.List.{AllZip}
use Rattle.cedar_data.specs.Sets.{contains, IsSetOf}
use Rattle.cedar_declared.specs.Names.{targets}
use Rattle.cedar_names.specs.Order.{words_cmp}
use Rattle.cedar_unfolding.specs.of_schema_error.FullNames.{FullName, Uid, uid_cmp}
use Rattle.cedar_unfolding.specs.of_schema_error.NameReferences.{ActionReference, NameReference}
use Rattle.cedar_unfolding.specs.Resolved.{Resolved}
use Rattle.cedar_unfolding.specs.Resolved as resolved
use Rattle.cedar_unfolding.specs.Unfolds.{Unfolds}
use Rattle.cedar_unfolding.specs.Written.{Written}
use Rattle.cedar_meaning.specs.Definitions.{ActionDefinition, EntityDefinition, Enumerated, Standard}
use Rattle.cedar_meaning.specs.Descents.{ActionDescendsFrom, DescendsFrom}
use Rattle.cedar_meaning.specs.Schemas.{EntityKind, EnumeratedKind, Schema, SchemaAction, SchemaEntity, StandardKind}
use Rattle.cedar_meaning.specs.Worlds.{World, actions, entity_types, meanings, names}

module _ (W : World) where
  -- tags unfold to tags, and none to none
  abbrev pub DenotesTags : Option (Written NameReference) → Option Resolved → Type 0
  DenotesTags None None = Unit {0}
  DenotesTags None (Some T) = ⊥
  DenotesTags (Some t) None = ⊥
  DenotesTags (Some t) (Some T) = Unfolds (meanings W) t T

  -- a shape unfolds to the record of the attributes; ids are kept
  abbrev pub DenotesKind : EntityDefinition NameReference → EntityKind → Type 0
  DenotesKind (Standard parents shape tags) (StandardKind parts is_open T) = Unfolds (meanings W) shape (resolved.Record parts is_open) × DenotesTags tags T
  DenotesKind (Standard parents shape tags) (EnumeratedKind ids) = ⊥
  DenotesKind (Enumerated ids) (StandardKind parts is_open T) = ⊥
  DenotesKind (Enumerated ids) (EnumeratedKind others) = others ≡ ids

  -- under its name, an entity type with those that descend from it
  pub record DenotesEntity (declared : FullName × EntityDefinition NameReference) (made : FullName × SchemaEntity) : Type 0 where
    pub named : made.0 ≡ declared.0
    pub descendants : IsSetOf words_cmp (DescendsFrom W declared.0) made.1.descendants
    pub kind : DenotesKind declared.1 made.1.kind

  -- the names are the targets of the references
  abbrev pub AreTargets : List NameReference → List FullName → Type 0
  AreTargets rs ns = IsSetOf words_cmp (λ n. IsTrue (contains words_cmp (targets (names W) rs) n)) ns

  -- under its id, an action with its principals and resources, its context, its attributes and those that descend from it
  pub record DenotesAction (declared : Uid × ActionDefinition NameReference ActionReference) (made : Uid × SchemaAction) : Type 0 where
    pub named : made.0 ≡ declared.0
    pub principals : AreTargets declared.1.principals made.1.principals
    pub resources : AreTargets declared.1.resources made.1.resources
    pub context : Unfolds (meanings W) declared.1.context made.1.context
    pub attribute_types : made.1.attribute_types ≡ declared.1.attribute_types
    pub attributes : made.1.attributes ≡ declared.1.attributes
    pub descendants : IsSetOf uid_cmp (ActionDescendsFrom W declared.0) made.1.descendants

  -- the schema has what is declared, and nothing else
  pub record Denotes (S : Schema) : Type 0 where
    pub entity_types : AllZip DenotesEntity (entity_types W) S.entity_types
    pub actions : AllZip DenotesAction (actions W) S.actions
