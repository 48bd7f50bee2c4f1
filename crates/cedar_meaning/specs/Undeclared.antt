-- SPDX-License-Identifier: Apache-2.0
-- Names that must be entity types, and are not.
use Rattle.std.specs.Prelude.{◌++◌, ◌&&◌, ℕ, Bool, not, IsTrue, List, [], ◌∷◌}
use Rattle.std.specs.List.{flat_map}
use Rattle.cedar_data.specs.Sets.{contains}
use Rattle.cedar_declared.specs.Names.{is_entity, targets}
use Rattle.cedar_names.specs.Order.{words_cmp}
use Rattle.cedar_unfolding.specs.of_schema_error.FullNames.{FullName}
use Rattle.cedar_unfolding.specs.of_schema_error.NameReferences.{ActionReference, NameReference}
use Rattle.cedar_unfolding.specs.Written.{Written, WrittenAttributes, Boolean, Long, String, Extension, Set, Record, Entity, EntityOrCommon, CommonTypeRef, no_attributes, attribute}
use Rattle.cedar_meaning.specs.Definitions.{ActionDefinition, EntityDefinition, parents_of}
use Rattle.cedar_meaning.specs.Worlds.{World, actions, common_types, entity_types, names, uses}

-- the references of a type that stand where only an entity type may stand
abbrev mutual
  pub entity_references : {N : Type 0} → Written N → List N
  entity_references Boolean = []
  entity_references Long = []
  entity_references String = []
  entity_references (Extension e) = []
  entity_references (Set element) = entity_references element
  entity_references (Record parts is_open) = attribute_entity_references parts
  entity_references (Entity r) = r ∷ []
  entity_references (EntityOrCommon r) = []
  entity_references (CommonTypeRef r) = []

  pub attribute_entity_references : {N : Type 0} → WrittenAttributes N → List N
  attribute_entity_references no_attributes = []
  attribute_entity_references (attribute name required ty others) = entity_references ty ++ attribute_entity_references others

-- those of types
abbrev pub all_entity_references : {K N : Type 0} → List (K × Written N) → List N
all_entity_references types = flat_map (λ e. entity_references e.1) types

-- the parents of entity types, and what actions apply to
abbrev pub entity_parents : {K N : Type 0} → List (K × EntityDefinition N) → List N
entity_parents types = flat_map (λ e. parents_of e.1) types

abbrev pub applications : {K N A : Type 0} → List (K × ActionDefinition N A) → List N
applications actions = flat_map (λ a. a.1.principals ++ a.1.resources) actions

module _ (W : World) where
  -- the references that must mean entity types: in common types, in uses of types, parents of entity types, and what actions apply to
  abbrev pub references_to_entities : List NameReference
  references_to_entities =
      all_entity_references (common_types W) ++ (all_entity_references (uses W) ++ (entity_parents (entity_types W) ++ applications (actions W)))

  -- the name is the target of such a reference, and no declared entity type
  abbrev pub IsUndeclared : FullName → Type 0
  IsUndeclared name = IsTrue (contains words_cmp (targets (names W) references_to_entities) name && not (is_entity (names W) name))
