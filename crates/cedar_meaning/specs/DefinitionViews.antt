-- SPDX-License-Identifier: Apache-2.0
-- The definitions that code holds, places aside.
use Rattle.std.specs.Prelude.{map}
use Rattle.std.specs.Option.{option_map}
use Rattle.cedar_declared.specs.of_definitions.declared.structures.ActionFragment.{ActionFragment}
use Rattle.cedar_declared.specs.of_definitions.declared.structures.EntityTypeFragment.{EntityTypeFragment}
use Rattle.cedar_declared.specs.of_definitions.declared.structures.EntityTypeFragment.TheVariants as code
use Rattle.cedar_declared.specs.of_definitions.declared.structures.ValidatorNamespaceDef.{ValidatorNamespaceDef}
use Rattle.cedar_declared.specs.of_definitions.ActionUids.{over_conditional}
use Rattle.cedar_names.specs.Components.{components}
use Rattle.cedar_names.specs.Names.{entity_words}
use Rattle.cedar_names.specs.declared.entity_uid.EntityUID.{EntityUID}
use Rattle.cedar_names.specs.declared.internal_name.InternalName.{InternalName}
use Rattle.cedar_names.specs.declared.name.EntityType.{EntityType}
use Rattle.cedar_unfolding.specs.of_schema_error.FullNames.{FullName, Uid, uid_in}
use Rattle.cedar_unfolding.specs.of_schema_error.NameReferences.{ActionReference, NameReference, action_reference_of, reference_of}
use Rattle.cedar_names.specs.of_text.Lists.{elements}
use Rattle.cedar_unfolding.specs.Written.{Written}
use Rattle.cedar_unfolding.specs.WrittenViews.{written_type, written_variant}
use Rattle.cedar_written.specs.declared.conditional_name.ConditionalName.{ConditionalName}
use Rattle.cedar_written.specs.declared.ty.SchemaType.{SchemaType}
use Rattle.cedar_written.specs.declared.ty.TypeVariant.{TypeVariant}
use Rattle.cedar_meaning.specs.Definitions.{ActionDefinition, EntityDefinition, Enumerated, Namespace, Standard}

-- a type, each of whose references carries the names that it may stand for
abbrev pub type_in : SchemaType ConditionalName → Written NameReference
type_in ty = written_type reference_of ty

abbrev pub variant_in : TypeVariant ConditionalName → Written NameReference
variant_in ty = written_variant reference_of ty

-- a common type under its full name
abbrev pub common_type_in : InternalName × SchemaType ConditionalName → FullName × Written NameReference
common_type_in c = (components c.0, type_in c.1)

-- an entity type
abbrev pub kind_in : EntityTypeFragment ConditionalName → EntityDefinition NameReference
kind_in (code.Standard shape parents tags) = Standard (map reference_of parents) (type_in shape.0) (option_map type_in tags)
kind_in (code.Enum ids) = Enumerated (elements ids)

-- an entity type under its full name
abbrev pub entity_type_in : EntityType × EntityTypeFragment ConditionalName → FullName × EntityDefinition NameReference
entity_type_in e = (entity_words e.0, kind_in e.1)

-- an action
abbrev pub action_of : ActionFragment ConditionalName ConditionalName over_conditional → ActionDefinition NameReference ActionReference
action_of a = record {
  parents = map action_reference_of a.parents;
  principals = map reference_of a.applies_to.principal_apply_spec;
  resources = map reference_of a.applies_to.resource_apply_spec;
  context = type_in a.context;
  attribute_types = a.attribute_types;
  attributes = a.attributes;
}

-- an action under its id
abbrev pub action_in : EntityUID × ActionFragment ConditionalName ConditionalName over_conditional → Uid × ActionDefinition NameReference ActionReference
action_in a = (uid_in a.0, action_of a.1)

-- the definitions of a namespace
abbrev pub namespace_in : ValidatorNamespaceDef ConditionalName ConditionalName over_conditional → Namespace
namespace_in d = record {
  common_types = map common_type_in d.common_types.defs;
  entity_types = map entity_type_in d.entity_types.defs;
  actions = map action_in d.actions.actions;
}
