-- SPDX-License-Identifier: Apache-2.0
-- What the references of definitions miss: the references that mean nothing declared, as far as each declaration reports them, and the names with `__cedar` that must not be meant.
use Rattle.std.specs.Prelude.{◌++◌, Bool, List, [], ◌∷◌, cond, map, Option, Some, None, option_to_list}
use Rattle.std.specs.List.{find, flat_map}
use Rattle.std.specs.Option.{is_none}
use Rattle.cedar_data.specs.Maps.{map_values}
use Rattle.cedar_names.specs.Components.{components, has_cedar}
use Rattle.cedar_names.specs.declared.internal_name.InternalName.{InternalName}
use Rattle.cedar_declared.specs.of_definitions.declared.structures.ActionFragment.{ActionFragment}
use Rattle.cedar_declared.specs.of_definitions.declared.structures.EntityTypeFragment.{EntityTypeFragment}
use Rattle.cedar_declared.specs.of_definitions.declared.structures.EntityTypeFragment.TheVariants.{Standard, Enum}
use Rattle.cedar_declared.specs.of_definitions.declared.structures.ValidatorApplySpec.{ValidatorApplySpec}
use Rattle.cedar_declared.specs.of_definitions.declared.structures.ValidatorNamespaceDef.{ValidatorNamespaceDef}
use Rattle.cedar_declared.specs.Names.{Names}
use Rattle.cedar_declared.specs.Targets.{found, found_action, parent_type}
use Rattle.cedar_fragment.specs.ActionUids.{over_conditional, type_in}
use Rattle.cedar_fragment.specs.declared.action_uid.ActionEntityUID.{ActionEntityUID}
use Rattle.cedar_fragment.specs.declared.attributes_or_context.AttributesOrContext.{AttributesOrContext}
use Rattle.cedar_declared.specs.of_schema_error.declared.schema_error.SchemaError.{SchemaError}
use Rattle.cedar_declared.specs.of_schema_error.declared.schema_error.SchemaError.TheVariants as error
use Rattle.cedar_written.specs.Possibilities.{leading}
use Rattle.cedar_written.specs.Reference.{Reference, named, parent}
use Rattle.cedar_written.specs.References.{Refs, references, references_of_attribute}
use Rattle.cedar_written.specs.declared.conditional_name.ConditionalName.{ConditionalName}
use Rattle.cedar_written.specs.declared.ty.SchemaType.{SchemaType}
use Rattle.cedar_written.specs.declared.ty.TypeOfAttribute.{TypeOfAttribute}
use Rattle.cedar_missing.specs.declared.missing.Missing.{Missing}

-- the parent of an action, over names with what they may stand for
abbrev pub Parent : Type 0
Parent = ActionEntityUID ConditionalName over_conditional

-- the first list, or the second where the first is empty
abbrev pub or_else : {A : Type 0} → List A → List A → List A
or_else [] ys = ys
or_else (x ∷ xs) ys = x ∷ xs

-- nothing is missed
abbrev pub no_missing : Missing
no_missing = record { types = []; actions = []; reserved = [] }

-- the same, with these types where none is missed
abbrev pub or_types : Missing → List ConditionalName → Missing
or_types m types = record { types = or_else m.types types; actions = m.actions; reserved = m.reserved }

-- what both miss
abbrev pub joined : Missing → Missing → Missing
joined a b = record { types = a.types ++ b.types; actions = a.actions ++ b.actions; reserved = a.reserved ++ b.reserved }

-- the name at a place
abbrev pub name_at : Reference ConditionalName → ConditionalName
name_at (named kind n) = n
name_at (parent id ty) = parent_type ty

-- the references of attributes by name
abbrev pub references_of_attributes : {K N : Type 0} → List (K × TypeOfAttribute N) → Refs N
references_of_attributes es = flat_map (λ e. e.1) (map_values references_of_attribute es)

-- this reference, and this parent of an action, alone
abbrev pub no_type : ConditionalName → Missing
no_type n = record { types = n ∷ []; actions = []; reserved = [] }

abbrev pub no_action : Parent → Missing
no_action a = record { types = []; actions = a ∷ []; reserved = [] }

-- the name, where it has `__cedar`
abbrev pub reserved_alone : InternalName → List InternalName
reserved_alone n = cond (has_cedar (components n)) (n ∷ []) []

-- what is missed without a target, or else the target where it has `__cedar`
abbrev pub missing_by : Missing → Option InternalName → Missing
missing_by without None = without
missing_by without (Some target) = record { types = []; actions = []; reserved = reserved_alone target }

-- all of these, one after another
abbrev pub missing_in_each : {A : Type 0} → (A → Missing) → List A → Missing
missing_in_each missing xs = record {
  types = flat_map (λ x. (missing x).types) xs;
  actions = flat_map (λ x. (missing x).actions) xs;
  reserved = flat_map (λ x. (missing x).reserved) xs;
}

-- one more, behind the others
abbrev pub with_missing : {A : Type 0} → (A → Missing) → Missing → A → Missing
with_missing missing m x = joined m (missing x)

-- the values of a map, in the order of its keys
abbrev pub missing_in_values : {K V : Type 0} → (V → Missing) → List (K × V) → Missing
missing_in_values missing es = missing_in_each (λ e. missing e.1) es

module _ (names : Names) where
  -- whether a reference means nothing declared
  abbrev pub is_undefined : ConditionalName → Bool
  is_undefined n = is_none (found names n)

  -- the reference, unless it means something declared
  abbrev pub unless_found : ConditionalName → Option ConditionalName
  unless_found n = cond (is_undefined n) (Some n) None

  -- the first of the references that means nothing declared
  abbrev pub first_undefined : Refs ConditionalName → Option ConditionalName
  first_undefined rs = find is_undefined (map name_at rs)

  -- that of a type, alone
  abbrev pub missing_in_type : SchemaType ConditionalName → List ConditionalName
  missing_in_type ty = option_to_list (first_undefined (references ty))

  -- a parent, principal or resource: itself, where it means nothing declared; else what it means, where that has `__cedar`
  abbrev pub missing_in_name : ConditionalName → Missing
  missing_in_name n = missing_by (no_type n) (found names n)

  -- the type with which the parent of an action is a declared action
  abbrev pub found_parent : Parent → Option InternalName
  found_parent a = found_action names a.id (parent_type (type_in a))

  -- the parent of an action: itself, where it is no declared action; else its type, where that has `__cedar`
  abbrev pub missing_in_parent : Parent → Missing
  missing_in_parent a = missing_by (no_action a) (found_parent a)

  -- a common type: the first reference of its definition
  abbrev pub missing_in_common : SchemaType ConditionalName → Missing
  missing_in_common ty = record { types = missing_in_type ty; actions = []; reserved = [] }

  -- the first reference of a shape, and the first of the type of tags
  abbrev pub missing_parts : AttributesOrContext ConditionalName → Option (SchemaType ConditionalName) → List ConditionalName
  missing_parts shape tags = missing_in_type shape.0 ++ flat_map missing_in_type (option_to_list tags)

  -- an entity type: all its parents; where none is undefined, the first of its shape and the first of its tags
  abbrev pub missing_in_entity : EntityTypeFragment ConditionalName → Missing
  missing_in_entity (Standard shape parents tags) = or_types (missing_in_each missing_in_name parents) (missing_parts shape tags)
  missing_in_entity (Enum choices) = no_missing

  -- what an action applies to: all principals, and then all resources
  abbrev pub missing_in_apply : ValidatorApplySpec ConditionalName → Missing
  missing_in_apply a = joined (missing_in_each missing_in_name a.principal_apply_spec) (missing_in_each missing_in_name a.resource_apply_spec)

  -- an action: the first of its context; where none is undefined, all principals and resources; and all its parents
  abbrev pub missing_in_action : ActionFragment ConditionalName ConditionalName over_conditional → Missing
  missing_in_action a = record {
    types = or_else (missing_in_type a.context) (missing_in_apply a.applies_to).types;
    actions = (missing_in_each missing_in_parent a.parents).actions;
    reserved = (missing_in_apply a.applies_to).reserved ++ (missing_in_each missing_in_parent a.parents).reserved;
  }

  -- a definition: its common types, then its entity types, then its actions, each in order
  abbrev pub missing_in_definition : ValidatorNamespaceDef ConditionalName ConditionalName over_conditional → Missing
  missing_in_definition d =
      joined (joined (missing_in_values missing_in_common d.common_types.defs) (missing_in_values missing_in_entity d.entity_types.defs))
      (missing_in_values missing_in_action d.actions.actions)

-- the refusal of the first of the names with `__cedar`
abbrev pub reserved_refusal : List InternalName → Option SchemaError
reserved_refusal [] = None
reserved_refusal (n ∷ ns) = Some (error.ReservedName (record { name = n }))

-- the refusal of these types and these actions
abbrev pub refusal_by : List ConditionalName → List Parent → List InternalName → Option SchemaError
refusal_by (t ∷ ts) actions reserved = Some (error.TypeNotDefined (record { undefined_types = leading t ts }))
refusal_by [] (a ∷ more) reserved = Some (error.ActionNotDefined (record { uids = leading a more }))
refusal_by [] [] reserved = reserved_refusal reserved

-- why definitions that miss so much are refused: for all types; where there are none, for all actions; where there are none, for the first name with `__cedar`
abbrev pub refusal_of : Missing → Option SchemaError
refusal_of m = refusal_by m.types m.actions m.reserved
