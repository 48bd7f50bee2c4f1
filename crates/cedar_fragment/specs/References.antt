-- SPDX-License-Identifier: Apache-2.0
-- The references of declarations, in the order of fields and keys.
use Rattle.std.specs.Prelude.{[], ◌∷◌, ◌++◌}
use Rattle.std.specs.List.{flat_map}
use Rattle.std.specs.Option.{option_to_list}
use Rattle.cedar_written.specs.Reference.{parent}
use Rattle.cedar_written.specs.References.{Refs, references, references_of_names}
use Rattle.cedar_written.specs.declared.ref_name.RefName as ref_name
use Rattle.cedar_written.specs.declared.reference_type.ReferenceType.TheVariants as kind
use Rattle.cedar_fragment.specs.declared.action_uid.ActionEntityUID.{ActionEntityUID}
use Rattle.cedar_fragment.specs.declared.attributes_or_context.AttributesOrContext.{AttributesOrContext}
use Rattle.cedar_fragment.specs.declared.definitions.ActionType.{ActionType}
use Rattle.cedar_fragment.specs.declared.definitions.ApplySpec.{ApplySpec}
use Rattle.cedar_fragment.specs.declared.definitions.CommonType.{CommonType}
use Rattle.cedar_fragment.specs.declared.definitions.EntityType.{EntityType}
use Rattle.cedar_fragment.specs.declared.definitions.EntityTypeKind.{EntityTypeKind}
use Rattle.cedar_fragment.specs.declared.definitions.EntityTypeKind.TheVariants as sort
use Rattle.cedar_fragment.specs.declared.definitions.NamespaceDefinition.{NamespaceDefinition}
use Rattle.cedar_fragment.specs.declared.definitions.StandardEntityType.{StandardEntityType}

module _ {N : Type 0} where
  abbrev pub references_of_shape : AttributesOrContext N → Refs N
  references_of_shape s = references s.0

  abbrev pub references_of_common : CommonType N → Refs N
  references_of_common c = references c.ty

  abbrev pub references_of_standard : StandardEntityType N → Refs N
  references_of_standard e = references_of_names kind.Entity e.member_of_types ++ (references_of_shape e.shape ++ flat_map references (option_to_list e.tags))

  abbrev pub references_of_kind : EntityTypeKind N → Refs N
  references_of_kind (sort.Standard e) = references_of_standard e
  references_of_kind (sort.Enum choices) = []

  abbrev pub references_of_entity : EntityType N → Refs N
  references_of_entity e = references_of_kind e.kind

  abbrev pub references_of_apply : ApplySpec N → Refs N
  references_of_apply a = references_of_names kind.Entity a.resource_types ++ (references_of_names kind.Entity a.principal_types ++ references_of_shape a.context)

module _ {N : Type 0} {R : ref_name.Ghosts N} where
  abbrev pub references_of_uid : ActionEntityUID N R → Refs N
  references_of_uid u = parent u.id u.ty ∷ []

  abbrev pub references_of_action : ActionType N R → Refs N
  references_of_action a = flat_map references_of_apply (option_to_list a.applies_to) ++ flat_map (flat_map references_of_uid) (option_to_list a.member_of)

  abbrev pub references_of_namespace : NamespaceDefinition N R → Refs N
  references_of_namespace n = flat_map (λ e. references_of_common e.1) n.common_types ++ (flat_map (λ e. references_of_entity e.1) n.entity_types ++ flat_map (λ e. references_of_action e.1) n.actions)
