-- SPDX-License-Identifier: Apache-2.0
-- The keys that references mean.
use Rattle.std.specs.Prelude.{◌&&◌, Bool, false, not, IsTrue, List, Option, Some, None, map}
use Rattle.std.specs.BTreeMap.{is_at}
use Rattle.std.specs.declared.cmp.Ordering.{Ordering}
use Rattle.cedar_data.specs.Sets.{contains, IsSetOf}
use Rattle.cedar_outlines.specs.of_declared.Names.{Names, action_target, target, targets}
use Rattle.cedar_fragment.specs.ActionUids.{over_conditional}
use Rattle.cedar_fragment.specs.declared.action_uid.ActionEntityUID.{ActionEntityUID}
use Rattle.cedar_names.specs.Components.{has_cedar}
use Rattle.cedar_names.specs.Names.{entity_words}
use Rattle.cedar_names.specs.Order.{words_cmp}
use Rattle.cedar_names.specs.declared.entity_uid.EntityUID.{EntityUID}
use Rattle.cedar_names.specs.declared.name.EntityType.{EntityType}
use Rattle.cedar_schema_error.specs.FullNames.{uid_cmp, uid_in}
use Rattle.cedar_schema_error.specs.NameReferences.{action_reference_of, reference_of}
use Rattle.cedar_written.specs.declared.conditional_name.ConditionalName.{ConditionalName}

-- whether what is there is equal to `key`
abbrev pub is_here : {K : Type 0} → (K → K → Ordering) → Option K → K → Bool
is_here cmp None key = false
is_here cmp (Some k) key = is_at (cmp key) k

-- whether a reference means this entity type
abbrev pub is_type_meant : Names → ConditionalName → EntityType → Bool
is_type_meant names n ty = is_here words_cmp (target names (reference_of n)) (entity_words ty)

-- whether the parent of an action is this action
abbrev pub is_action_meant : Names → ActionEntityUID ConditionalName over_conditional → EntityUID → Bool
is_action_meant names a uid = is_here uid_cmp (action_target names (action_reference_of a)) (uid_in uid)

-- the entity types are the targets of the references, but for those with the component `__cedar`
abbrev pub AreMeant : Names → List ConditionalName → List EntityType → Type 0
AreMeant names references types =
    IsSetOf words_cmp (λ n. IsTrue (contains words_cmp (targets names (map reference_of references)) n && not (has_cedar n))) (map entity_words types)
