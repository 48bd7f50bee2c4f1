-- SPDX-License-Identifier: Apache-2.0
-- Declarations as they are kept: by their names, which may have places.
use Rattle.std.specs.Prelude.{◌++◌, Bool, List, map}
use Rattle.std.specs.BTreeMap.{is_at}
use Rattle.std.specs.declared.cmp.Ordering.{Ordering}
use Rattle.cedar_names.specs.Components.{components}
use Rattle.cedar_names.specs.Names.{entity_words}
use Rattle.cedar_written.specs.declared.ref_name.RefName as ref_name
use Rattle.cedar_definitions.specs.declared.structures.ValidatorNamespaceDef.{ValidatorNamespaceDef}
use Rattle.cedar_schema_error.specs.FullNames.{uid_in}
use Rattle.cedar_schema_error.specs.declared.schema_error.SchemaError.{SchemaError}
use Rattle.cedar_schema_error.specs.declared.schema_error.SchemaError.TheVariants as error
use Rattle.cedar_duplicates.specs.Duplicates as names
use Rattle.cedar_duplicates.specs.declared.declaration.Declaration.{Declaration}
use Rattle.cedar_duplicates.specs.declared.declaration.Declaration.TheVariants.{CommonType, EntityType, Action}

-- what is declared
abbrev pub declared : Declaration → names.Declared
declared (CommonType name) = names.CommonType (components name)
declared (EntityType ty) = names.EntityType (entity_words ty)
declared (Action uid) = names.Action (uid_in uid)

-- the error that keeps the name of a declaration as it is, with its place
abbrev pub error_of : Declaration → SchemaError
error_of (CommonType name) = error.DuplicateCommonType (record { ty = name })
error_of (EntityType ty) = error.DuplicateEntityType (record { ty = ty })
error_of (Action uid) = error.DuplicateAction (record { uid = uid })

-- whether the first of two is equal to the second, in this order
abbrev pub same_by : {K : Type 0} → (K → K → Ordering) → K → K → Bool
same_by cmp a b = is_at (cmp b) a

module _ {N A : Type 0} {R : ref_name.Ghosts N} where
  -- what a definition declares, behind the others: common types, entity types, actions, each in order
  abbrev pub with_declarations : List Declaration → ValidatorNamespaceDef N A R → List Declaration
  with_declarations all d =
      ((all ++ map (λ e. CommonType e.0) d.common_types.defs) ++ map (λ e. EntityType e.0) d.entity_types.defs) ++ map (λ e. Action e.0) d.actions.actions
