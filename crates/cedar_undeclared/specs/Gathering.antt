-- SPDX-License-Identifier: Apache-2.0
-- How undeclared names are gathered: one after another, each in its order, and of equal names the first stays.
use Rattle.std.specs.Prelude.{List, cond, fold}
use Rattle.std.specs.BTreeSet.{insert_key}
use Rattle.std.specs.List.{flat_map}
use Rattle.cedar_data.specs.Maps.{map_values}
use Rattle.cedar_missing.specs.of_declared.Names.{Names, is_entity}
use Rattle.cedar_names.specs.Components.{components}
use Rattle.cedar_names.specs.Names.{internal_cmp}
use Rattle.cedar_names.specs.declared.internal_name.InternalName.{InternalName}
use Rattle.cedar_written.specs.Reference.{Reference, named, parent}
use Rattle.cedar_written.specs.References.{Refs, references}
use Rattle.cedar_written.specs.declared.reference_type.ReferenceType.TheVariants.{Common, Entity, CommonOrEntity}
use Rattle.cedar_written.specs.declared.ty.SchemaType.{SchemaType}

-- the references of types, in order
abbrev pub references_of_types : {K : Type 0} → List (K × SchemaType InternalName) → Refs InternalName
references_of_types es = flat_map (λ e. e.1) (map_values references es)

module _ (names : Names) where
  -- a name put to the others, unless it is a declared entity type
  abbrev pub with_undeclared : List InternalName → InternalName → List InternalName
  with_undeclared keys name = cond (is_entity names (components name)) keys (insert_key internal_cmp keys name)

  -- so a reference, where only an entity type may stand
  abbrev pub with_reference : List InternalName → Reference InternalName → List InternalName
  with_reference keys (named Common name) = keys
  with_reference keys (named Entity name) = with_undeclared keys name
  with_reference keys (named CommonOrEntity name) = keys
  with_reference keys (parent id ty) = keys

  -- names, and references, put to the others one after another
  abbrev pub with_all_undeclared : List InternalName → List InternalName → List InternalName
  with_all_undeclared keys more = fold with_undeclared keys more

  abbrev pub with_references : List InternalName → Refs InternalName → List InternalName
  with_references keys rs = fold with_reference keys rs
