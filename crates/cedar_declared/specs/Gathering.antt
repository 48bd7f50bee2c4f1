-- SPDX-License-Identifier: Apache-2.0
-- The names that definitions declare, and how they are gathered.
use Rattle.std.specs.Prelude.{List, [], fold, map}
use Rattle.std.specs.BTreeSet.{insert_key}
use Rattle.std.specs.List.{flat_map}
use Rattle.std.specs.declared.alloc.Global.{Global}
use Rattle.std.specs.declared.cmp.Ordering.{Ordering}
use Rattle.cedar_names.specs.Components.{components}
use Rattle.cedar_names.specs.Names.{entity_words, internal_of, name_of}
use Rattle.cedar_names.specs.declared.entity_uid.EntityUID.{EntityUID}
use Rattle.cedar_names.specs.declared.internal_name.InternalName.{InternalName}
use Rattle.cedar_names.specs.declared.name.EntityType.{EntityType}
use Rattle.cedar_written.specs.declared.ref_name.RefName as ref_name
use Rattle.cedar_schema_error.specs.FullNames.{uid_cmp, uid_in}
use Rattle.cedar_definitions.specs.Structures.{definitions_of}
use Rattle.cedar_definitions.specs.declared.structures.ValidatorNamespaceDef.{ValidatorNamespaceDef}
use Rattle.cedar_definitions.specs.declared.structures.ValidatorSchemaFragment.{ValidatorSchemaFragment}
use Rattle.cedar_declared.specs.Names.{Names}
use Rattle.cedar_declared.specs.TypeNames.{with_name}
use Rattle.cedar_declared.specs.declared.all_defs.AllDefs.{AllDefs}
use Rattle.cedar_declared.specs.declared.gathered.Gathered.{Gathered}
use Rattle.cedar_declared.specs.declared.type_names.TypeNames.{TypeNames}

-- the order of actions
abbrev pub action_cmp : EntityUID → EntityUID → Ordering
action_cmp a b = uid_cmp (uid_in a) (uid_in b)

-- names of entity types, of common types and of actions put to others
abbrev pub with_entity_types : {V : Type 0} → TypeNames → List (EntityType × V) → TypeNames
with_entity_types t es = fold (λ t e. with_name t (internal_of (name_of e.0))) t es

abbrev pub with_common_types : {V : Type 0} → TypeNames → List (InternalName × V) → TypeNames
with_common_types t es = fold (λ t e. with_name t e.0) t es

abbrev pub with_actions : {V : Type 0} → List EntityUID → List (EntityUID × V) → List EntityUID
with_actions t es = fold (λ t e. insert_key action_cmp t e.0) t es

module _ {N A : Type 0} {R : ref_name.Ghosts N} where
  -- the names of a definition put to others
  abbrev pub with_definition : AllDefs → ValidatorNamespaceDef N A R → AllDefs
  with_definition all d = record {
    alloc = all.alloc;
    entity_types = with_entity_types all.entity_types d.entity_types.defs;
    common_types = with_common_types all.common_types d.common_types.defs;
    actions = with_actions all.actions d.actions.actions;
  }

  -- those of a fragment
  unfoldable pub with_fragment : AllDefs → ValidatorSchemaFragment N A R → AllDefs
  with_fragment all f = fold with_definition all (definitions_of f)

  -- the names that definitions declare
  abbrev pub declared_names : List (ValidatorNamespaceDef N A R) → Names
  declared_names ds = record {
    entity_types = flat_map (λ d. map (λ e. entity_words e.0) d.entity_types.defs) ds;
    common_types = flat_map (λ d. map (λ e. components e.0) d.common_types.defs) ds;
    actions = flat_map (λ d. map (λ e. uid_in e.0) d.actions.actions) ds;
  }

-- gathered names as declared ones
abbrev pub gathered : Global → Gathered → AllDefs
gathered alloc g = record {
  alloc = alloc;
  entity_types = g.entity_types;
  common_types = g.common_types;
  actions = g.actions;
}

-- no names
abbrev pub no_names : Global → AllDefs
no_names alloc = record {
  alloc = alloc;
  entity_types = record { unqualified = []; qualified = [] };
  common_types = record { unqualified = []; qualified = [] };
  actions = [];
}
