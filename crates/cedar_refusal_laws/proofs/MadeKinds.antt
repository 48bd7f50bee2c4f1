-- SPDX-License-Identifier: Apache-2.0
-- Definitions that come of declarations have the kinds of their places; and definitions that code holds declare names without `__cedar`.
use Rattle.std.proofs.Common.{◌≡◌, ℕ, Bool, true, false, not, IsTrue, List, [], ◌∷◌, Option, option_map, map, refl, sym, subst}
use Rattle.std.specs.List.{flat_map}
use Rattle.std.specs.Map.{keys_of}
use Rattle.cedar_data.specs.Firsts.{AllPass}
use Rattle.cedar_names.specs.Components.{has_cedar}
use Rattle.cedar_names.specs.Names.{entity_words, internal_of, name_words}
use Rattle.cedar_names.specs.EntityUids.{entity_type_of}
use Rattle.cedar_names.specs.declared.extensions.Extensions.{Extensions}
use Rattle.cedar_names.specs.declared.id.UnreservedId.{UnreservedId}
use Rattle.cedar_names.specs.declared.internal_name.InternalName.{InternalName}
use Rattle.cedar_names.specs.declared.name.Name.{Name}
use Rattle.cedar_written.specs.declared.common_type_id.CommonTypeId.{CommonTypeId}
use Rattle.cedar_written.specs.declared.raw_name.RawName.{RawName}
use Rattle.cedar_fragment.specs.ActionUids.{over_raw}
use Rattle.cedar_fragment.specs.declared.definitions.ActionType.{ActionType}
use Rattle.cedar_fragment.specs.declared.definitions.CommonType.{CommonType}
use Rattle.cedar_fragment.specs.declared.definitions.EntityType as declared
use Rattle.cedar_fragment.specs.declared.definitions.NamespaceDefinition.{NamespaceDefinition}
use Rattle.cedar_fragment_world.specs.of_definitions.Structures.{definitions_of}
use Rattle.cedar_fragment_world.specs.of_convert_fragment.Views.{action_seen, kind_seen, type_seen}
use Rattle.cedar_fragment_world.proofs.ActionsSeen.{action_alike}
use Rattle.cedar_fragment_world.proofs.EntitiesSeen.{entity_alike}
use Rattle.cedar_fragment_world.proofs.NamesSeen.{words_of}
use Rattle.cedar_fragment_world.proofs.TypesSeen.{type_alike}
use Rattle.cedar_fragment_world.specs.of_namespace_definitions.Definitions.{AreDefinitionsOf, IsDefinitionOf, action_in, common_in, entity_in}
use Rattle.cedar_phases.specs.Holding.{Definition, Definitions, world_of}
use Rattle.cedar_sound.proofs.NothingMissed.{pass_flat, pass_map, pass_unmap, pass_weaker}
use Rattle.cedar_sound.specs.Sound.{Cause}
use Rattle.cedar_schema_error.specs.FullNames.{Uid}
use Rattle.cedar_schema_error.specs.Refusals.{Refusal}
use Rattle.cedar_world.specs.DefinitionViews as views
use Rattle.cedar_world.specs.DefinitionViews.{common_type_in, entity_type_in, kind_in, namespace_in, type_in}
use Rattle.cedar_world.specs.Definitions.{Namespace}
use Rattle.cedar_world.specs.Worlds.{names_in}
use Rattle.cedar_refusal_laws.specs.Kinds.{ActionHasKinds, DeclareFree, EntityHasKinds, HasItsKinds, HaveTheirKinds, IsFree, NamespaceHasKinds}
use Rattle.cedar_refusal_laws.specs.Made.{IsMade}
use Rattle.cedar_refusal_laws.specs.NeverComing.{never_comes}
use Rattle.cedar_refusal_laws.proofs.FragmentKinds.{action_kinds, entity_kinds, type_kinds}
use Rattle.cedar_refusal_laws.proofs.Members.{pass_each_item}
use Rattle.cedar_refusal_laws.proofs.RuledOut.{ruled_out}

module _ (ns : Option InternalName) where
  common_kinds : (c : CommonTypeId × CommonType RawName) → HasItsKinds (type_in (common_in ns c).1)
  common_kinds c = subst HasItsKinds (sym (type_alike ns c.1.ty)) (type_kinds (words_of ns) (type_seen c.1.ty))

  entity_has : (e : UnreservedId × declared.EntityType RawName) → EntityHasKinds (kind_in (entity_in ns e).1)
  entity_has e = subst EntityHasKinds (sym (entity_alike ns e.1)) (entity_kinds (words_of ns) (kind_seen e.1.kind))

  action_has : (a : List ℕ × ActionType RawName over_raw) → ActionHasKinds (views.action_of (action_in ns a).1)
  action_has a = subst ActionHasKinds (sym (action_alike ns a.1)) (action_kinds (words_of ns) (action_seen a.1).content)

  -- the definition of declarations
  pub definition_kinds : (n : NamespaceDefinition RawName over_raw) (d : Definition) → IsDefinitionOf ns n d → NamespaceHasKinds (namespace_in d)
  definition_kinds n d is = record {
    common_types = pass_map (λ c. HasItsKinds c.1) common_type_in d.common_types.defs
        (subst (AllPass (λ c. HasItsKinds (type_in c.1))) (sym is.common_types_are)
        (pass_map (λ c. HasItsKinds (type_in c.1)) (common_in ns) n.common_types (pass_each_item (λ c. HasItsKinds (type_in (common_in ns c).1)) common_kinds n.common_types)));
    entity_types = pass_map (λ e. EntityHasKinds e.1) entity_type_in d.entity_types.defs
        (pass_unmap (λ e. EntityHasKinds (kind_in e.1)) _ d.entity_types.defs
        (subst (AllPass (λ e. EntityHasKinds (kind_in e.1))) (sym is.entity_types_are.types_are)
        (pass_map (λ e. EntityHasKinds (kind_in e.1)) (entity_in ns) n.entity_types (pass_each_item (λ e. EntityHasKinds (kind_in (entity_in ns e).1)) entity_has n.entity_types))));
    actions = pass_map (λ a. ActionHasKinds a.1) views.action_in d.actions.actions
        (pass_unmap (λ a. ActionHasKinds (views.action_of a.1)) _ d.actions.actions
        (subst (AllPass (λ a. ActionHasKinds (views.action_of a.1))) (sym is.actions_are)
        (pass_map (λ a. ActionHasKinds (views.action_of a.1)) (action_in ns) n.actions (pass_each_item (λ a. ActionHasKinds (views.action_of (action_in ns a).1)) action_has n.actions))));
  }

-- those of a fragment are made
pub fragment_made : (F : List (Option Name × NamespaceDefinition RawName over_raw)) (ds : List Definition) → AreDefinitionsOf F ds → AllPass IsMade ds
fragment_made [] [] are = tt
fragment_made [] (d ∷ ds) are = elim are [ ]
fragment_made (n ∷ ns) [] are = elim are [ ]
fragment_made (n ∷ ns) (d ∷ ds) are = (record { namespace = option_map internal_of n.0; declarations = n.1; is = are.0 }, fragment_made ns ds are.1)

-- made definitions have the kinds of their places
pub made_kinds : (ds : List Definition) → AllPass IsMade ds → HaveTheirKinds (map namespace_in ds)
made_kinds ds made = pass_map NamespaceHasKinds namespace_in ds (pass_weaker IsMade (λ d. NamespaceHasKinds (namespace_in d)) (λ d m. definition_kinds m.namespace m.declarations d m.is) ds made)

pub fragment_kept : (F : List (Option Name × NamespaceDefinition RawName over_raw)) (ds : List Definition) → AreDefinitionsOf F ds → HaveTheirKinds (map namespace_in ds)
fragment_kept F ds are = made_kinds ds (fragment_made F ds are)

-- ---- names without `__cedar`

pub isnt : (b : Bool) → IsTrue (not b) → b ≡ false
isnt true is = absurd (cc)
isnt false is = refl

pub name_free : (n : Name) → IsFree (name_words n)
name_free n = isnt (has_cedar (name_words n)) n.unreserved

types_free : (d : Definition) → AllPass IsFree (keys_of (namespace_in d).entity_types)
types_free d = pass_map IsFree (λ e. e.0) (namespace_in d).entity_types (pass_map (λ e. IsFree e.0) entity_type_in d.entity_types.defs
    (pass_each_item (λ e. IsFree (entity_words e.0)) (λ e. name_free e.0.name) d.entity_types.defs))

actions_free : (d : Definition) → AllPass (λ (uid : Uid). IsFree uid.ty) (keys_of (namespace_in d).actions)
actions_free d = pass_map (λ (uid : Uid). IsFree uid.ty) (λ a. a.0) (namespace_in d).actions (pass_map (λ a. IsFree a.0.ty) views.action_in d.actions.actions
    (pass_each_item (λ a. IsFree (entity_words (entity_type_of a.0))) (λ a. name_free (entity_type_of a.0).name) d.actions.actions))

definitions_free : (ds : List Definition) → DeclareFree (names_in (map namespace_in ds))
definitions_free ds = record {
  entity_types = pass_flat IsFree (λ (ns : Namespace). keys_of ns.entity_types) (map namespace_in ds) (pass_map (λ ns. AllPass IsFree (keys_of ns.entity_types)) namespace_in ds
      (pass_each_item (λ d. AllPass IsFree (keys_of (namespace_in d).entity_types)) types_free ds));
  actions = pass_flat (λ (uid : Uid). IsFree uid.ty) (λ (ns : Namespace). keys_of ns.actions) (map namespace_in ds) (pass_map (λ ns. AllPass (λ (uid : Uid). IsFree uid.ty) (keys_of ns.actions)) namespace_in ds
      (pass_each_item (λ d. AllPass (λ (uid : Uid). IsFree uid.ty) (keys_of (namespace_in d).actions)) actions_free ds));
}

module _ (fs : List Definitions) (X : Extensions) (e : Refusal) where
  -- where definitions have the kinds of their places, no cause is one of wrong kinds
  pub definitions_ruled_out : HaveTheirKinds (world_of fs X).namespaces → Cause (world_of fs X) e → never_comes e ≡ false
  definitions_ruled_out kinds = ruled_out (world_of fs X) kinds (definitions_free (flat_map definitions_of fs)) e

  -- so where they are made
  pub made_ruled_out : AllPass IsMade (flat_map definitions_of fs) → Cause (world_of fs X) e → never_comes e ≡ false
  made_ruled_out made = definitions_ruled_out (made_kinds (flat_map definitions_of fs) made)
