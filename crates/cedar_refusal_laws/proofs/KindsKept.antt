-- SPDX-License-Identifier: Apache-2.0
-- Where the definitions of a world have the kinds of their places, so do its builtin types and aliases, and what its tables gather of all of them.
use Rattle.std.proofs.Common.{◌≡◌, ◌++◌, ℕ, List, [], ◌∷◌, refl}
use Rattle.std.specs.List.{filter, flat_map}
use Rattle.std.specs.Map.{keys_of}
use Rattle.cedar_data.specs.Firsts.{AllPass}
use Rattle.cedar_names.specs.Order.{words_cmp}
use Rattle.cedar_names.specs.of_text.Words.{primitive_words}
use Rattle.cedar_written.specs.declared.reference_type.ReferenceType.TheVariants as kind
use Rattle.cedar_sound.proofs.NothingMissed.{pass_append, pass_each, pass_flat, pass_map, pass_map_of, pass_weaker}
use Rattle.cedar_schema_error.specs.FullNames.{FullName, Uid, uid_cmp}
use Rattle.cedar_schema_error.specs.NameReferences.{NameReference}
use Rattle.cedar_world.specs.of_unfold.Written.{Written, WrittenAttributes, Boolean, Long, String, Extension, Set, Record, Entity, EntityOrCommon, CommonTypeRef, no_attributes, attribute}
use Rattle.cedar_world.specs.Definitions.{Namespace, parents_of}
use Rattle.cedar_world.specs.Undeclared.{all_entity_references, applications, attribute_entity_references, entity_parents, entity_references, references_to_entities}
use Rattle.cedar_world.specs.Worlds.{World, actions, alias, aliases, all_namespaces, builtins, common_types, entity_types, extension_type, is_free, names, own, uses}
use Rattle.cedar_refusal_laws.specs.Kinds.{ActionHasKinds, AreOf, DeclareFree, EntityHasKinds, HasItsKinds, HaveTheirKinds, IsFree, IsOfKind, NamespaceHasKinds}
use Rattle.cedar_refusal_laws.specs.Parts.{Any, EachPartOf}
use Rattle.cedar_refusal_laws.proofs.TypesKept.{EntityHas, NamespaceHas}
use Rattle.cedar_refusal_laws.proofs.TypesKept as types

-- the references in attributes have the kinds of their places
abbrev pub HaveTheirs : WrittenAttributes NameReference → Type 0
HaveTheirs = EachPartOf Any Any IsOfKind

-- the references of a type that stand where only an entity type may stand have that kind
mutual
  type_entities : (t : Written NameReference) → HasItsKinds t → AreOf kind.Entity (entity_references t)
  type_entities Boolean h = tt
  type_entities Long h = tt
  type_entities String h = tt
  type_entities (Extension e) h = tt
  type_entities (Set t) h = type_entities t h
  type_entities (Record ts is_open) h = attribute_entities ts h.1
  type_entities (Entity r) h = (h, tt)
  type_entities (EntityOrCommon r) h = tt
  type_entities (CommonTypeRef r) h = tt

  attribute_entities : (ts : WrittenAttributes NameReference) → HaveTheirs ts → AreOf kind.Entity (attribute_entity_references ts)
  attribute_entities no_attributes h = tt
  attribute_entities (attribute name required t ts) h =
      pass_append (λ (r : NameReference). r.kind ≡ kind.Entity) (entity_references t) (attribute_entity_references ts) (type_entities t h.0) (attribute_entities ts h.1)

module _ (W : World) (kinds : HaveTheirKinds W.namespaces) where
  builtins_have : AllPass (λ c. HasItsKinds c.1) (builtins W.extensions)
  builtins_have = (tt, (tt, (tt, pass_map (λ (c : FullName × Written NameReference). HasItsKinds c.1) extension_type W.extensions (each W.extensions))))
    where
      each : (words : List (List ℕ)) → AllPass (λ word. HasItsKinds (extension_type word).1) words
      each [] = tt
      each (word ∷ words) = (tt, each words)

  aliases_have : AllPass (λ c. HasItsKinds c.1) (aliases (own W) W.extensions)
  aliases_have = pass_map (λ (c : FullName × Written NameReference). HasItsKinds c.1) alias (filter (is_free (own W)) (primitive_words ++ W.extensions)) (each (filter (is_free (own W)) (primitive_words ++ W.extensions)))
    where
      each : (words : List (List ℕ)) → AllPass (λ word. HasItsKinds (alias word).1) words
      each [] = tt
      each (word ∷ words) = (refl, each words)

  -- all of its namespaces
  pub namespaces_have : HaveTheirKinds (all_namespaces W)
  namespaces_have = pass_append NamespaceHasKinds W.namespaces _ kinds (
    record { common_types = pass_map_of words_cmp HasItsKinds (builtins W.extensions) builtins_have; entity_types = tt; actions = tt },
    (record { common_types = pass_map_of words_cmp HasItsKinds (aliases (own W) W.extensions) aliases_have; entity_types = tt; actions = tt }, tt),
  )

  -- so does each type of a namespace
  types_kept : AllPass (NamespaceHas HasItsKinds) W.namespaces
  types_kept = pass_weaker NamespaceHasKinds (NamespaceHas HasItsKinds) (λ ns h. record {
    of_common_types = h.common_types;
    of_entity_types = pass_weaker (λ e. EntityHasKinds e.1) (λ e. EntityHas HasItsKinds e.1) (λ e k. (k.shape, k.tags)) ns.entity_types h.entity_types;
    of_actions = pass_weaker (λ a. ActionHasKinds a.1) (λ a. HasItsKinds a.1.context) (λ a k. k.context) ns.actions h.actions;
  }) W.namespaces kinds

  -- its common types
  pub commons_have : AllPass (λ c. HasItsKinds c.1) (common_types W)
  commons_have = types.commons_have HasItsKinds W types_kept builtins_have aliases_have

  -- its uses of types
  pub uses_have : AllPass (λ u. HasItsKinds u.1) (uses W)
  uses_have = types.uses_have HasItsKinds W types_kept builtins_have aliases_have

  entities_have : AllPass (λ e. EntityHasKinds e.1) (entity_types W)
  entities_have = pass_map_of words_cmp EntityHasKinds (flat_map (λ ns. ns.entity_types) (all_namespaces W)) (pass_flat (λ e. EntityHasKinds e.1) (λ ns. ns.entity_types) (all_namespaces W)
      (pass_weaker NamespaceHasKinds (λ ns. AllPass (λ e. EntityHasKinds e.1) ns.entity_types) (λ ns h. h.entity_types) (all_namespaces W) namespaces_have))

  actions_have : AllPass (λ a. ActionHasKinds a.1) (actions W)
  actions_have = pass_map_of uid_cmp ActionHasKinds (flat_map (λ ns. ns.actions) (all_namespaces W)) (pass_flat (λ a. ActionHasKinds a.1) (λ ns. ns.actions) (all_namespaces W)
      (pass_weaker NamespaceHasKinds (λ ns. AllPass (λ a. ActionHasKinds a.1) ns.actions) (λ ns h. h.actions) (all_namespaces W) namespaces_have))

  -- the references that must mean entity types have that kind
  abbrev IsOfEntity : NameReference → Type 0
  IsOfEntity r = r.kind ≡ kind.Entity

  of_types : {K : Type 0} (ts : List (K × Written NameReference)) → AllPass (λ t. HasItsKinds t.1) ts → AreOf kind.Entity (all_entity_references ts)
  of_types ts h = pass_flat IsOfEntity (λ t. entity_references t.1) ts (pass_weaker (λ t. HasItsKinds t.1) (λ t. AreOf kind.Entity (entity_references t.1)) (λ t. type_entities t.1) ts h)

  of_parents : AreOf kind.Entity (entity_parents (entity_types W))
  of_parents = pass_flat IsOfEntity (λ e. parents_of e.1) (entity_types W) (pass_weaker (λ e. EntityHasKinds e.1) (λ e. AreOf kind.Entity (parents_of e.1)) (λ e h. h.parents) (entity_types W) entities_have)

  of_applications : AreOf kind.Entity (applications (actions W))
  of_applications = pass_flat IsOfEntity (λ a. a.1.principals ++ a.1.resources) (actions W)
      (pass_weaker (λ a. ActionHasKinds a.1) (λ a. AreOf kind.Entity (a.1.principals ++ a.1.resources)) (λ a h. pass_append IsOfEntity a.1.principals a.1.resources h.principals h.resources) (actions W) actions_have)

  pub entities_named : AreOf kind.Entity (references_to_entities W)
  entities_named =
      pass_append IsOfEntity (all_entity_references (common_types W)) (all_entity_references (uses W) ++ (entity_parents (entity_types W) ++ applications (actions W))) (of_types (common_types W) commons_have)
      (pass_append IsOfEntity (all_entity_references (uses W)) (entity_parents (entity_types W) ++ applications (actions W)) (of_types (uses W) uses_have)
      (pass_append IsOfEntity (entity_parents (entity_types W)) (applications (actions W)) of_parents of_applications))

-- where the names that the caller declares are free, all declared names are
pub all_free : (W : World) → DeclareFree (own W) → DeclareFree (names W)
all_free W free = record {
  entity_types = pass_flat IsFree (λ (ns : Namespace). keys_of ns.entity_types) (all_namespaces W)
      (pass_append (λ (ns : Namespace). AllPass IsFree (keys_of ns.entity_types)) W.namespaces _ (pass_each IsFree (λ ns. keys_of ns.entity_types) W.namespaces free.entity_types) (tt, (tt, tt)));
  actions = pass_flat (λ (uid : Uid). IsFree uid.ty) (λ (ns : Namespace). keys_of ns.actions) (all_namespaces W)
      (pass_append (λ (ns : Namespace). AllPass (λ (uid : Uid). IsFree uid.ty) (keys_of ns.actions)) W.namespaces _ (pass_each (λ (uid : Uid). IsFree uid.ty) (λ ns. keys_of ns.actions) W.namespaces free.actions) (tt, (tt, tt)));
}
