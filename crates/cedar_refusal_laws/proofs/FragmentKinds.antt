-- SPDX-License-Identifier: Apache-2.0
-- In what a fragment declares each reference has the kind of its place; and where no name is `__cedar`, no cause is one of wrong kinds.
use Rattle.std.proofs.Common.{◌≡◌, ◌||◌, ℕ, false, List, [], ◌∷◌, Option, Some, None, codes, map, inl, inr, if◌then◌else◌, refl, sym, ap, ◌∙◌, subst}
use Rattle.std.proofs.lemmas.List.Folds.{list_any-append}
use Rattle.std.specs.Map.{keys_of}
use Rattle.std.specs.declared.result.Result.TheVariants.{Ok, Err}
use Rattle.std.specs.declared.result.Result.{Result}
use Rattle.cedar_action_values.specs.ActionValues.{typed_attributes}
use Rattle.cedar_action_values.specs.declared.value_fault.ValueFault.{ValueFault}
use Rattle.cedar_action_values.specs.declared.value_fault.ValueFault.TheVariants as fault
use Rattle.cedar_data.specs.Firsts.{AllPass}
use Rattle.cedar_names.specs.of_text.Words.{is_cedar}
use Rattle.cedar_written.specs.declared.reference_type.ReferenceType.TheVariants as kind
use Rattle.cedar_schema_error.specs.declared.action_behavior.ActionBehavior.{ActionBehavior}
use Rattle.cedar_schema_error.specs.declared.action_behavior.ActionBehavior.TheVariants.{PermitAttributes, ProhibitAttributes}
use Rattle.cedar_fragment_world.specs.of_convert_fragment.Fragments.{ActionContent, AppliesTo, Definition, EntityContent, Fields, Form, Fragment, NameAt, TypeAt, written, common_type, string, long, boolean, set_of, record_of, entity, entity_or_common, extension, no_fields, field, Shaped, Listed}
use Rattle.cedar_fragment_world.specs.FragmentFaults.{definition_faults, fragment_faults, is_reserved, reserved_in, with_attributes}
use Rattle.cedar_fragment_world.specs.FragmentWorlds.{action_at, action_of, action_uid, common_at, context_of, entity_at, entity_of, entity_types_of, fields_of, form_of, full_name, namespace_of, namespaces_of, principals_of, reference, reference_cmp, resources_of, type_of, world_of_fragment}
use Rattle.cedar_fragment_world.specs.of_namespace_definitions.Faults.{attribute_faults, prohibited, refusal_of, value_refusal}
use Rattle.cedar_sound.proofs.NothingMissed.{pass_flat, pass_map, pass_weaker}
use Rattle.cedar_schema_error.specs.FullNames.{FullName, Uid}
use Rattle.cedar_schema_error.specs.NameReferences.{NameReference}
use Rattle.cedar_schema_error.specs.Refusals.{Refusal, ReservedName}
use Rattle.cedar_world.specs.Definitions.{Namespace}
use Rattle.cedar_world.specs.Worlds.{own}
use Rattle.cedar_schema.specs.Fragments.{FragmentCause}
use Rattle.cedar_refusal_laws.specs.Kinds.{ActionHasKinds, AreOf, DeclareFree, EntityHasKinds, HasItsKinds, HaveTheirKinds, IsFree, NamespaceHasKinds}
use Rattle.cedar_refusal_laws.specs.NeverComing.{never_comes}
use Rattle.cedar_refusal_laws.proofs.DefinitionFaults.{definition_fails}
use Rattle.cedar_refusal_laws.proofs.Faultless.{IsOther}
use Rattle.cedar_refusal_laws.proofs.KindsKept.{HaveTheirs}
use Rattle.cedar_refusal_laws.proofs.RuledOut.{ruled_out}
use Rattle.cedar_refusal_laws.proofs.Members.{of_first, pass_each_item, pass_set_of}

-- ---- kinds

module _ (ns : Option FullName) where
  mutual
    pub type_kinds : (t : TypeAt) → HasItsKinds (type_of ns t)
    type_kinds (written form place) = form_kinds form
    type_kinds (common_type name place) = refl

    form_kinds : (f : Form) → HasItsKinds (form_of ns f)
    form_kinds string = tt
    form_kinds long = tt
    form_kinds boolean = tt
    form_kinds (set_of element) = type_kinds element
    form_kinds (record_of parts is_open) = (tt, fields_kinds parts)
    form_kinds (entity name) = refl
    form_kinds (entity_or_common name) = refl
    form_kinds (extension word) = tt

    fields_kinds : (fs : Fields) → HaveTheirs (fields_of ns fs)
    fields_kinds no_fields = tt
    fields_kinds (field name ty annotations required others) = (type_kinds ty, fields_kinds others)

  names_kinds : (names : List NameAt) → AreOf kind.Entity (entity_types_of ns names)
  names_kinds names = pass_set_of reference_cmp (λ r. r.kind ≡ kind.Entity) (map (reference ns kind.Entity) names)
      (pass_map (λ (r : NameReference). r.kind ≡ kind.Entity) (reference ns kind.Entity) names (pass_each_item (λ name. (reference ns kind.Entity name).kind ≡ kind.Entity) (λ name. refl) names))

  pub entity_kinds : (c : EntityContent) → EntityHasKinds (entity_of ns c)
  entity_kinds (Shaped parents shape None) = record { parents = names_kinds parents; shape = (type_kinds shape, tt); tags = tt }
  entity_kinds (Shaped parents shape (Some tags)) = record { parents = names_kinds parents; shape = (type_kinds shape, tt); tags = (type_kinds tags, tt) }
  entity_kinds (Listed ids) = record { parents = tt; shape = tt; tags = tt }

  context_kinds : (a : Option AppliesTo) → HasItsKinds (context_of ns a)
  context_kinds None = (tt, tt)
  context_kinds (Some a) = type_kinds a.context

  pub action_kinds : (a : ActionContent) → ActionHasKinds (action_of ns a)
  action_kinds a = record { principals = names_kinds (principals_of a.applies_to); resources = names_kinds (resources_of a.applies_to); context = context_kinds a.applies_to }

pub namespace_kinds : (n : Option FullName × Definition) → NamespaceHasKinds (namespace_of n)
namespace_kinds n = record {
  common_types = pass_map (λ c. HasItsKinds c.1) (common_at n.0) n.1.common_types (pass_each_item (λ c. HasItsKinds (common_at n.0 c).1) (λ c. type_kinds n.0 c.1.content) n.1.common_types);
  entity_types = pass_map (λ e. EntityHasKinds e.1) (entity_at n.0) n.1.entity_types (pass_each_item (λ e. EntityHasKinds (entity_at n.0 e).1) (λ e. entity_kinds n.0 e.1.content) n.1.entity_types);
  actions = pass_map (λ a. ActionHasKinds a.1) (action_at n.0) n.1.actions (pass_each_item (λ a. ActionHasKinds (action_at n.0 a).1) (λ a. action_kinds n.0 a.1.content) n.1.actions);
}

pub fragment_kinds : (F : Fragment) → HaveTheirKinds (namespaces_of F)
fragment_kinds F = pass_map NamespaceHasKinds namespace_of F (pass_each_item (λ n. NamespaceHasKinds (namespace_of n)) namespace_kinds F)

-- ---- names without `__cedar`

-- the name of the namespace has no `__cedar`, and none of its entity types is named so
pub record IsFreeNamespace (n : Option FullName × Definition) : Type 0 where
  pub name : is_reserved n.0 ≡ false
  pub entity_types : AllPass (λ e. is_cedar e.0 ≡ false) n.1.entity_types

full_name_free : (ns : Option FullName) (word : List ℕ) → is_reserved ns ≡ false → is_cedar word ≡ false → IsFree (full_name ns word)
full_name_free None word free is = ap (λ b. b || false) is
full_name_free (Some ns) word free is = list_any-append is_cedar ns (word ∷ []) ∙ ap (λ b. b || (is_cedar word || false)) free ∙ ap (λ b. b || false) is

module _ (n : Option FullName × Definition) (free : IsFreeNamespace n) where
  types_free : AllPass IsFree (keys_of (namespace_of n).entity_types)
  types_free = pass_map IsFree (λ e. e.0) (namespace_of n).entity_types (pass_map (λ e. IsFree e.0) (entity_at n.0) n.1.entity_types
      (pass_weaker (λ e. is_cedar e.0 ≡ false) (λ e. IsFree (entity_at n.0 e).0) (λ e is. full_name_free n.0 e.0 free.name is) n.1.entity_types free.entity_types))

  actions_free : AllPass (λ (uid : Uid). IsFree uid.ty) (keys_of (namespace_of n).actions)
  actions_free = pass_map (λ (uid : Uid). IsFree uid.ty) (λ a. a.0) (namespace_of n).actions (pass_map (λ a. IsFree a.0.ty) (action_at n.0) n.1.actions
      (pass_each_item (λ a. IsFree (action_at n.0 a).0.ty) (λ a. full_name_free n.0 (codes "Action") free.name refl) n.1.actions))

  reserved_none : (name : FullName) → AllPass IsOther (reserved_in n.0 name)
  reserved_none name = subst (λ b. AllPass IsOther (if b then ReservedName name ∷ [] else [])) (sym free.name) tt

pub declared_free : (F : Fragment) (extensions : List (List ℕ)) → AllPass IsFreeNamespace F → DeclareFree (own (world_of_fragment F extensions))
declared_free F extensions free = record {
  entity_types = pass_flat IsFree (λ (ns : Namespace). keys_of ns.entity_types) (namespaces_of F) (pass_map (λ ns. AllPass IsFree (keys_of ns.entity_types)) namespace_of F
      (pass_weaker IsFreeNamespace (λ n. AllPass IsFree (keys_of (namespace_of n).entity_types)) types_free F free));
  actions = pass_flat (λ (uid : Uid). IsFree uid.ty) (λ (ns : Namespace). keys_of ns.actions) (namespaces_of F) (pass_map (λ ns. AllPass (λ (uid : Uid). IsFree uid.ty) (keys_of ns.actions)) namespace_of F
      (pass_weaker IsFreeNamespace (λ n. AllPass (λ (uid : Uid). IsFree uid.ty) (keys_of (namespace_of n).actions)) actions_free F free));
}

-- ---- faults of definitions

value_other : (uid : Uid) (f : ValueFault) → IsOther (value_refusal uid f)
value_other uid fault.EmptySet = refl
value_other uid fault.Null = refl
value_other uid fault.EntityEscape = refl
value_other uid fault.ExprEscape = refl
value_other uid fault.ExtnEscape = refl

typed_other : {T : Type 0} (uid : Uid) (r : Result T ValueFault) → AllPass IsOther (refusal_of uid r)
typed_other uid (Ok types) = tt
typed_other uid (Err f) = (value_other uid f, tt)

attributes_other : (uid : Uid) (a : ActionContent) → AllPass IsOther (attribute_faults uid a.attributes)
attributes_other uid a = elim a.attributes as (λ values. AllPass IsOther (attribute_faults uid values)) [ None ↦ tt | Some values ↦ typed_other uid (typed_attributes values) ]

prohibited_other : (behavior : ActionBehavior) (ids : List (List ℕ)) → AllPass IsOther (prohibited behavior ids)
prohibited_other PermitAttributes ids = tt
prohibited_other ProhibitAttributes [] = tt
prohibited_other ProhibitAttributes (id ∷ ids) = (refl, tt)

module _ (behavior : ActionBehavior) where
  definition_other : (n : Option FullName × Definition) → IsFreeNamespace n → AllPass IsOther (definition_faults behavior n)
  definition_other n free = definition_fails never_comes behavior n (record {
    of_types = refl;
    of_names = reserved_none n free;
    of_actions = prohibited_other behavior (with_attributes n.1.actions);
    of_attributes = pass_each_item (λ a. AllPass IsOther (attribute_faults (action_uid n.0 a.0) a.1.content.attributes)) (λ a. attributes_other (action_uid n.0 a.0) a.1.content) n.1.actions;
  })

  -- no cause of a fragment of such namespaces is one of wrong kinds
  pub fragment_other : (extensions : List (List ℕ)) (F : Fragment) (e : Refusal) → AllPass IsFreeNamespace F → FragmentCause behavior extensions F e → never_comes e ≡ false
  fragment_other extensions F e free cause = elim cause [
    | inl first ↦ of_first IsOther (fragment_faults behavior F) e (pass_flat IsOther (definition_faults behavior) F (pass_weaker IsFreeNamespace (λ n. AllPass IsOther (definition_faults behavior n)) definition_other F free)) first
    | inr later ↦ ruled_out (world_of_fragment F extensions) (fragment_kinds F) (declared_free F extensions free) e later.1
  ]
