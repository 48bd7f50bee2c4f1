-- SPDX-License-Identifier: Apache-2.0
-- The world of a fragment is that of the fragment without its places.
use Rattle.std.proofs.Common.{◌≡◌, List, [], ◌∷◌, map, Option, Some, None, refl, sym, ap, ap₂, ◌∙◌}
use Rattle.std.specs.Prelude.{unwrap_or}
use Rattle.std.specs.Option.{option_map}
use Rattle.cedar_data.specs.Sets as sets
use Rattle.cedar_schema_error.specs.FullNames.{FullName}
use Rattle.cedar_tree.specs.Trees.{Text}
use Rattle.cedar_unfold.specs.Written.{Written, WrittenAttributes}
use Rattle.cedar_written.specs.declared.reference_type.ReferenceType.TheVariants as kind
use Rattle.cedar_world.specs.Definitions.{Standard}
use Rattle.cedar_convert_fragment.specs.Fragments.{ActionAt, ActionContent, AppliesTo, ByName, EntityContent, Fields, Form, Fragment, NameAt, TypeAt, written, common_type, string, long, boolean, set_of, record_of, entity, entity_or_common, extension, no_fields, field, Shaped, Listed}
use Rattle.cedar_fragment_world.specs.FragmentWorlds.{action_at, action_of, action_reference, action_reference_cmp, actions_of, common_at, context_of, entity_at, entity_of, entity_types_of, fields_of, form_of, full_name, action_uid, namespaces_of, principals_of, reference, reference_cmp, resources_of, type_of, world_of_fragment}
use Rattle.cedar_reread.specs.Placeless.{action_placeless, applies_placeless, by_name_placeless, entity_placeless, fields_placeless, form_placeless, name_placeless, parent_placeless, placeless, type_placeless}

module _ (ns : Option FullName) where
  mutual
    type_placed : (t : TypeAt) → type_of ns (type_placeless t) ≡ type_of ns t
    type_placed (written form place) = form_placed form
    type_placed (common_type name place) = refl

    form_placed : (f : Form) → form_of ns (form_placeless f) ≡ form_of ns f
    form_placed string = refl
    form_placed long = refl
    form_placed boolean = refl
    form_placed (set_of element) = ap Written.Set (type_placed element)
    form_placed (record_of attributes others) = ap (λ fs. Written.Record fs others) (fields_placed attributes)
    form_placed (entity name) = refl
    form_placed (entity_or_common name) = refl
    form_placed (extension name) = refl

    fields_placed : (fs : Fields) → fields_of ns (fields_placeless fs) ≡ fields_of ns fs
    fields_placed no_fields = refl
    fields_placed (field name ty annotations required others) = λ i. WrittenAttributes.attribute name required (type_placed ty i) (fields_placed others i)

  names_placed : (names : List NameAt) → map (reference ns kind.Entity) (map name_placeless names) ≡ map (reference ns kind.Entity) names
  names_placed [] = refl
  names_placed (name ∷ names) = ap (λ l. reference ns kind.Entity name ∷ l) (names_placed names)

  types_placed : (names : List NameAt) → entity_types_of ns (map name_placeless names) ≡ entity_types_of ns names
  types_placed names = ap (sets.set_of reference_cmp) (names_placed names)

  tags_placed : (tags : Option TypeAt) → option_map (type_of ns) (option_map type_placeless tags) ≡ option_map (type_of ns) tags
  tags_placed None = refl
  tags_placed (Some ty) = ap Some (type_placed ty)

  entity_placed : (c : EntityContent) → entity_of ns (entity_placeless c) ≡ entity_of ns c
  entity_placed (Shaped parents shape tags) = λ i. Standard (types_placed parents i) (type_placed shape i) (tags_placed tags i)
  entity_placed (Listed ids) = refl

  parent_placed : (p : ActionAt) → action_reference ns (parent_placeless p) ≡ action_reference ns p
  parent_placed p = by p.ty
    where
      by : (ty : Option NameAt) → action_reference ns (parent_placeless (record { ty = ty; id = p.id })) ≡ action_reference ns (record { ty = ty; id = p.id })
      by None = refl
      by (Some name) = refl

  each_parent : (ps : List ActionAt) → map (action_reference ns) (map parent_placeless ps) ≡ map (action_reference ns) ps
  each_parent [] = refl
  each_parent (p ∷ ps) = ap₂ (λ a l. a ∷ l) (parent_placed p) (each_parent ps)

  parents_placed : (ps : Option (List ActionAt)) → actions_of ns (unwrap_or (option_map (map parent_placeless) ps) []) ≡ actions_of ns (unwrap_or ps [])
  parents_placed None = refl
  parents_placed (Some ps) = ap (sets.set_of action_reference_cmp) (each_parent ps)

  principals_placed : (a : Option AppliesTo) → entity_types_of ns (principals_of (option_map applies_placeless a)) ≡ entity_types_of ns (principals_of a)
  principals_placed None = refl
  principals_placed (Some a) = types_placed a.principals

  resources_placed : (a : Option AppliesTo) → entity_types_of ns (resources_of (option_map applies_placeless a)) ≡ entity_types_of ns (resources_of a)
  resources_placed None = refl
  resources_placed (Some a) = types_placed a.resources

  context_placed : (a : Option AppliesTo) → context_of ns (option_map applies_placeless a) ≡ context_of ns a
  context_placed None = refl
  context_placed (Some a) = type_placed a.context

  action_placed : (a : ActionContent) → action_of ns (action_placeless a) ≡ action_of ns a
  action_placed a = λ i. record {
    parents = parents_placed a.member_of i;
    principals = principals_placed a.applies_to i;
    resources = resources_placed a.applies_to i;
    context = context_placed a.applies_to i;
    attribute_types = (action_of ns a).attribute_types;
    attributes = (action_of ns a).attributes;
  }

  commons_placed : (es : ByName TypeAt) → map (common_at ns) (by_name_placeless type_placeless es) ≡ map (common_at ns) es
  commons_placed [] = refl
  commons_placed (e ∷ es) = λ i. (full_name ns e.0, type_placed e.1.content i) ∷ commons_placed es i

  entities_placed : (es : ByName EntityContent) → map (entity_at ns) (by_name_placeless entity_placeless es) ≡ map (entity_at ns) es
  entities_placed [] = refl
  entities_placed (e ∷ es) = λ i. (full_name ns e.0, entity_placed e.1.content i) ∷ entities_placed es i

  actions_placed : (es : ByName ActionContent) → map (action_at ns) (by_name_placeless action_placeless es) ≡ map (action_at ns) es
  actions_placed [] = refl
  actions_placed (e ∷ es) = λ i. (action_uid ns e.0, action_placed e.1.content i) ∷ actions_placed es i

namespaces_placed : (F : Fragment) → namespaces_of (placeless F) ≡ namespaces_of F
namespaces_placed [] = refl
namespaces_placed (n ∷ F) = λ i. record {
  common_types = commons_placed n.0 n.1.common_types i;
  entity_types = entities_placed n.0 n.1.entity_types i;
  actions = actions_placed n.0 n.1.actions i;
} ∷ namespaces_placed F i

-- so fragments that are the same without places have the same world
pub same_world : (F G : Fragment) (extensions : List Text) → placeless F ≡ placeless G → world_of_fragment F extensions ≡ world_of_fragment G extensions
same_world F G extensions same = ap (λ all. record { namespaces = all; extensions = extensions }) (sym (namespaces_placed F) ∙ ap namespaces_of same ∙ namespaces_placed G)
