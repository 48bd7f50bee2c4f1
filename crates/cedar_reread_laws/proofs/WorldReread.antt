-- SPDX-License-Identifier: Apache-2.0
-- The world of a fragment that is read again is that of the fragment, its types written a little differently.
use Rattle.std.proofs.Common.{◌≡◌, ◌++◌, Bool, true, false, not, List, [], ◌∷◌, codes, map, Option, Some, None, refl, sym, ap, ap₂, subst}
use Rattle.std.proofs.lemmas.Bool.{and_parts}
use Rattle.std.specs.Prelude.{IfSome, unwrap_or}
use Rattle.std.specs.List.{AllByRecursion, AllZip, list_all}
use Rattle.std.specs.Option.{option_map}
use Rattle.std.proofs.lemmas.List.{map-append}
use Rattle.cedar_data.specs.Sets as sets
use Rattle.cedar_names.specs.Components.{has_cedar}
use Rattle.cedar_text.specs.Words.{is_cedar, is_id, is_unreserved_id}
use Rattle.cedar_schema_error.specs.FullNames.{FullName}
use Rattle.cedar_tree.specs.Trees.{ByKey, Text, Place}
use Rattle.cedar_unfold.specs.Written.{Boolean, Long, String, Extension, EntityOrCommon}
use Rattle.cedar_written.specs.declared.reference_type.ReferenceType.{ReferenceType}
use Rattle.cedar_written.specs.declared.reference_type.ReferenceType.TheVariants as kind
use Rattle.cedar_world.specs.Definitions.{Namespace}
use Rattle.cedar_convert_fragment.specs.Fragments.{ActionAt, ActionContent, AppliesTo, ByName, Declared, Definition, EntityContent, Fields, Form, Fragment, NameAt, TypeAt, written, common_type, string, long, boolean, set_of, record_of, entity, entity_or_common, extension, no_fields, field, Shaped, Listed}
use Rattle.cedar_fragment_world.specs.FragmentWorlds.{action_at, action_of, action_reference, action_reference_cmp, actions_of, common_at, context_of, entity_at, entity_of, entity_types_of, fields_of, form_of, namespace_of, namespaces_of, possibilities, principals_of, reference, resources_of, type_of}
use Rattle.cedar_reread.specs.Rereading.{action_reread, applies_reread, builtin, by_name_reread, definition_reread, entity_reread, fields_reread, form_reread, namespace_reread, parent_reread, parents_reread, reread, shape_form_reread, shape_reread, type_reread, under_reread}
use Rattle.cedar_reread_declares.specs.Rereadable.{RereadableEntity, RereadableName, RereadableShape, RereadableShapeForm}
use Rattle.cedar_reread_world.specs.Rewritten.{ActionRewritten, ArePossibilities, AttributesRewritten, EntityRewritten, NamespaceRewritten, NamespacesRewritten, ReadAs, SameKey, ShapeRewritten, TagsRewritten, TypeRewritten, builtin_reference, one_name, two_names}

-- ---- references

no_cedar : (w : Text) → is_unreserved_id w ≡ true → is_cedar w ≡ false
no_cedar w e = by (is_cedar w) (and_parts (is_id w) (not (is_cedar w)) e).1
  where
    by : (t : Bool) → not t ≡ true → t ≡ false
    by true e = cc
    by false e = refl

pub no_cedar_in : (ws : List Text) → list_all is_unreserved_id ws ≡ true → has_cedar ws ≡ false
no_cedar_in [] e = refl
no_cedar_in (w ∷ ws) e =
    let parts = and_parts (is_unreserved_id w) (list_all is_unreserved_id ws) e in
    rw (no_cedar w parts.0, no_cedar_in ws parts.1) refl

possible : (ns : Option FullName) → RereadableName ns → (words : FullName) → ArePossibilities (possibilities ns words)
possible None named words = one_name
possible (Some []) named words = absurd named
possible (Some (w ∷ ws)) named [] = one_name
possible (Some (w ∷ ws)) named (word ∷ []) = two_names w ws word (no_cedar_in (w ∷ ws) named)
possible (Some (w ∷ ws)) named (word ∷ other ∷ words) = one_name

module _ (ns : Option FullName) (named : RereadableName ns) where
  read_as : (old new : ReferenceType) (name : NameAt) → ReadAs old new (reference ns old name) (reference ns new name)
  read_as old new name = record { old_kind = refl; new_kind = refl; same_names = refl; names_are = possible ns named name.words }

  builtin_is : (w : Text) → EntityOrCommon (builtin_reference w) ≡ form_of ns (builtin w)
  builtin_is w = by ns
    where
      by : (ns : Option FullName) → EntityOrCommon (builtin_reference w) ≡ form_of ns (builtin w)
      by None = refl
      by (Some ns) = refl

  -- ---- types

  mutual
    type_rewritten : (t : TypeAt) → TypeRewritten (type_of ns t) (type_of ns (type_reread t))
    type_rewritten (written form place) = form_rewritten form
    type_rewritten (common_type name place) = TypeRewritten.common (read_as kind.Common kind.CommonOrEntity name)

    form_rewritten : (f : Form) → TypeRewritten (form_of ns f) (form_of ns (form_reread f))
    form_rewritten string = subst (TypeRewritten String) (builtin_is (codes "String")) TypeRewritten.string
    form_rewritten long = subst (TypeRewritten Long) (builtin_is (codes "Long")) TypeRewritten.long
    form_rewritten boolean = subst (TypeRewritten Boolean) (builtin_is (codes "Bool")) TypeRewritten.boolean
    form_rewritten (set_of element) = TypeRewritten.set (type_rewritten element)
    form_rewritten (record_of attributes others) = TypeRewritten.record_of (fields_rewritten attributes)
    form_rewritten (entity name) = TypeRewritten.entity (read_as kind.Entity kind.CommonOrEntity name)
    form_rewritten (entity_or_common name) = TypeRewritten.either (read_as kind.CommonOrEntity kind.CommonOrEntity name)
    form_rewritten (extension name) = subst (TypeRewritten (Extension name)) (builtin_is name) TypeRewritten.extension

    fields_rewritten : (fs : Fields) → AttributesRewritten (fields_of ns fs) (fields_of ns (fields_reread fs))
    fields_rewritten no_fields = AttributesRewritten.none
    fields_rewritten (field name ty annotations required others) = AttributesRewritten.each (type_rewritten ty) (fields_rewritten others)

  shape_form_rewritten : (f : Form) (place : Option Place) → RereadableShapeForm f → ShapeRewritten (form_of ns f) (type_of ns (shape_form_reread f place))
  shape_form_rewritten (record_of attributes others) place is = ShapeRewritten.record_of (fields_rewritten attributes)
  shape_form_rewritten (entity_or_common name) place is = ShapeRewritten.either (read_as kind.CommonOrEntity kind.Common name)
  shape_form_rewritten string place is = absurd is
  shape_form_rewritten long place is = absurd is
  shape_form_rewritten boolean place is = absurd is
  shape_form_rewritten (set_of element) place is = absurd is
  shape_form_rewritten (entity name) place is = absurd is
  shape_form_rewritten (extension name) place is = absurd is

  shape_rewritten : (shape : TypeAt) → RereadableShape shape → ShapeRewritten (type_of ns shape) (type_of ns (shape_reread shape))
  shape_rewritten (written form place) is = shape_form_rewritten form place is
  shape_rewritten (common_type name place) is = ShapeRewritten.common (read_as kind.Common kind.Common name)

  tags_rewritten : (tags : Option TypeAt) → TagsRewritten (option_map (type_of ns) tags) (option_map (type_of ns) (option_map type_reread tags))
  tags_rewritten None = TagsRewritten.no_tags
  tags_rewritten (Some ty) = TagsRewritten.tags (type_rewritten ty)

  entity_rewritten : (content : EntityContent) → RereadableEntity content → EntityRewritten (entity_of ns content) (entity_of ns (entity_reread content))
  entity_rewritten (Shaped parents shape tags) is = EntityRewritten.standard (shape_rewritten shape is.0) (tags_rewritten tags)
  entity_rewritten (Listed ids) is = EntityRewritten.enumerated

  -- ---- actions

  parent_same : (parent : ActionAt) → action_reference ns (parent_reread parent) ≡ action_reference ns parent
  parent_same parent = by parent.ty
    where
      by : (ty : Option NameAt) → action_reference ns (parent_reread (record { ty = ty; id = parent.id })) ≡ action_reference ns (record { ty = ty; id = parent.id })
      by None = refl
      by (Some name) = refl

  each_parent : (parents : List ActionAt) → map (action_reference ns) (map parent_reread parents) ≡ map (action_reference ns) parents
  each_parent [] = refl
  each_parent (parent ∷ parents) = ap₂ (λ a l. a ∷ l) (parent_same parent) (each_parent parents)

  -- the references to parents stay, and none is no list
  parents_same : (parents : Option (List ActionAt)) → actions_of ns (unwrap_or (parents_reread parents) []) ≡ actions_of ns (unwrap_or parents [])
  parents_same None = refl
  parents_same (Some []) = refl
  parents_same (Some (parent ∷ parents)) = ap (sets.set_of action_reference_cmp) (each_parent (parent ∷ parents))

  -- principals and resources stay
  principals_same : (a : Option AppliesTo) → principals_of (Some (applies_reread a)) ≡ principals_of a
  principals_same None = refl
  principals_same (Some a) = refl

  resources_same : (a : Option AppliesTo) → resources_of (Some (applies_reread a)) ≡ resources_of a
  resources_same None = refl
  resources_same (Some a) = refl

  context_rewritten : (a : Option AppliesTo) → IfSome a (λ applies. RereadableShape applies.context) → ShapeRewritten (context_of ns a) (context_of ns (Some (applies_reread a)))
  context_rewritten None is = ShapeRewritten.record_of AttributesRewritten.none
  context_rewritten (Some a) is = shape_rewritten a.context is

  action_rewritten : (a : ActionContent) → IfSome a.applies_to (λ applies. RereadableShape applies.context) → ActionRewritten (action_of ns a) (action_of ns (action_reread a))
  action_rewritten a is = record {
    parents = parents_same a.member_of;
    principals = ap (entity_types_of ns) (principals_same a.applies_to);
    resources = ap (entity_types_of ns) (resources_same a.applies_to);
    context = context_rewritten a.applies_to is;
    attribute_types = refl;
    attributes = refl;
  }

  -- ---- by name

  commons_rewritten : (es : ByName TypeAt) → AllZip (SameKey TypeRewritten) (map (common_at ns) es) (map (common_at ns) (by_name_reread type_reread es))
  commons_rewritten [] = tt
  commons_rewritten (e ∷ es) = (record { key = refl; value = type_rewritten e.1.content }, commons_rewritten es)

  entities_rewritten : (es : ByName EntityContent) → AllByRecursion {X = Text × Declared EntityContent} (λ e. RereadableEntity e.1.content) es
      → AllZip (SameKey EntityRewritten) (map (entity_at ns) es) (map (entity_at ns) (by_name_reread entity_reread es))
  entities_rewritten [] is = tt
  entities_rewritten (e ∷ es) is = (record { key = refl; value = entity_rewritten e.1.content is.0 }, entities_rewritten es is.1)

  actions_rewritten : (es : ByName ActionContent) → AllByRecursion {X = Text × Declared ActionContent} (λ e. IfSome e.1.content.applies_to (λ applies. RereadableShape applies.context)) es
      → AllZip (SameKey ActionRewritten) (map (action_at ns) es) (map (action_at ns) (by_name_reread action_reread es))
  actions_rewritten [] is = tt
  actions_rewritten (e ∷ es) is = (record { key = refl; value = action_rewritten e.1.content is.0 }, actions_rewritten es is.1)

-- ---- namespaces

-- each whole shape and context is a record or a name
abbrev pub HasShapes : Definition → Type 0
HasShapes d =
    AllByRecursion (λ e. RereadableEntity e.1.content) d.entity_types × AllByRecursion (λ e. IfSome e.1.content.applies_to (λ applies. RereadableShape applies.context)) d.actions

abbrev pub IsReread : Option (List Text) × Definition → Type 0
IsReread n = RereadableName n.0 × HasShapes n.1

definition_rewritten : (ns : Option FullName) (d : Definition) (annotations : ByKey) → RereadableName ns → HasShapes d
    → NamespaceRewritten (namespace_of (ns, d)) (namespace_of (ns, definition_reread d annotations))
definition_rewritten ns d annotations named is = record {
  common_types = commons_rewritten ns named d.common_types;
  entity_types = entities_rewritten ns named d.entity_types is.0;
  actions = actions_rewritten ns named d.actions is.1;
}

unnamed_rewritten : (commons : ByName TypeAt) (entities : ByName EntityContent) (actions : ByName ActionContent) (annotations : ByKey) (F G : List Namespace)
    → HasShapes (record { common_types = commons; entity_types = entities; actions = actions; annotations = annotations }) → NamespacesRewritten F G
    → NamespacesRewritten (namespace_of (None, record { common_types = commons; entity_types = entities; actions = actions; annotations = annotations }) ∷ F)
    (namespaces_of (under_reread None (record { common_types = commons; entity_types = entities; actions = actions; annotations = annotations })) ++ G)
unnamed_rewritten [] [] [] annotations F G is others = NamespacesRewritten.left_out (record { common_types = refl; entity_types = refl; actions = refl }) others
unnamed_rewritten (c ∷ commons) entities actions annotations F G is others = NamespacesRewritten.one_more (definition_rewritten None (record { common_types = c ∷ commons; entity_types = entities; actions = actions; annotations = annotations }) [] tt is) others
unnamed_rewritten [] (e ∷ entities) actions annotations F G is others = NamespacesRewritten.one_more (definition_rewritten None (record { common_types = []; entity_types = e ∷ entities; actions = actions; annotations = annotations }) [] tt is) others
unnamed_rewritten [] [] (a ∷ actions) annotations F G is others = NamespacesRewritten.one_more (definition_rewritten None (record { common_types = []; entity_types = []; actions = a ∷ actions; annotations = annotations }) [] tt is) others

namespace_rewritten : (n : Option (List Text) × Definition) (F G : List Namespace) → IsReread n → NamespacesRewritten F G → NamespacesRewritten (namespace_of n ∷ F) (namespaces_of (namespace_reread n) ++ G)
namespace_rewritten (None, d) F G is others = unnamed_rewritten d.common_types d.entity_types d.actions d.annotations F G is.1 others
namespace_rewritten (Some words, d) F G is others = NamespacesRewritten.one_more (definition_rewritten (Some words) d d.annotations is.0 is.1) others

pub world_rewritten : (F : Fragment) → AllByRecursion IsReread F → NamespacesRewritten (namespaces_of F) (namespaces_of (reread F))
world_rewritten [] is = NamespacesRewritten.no_more
world_rewritten (n ∷ F) is =
    subst (NamespacesRewritten (namespaces_of (n ∷ F))) (sym (map-append namespace_of (namespace_reread n) (reread F)))
    (namespace_rewritten n (namespaces_of F) (namespaces_of (reread F)) is.0 (world_rewritten F is.1))
