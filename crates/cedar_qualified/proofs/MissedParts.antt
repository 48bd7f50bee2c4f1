-- SPDX-License-Identifier: Apache-2.0
-- What declarations miss among names, as their definitions miss it among names that agree with those.
use Rattle.std.proofs.Common.{◌≡◌, ◌++◌, ◌||◌, Bool, true, false, IsTrue, List, [], ◌∷◌, Option, Some, None, cond, is_none, is_some, map, option_map, option_to_list, append-nil, refl, sym, ap, ◌∙◌}
use Rattle.std.proofs.lemmas.List.{map-append}
use Rattle.std.proofs.lemmas.List.Elements.{filter-append, filter_map-append}
use Rattle.std.specs.List.{cons_option, filter, filter_map, find, flat_map}
use Rattle.std.specs.Option.{option_map_or}
use Rattle.cedar_missing.proofs.of_declared.FoundTargets.{action_found, type_found}
use Rattle.cedar_missing.specs.of_declared.Names.{Names, action_target, is_declared, target, targets, undefined, undefined_actions}
use Rattle.cedar_missing.specs.of_declared.Targets.{action_at, found, found_action, parent_type}
use Rattle.cedar_missing.specs.of_definitions.declared.structures.ActionFragment.{ActionFragment}
use Rattle.cedar_missing.specs.of_definitions.declared.structures.EntityTypeFragment.{EntityTypeFragment}
use Rattle.cedar_missing.specs.of_definitions.declared.structures.EntityTypeFragment.TheVariants.{Standard, Enum}
use Rattle.cedar_fragment.specs.ActionUids.{over_conditional, type_in}
use Rattle.cedar_missing.specs.Undeclared.{Parent, found_parent, is_undefined, missing_by, missing_in_name, missing_in_parent, missing_in_type, missing_parts, name_at, no_action, no_type, reserved_alone}
use Rattle.cedar_missing.specs.Undeclared as code
use Rattle.cedar_names.specs.Components.{components, has_cedar}
use Rattle.cedar_names.specs.declared.internal_name.InternalName.{InternalName}
use Rattle.cedar_schema_error.specs.FullNames.{FullName, Uid}
use Rattle.cedar_schema_error.specs.NameReferences.{ActionReference, NameReference, action_reference_of, no_reference, reference_of}
use Rattle.cedar_world.specs.of_unfold.Written.{Written}
use Rattle.cedar_world.specs.DefinitionViews.{action_of, kind_in}
use Rattle.cedar_world.specs.DefinitionViews as views
use Rattle.cedar_world.specs.Definitions.{tags_of}
use Rattle.cedar_world.specs.Definitions as definitions
use Rattle.cedar_world.specs.Missing.{first_alone, missing_in, parent_types}
use Rattle.cedar_world.specs.Missing as world
use Rattle.cedar_written.specs.References.{references}
use Rattle.cedar_written.specs.declared.conditional_name.ConditionalName.{ConditionalName}
use Rattle.cedar_written.specs.declared.reference_type.ReferenceType.{ReferenceType}
use Rattle.cedar_written.specs.declared.reference_type.ReferenceType.TheVariants.{Common, Entity, CommonOrEntity}
use Rattle.cedar_written.specs.declared.ty.SchemaType.{SchemaType}
use Rattle.cedar_qualified.specs.Agreeing.{AgreeingNames}
use Rattle.cedar_qualified.proofs.Seen.{all_seen, found_first, nothing_given, one_by_one, or_else_seen}
use Rattle.cedar_qualified.proofs.SeenReferences.{references_seen}

none_seen : {A B : Type 0} (f : A → B) (o : Option A) → is_none o ≡ is_none (option_map f o)
none_seen f None = refl
none_seen f (Some x) = refl

alone_seen : {A B : Type 0} (f : A → B) (x : A) (b : Bool) → map f (cond b (x ∷ []) []) ≡ cond b (f x ∷ []) []
alone_seen f x true = refl
alone_seen f x false = refl

module _ (a b : Names) (agree : AgreeingNames a b) where
  declared_alike : (kind : ReferenceType) (name : FullName) → is_declared a kind name ≡ is_declared b kind name
  declared_alike Common name = agree.common name
  declared_alike Entity name = agree.entity name
  declared_alike CommonOrEntity name = λ i. agree.common name i || agree.entity name i

  target_alike : (r : NameReference) → target a r ≡ target b r
  target_alike r = λ i. find (λ name. declared_alike r.kind name i) r.possibilities

  action_alike : (r : ActionReference) → action_target a r ≡ action_target b r
  action_alike r = λ i. find (λ uid. agree.action uid i) (map (λ (name : FullName). record { ty = name; id = r.id }) r.ty.possibilities)

  -- the target of a reference
  meant : (n : ConditionalName) → option_map components (found a n) ≡ target b (reference_of n)
  meant n = sym (type_found a n) ∙ target_alike (reference_of n)

  undefined_is : (n : ConditionalName) → is_undefined a n ≡ is_none (target b (reference_of n))
  undefined_is n = none_seen components (found a n) ∙ ap is_none (meant n)

  -- the target of the parent of an action
  parent_meant : (p : Parent) → option_map (action_at p.id) (found_parent a p) ≡ action_target b (action_reference_of p)
  parent_meant p = sym (by (type_in p) p.typed) ∙ action_alike (action_reference_of p)
    where
      by : (ty : Option ConditionalName) → IsTrue (false || is_some ty)
          → action_target a (record { ty = option_map_or reference_of ty no_reference; id = p.id }) ≡ option_map (action_at p.id) (found_action a p.id (parent_type ty))
      by None typed = let e : false ≡ true = typed in absurd (cc)
      by (Some n) typed = action_found a p.id n

  -- a type
  pub type_missed : (ty : SchemaType ConditionalName) → map reference_of (missing_in_type a ty) ≡ missing_in b (views.type_in ty)
  type_missed ty =
      found_first reference_of (is_undefined a) (λ r. is_none (target b r)) undefined_is (map name_at (references ty))
      ∙ ap (λ rs. first_alone (undefined b rs)) (sym (references_seen ty))

  -- a name, by what it means
  name_missed : (n : ConditionalName) → map reference_of (missing_in_name a n).types ≡ undefined b (reference_of n ∷ [])
  name_missed n = by (found a n) ∙ ap (λ t. cond (is_none t) (reference_of n ∷ []) []) (meant n)
    where
      by : (o : Option InternalName) → map reference_of (missing_by (no_type n) o).types ≡ cond (is_none (option_map components o)) (reference_of n ∷ []) []
      by None = refl
      by (Some m) = refl

  name_reserved : (n : ConditionalName) → map components (missing_in_name a n).reserved ≡ filter has_cedar (targets b (reference_of n ∷ []))
  name_reserved n = by (found a n) ∙ ap (λ t. filter has_cedar (cons_option t [])) (meant n)
    where
      by : (o : Option InternalName) → map components (missing_by (no_type n) o).reserved ≡ filter has_cedar (cons_option (option_map components o) [])
      by None = refl
      by (Some m) = alone_seen components m (has_cedar (components m))

  no_actions : (n : ConditionalName) → (missing_in_name a n).actions ≡ []
  no_actions n = by (found a n)
    where
      by : (o : Option InternalName) → (missing_by (no_type n) o).actions ≡ []
      by None = refl
      by (Some m) = refl

  -- names, one after another
  names_missed : (ns : List ConditionalName) → map reference_of (flat_map (λ n. (missing_in_name a n).types) ns) ≡ undefined b (map reference_of ns)
  names_missed = one_by_one reference_of reference_of (λ n. (missing_in_name a n).types) (undefined b) refl (λ r rs. filter-append (λ r. is_none (target b r)) (r ∷ []) rs) name_missed

  reserved_split : (r : NameReference) (rs : List NameReference) → filter has_cedar (targets b (r ∷ rs)) ≡ filter has_cedar (targets b (r ∷ [])) ++ filter has_cedar (targets b rs)
  reserved_split r rs = ap (filter has_cedar) (filter_map-append (target b) (r ∷ []) rs) ∙ filter-append has_cedar (targets b (r ∷ [])) (targets b rs)

  names_reserved : (ns : List ConditionalName) → map components (flat_map (λ n. (missing_in_name a n).reserved) ns) ≡ filter has_cedar (targets b (map reference_of ns))
  names_reserved = one_by_one components reference_of (λ n. (missing_in_name a n).reserved) (λ rs. filter has_cedar (targets b rs)) refl reserved_split name_reserved

  -- a parent of an action, by what it means
  parent_missed : (p : Parent) → map action_reference_of (missing_in_parent a p).actions ≡ undefined_actions b (action_reference_of p ∷ [])
  parent_missed p = by (found_parent a p) ∙ ap (λ t. cond (is_none t) (action_reference_of p ∷ []) []) (parent_meant p)
    where
      by : (o : Option InternalName) → map action_reference_of (missing_by (no_action p) o).actions ≡ cond (is_none (option_map (action_at p.id) o)) (action_reference_of p ∷ []) []
      by None = refl
      by (Some m) = refl

  parent_reserved : (p : Parent) → map components (missing_in_parent a p).reserved ≡ filter has_cedar (parent_types b (action_reference_of p ∷ []))
  parent_reserved p = by (found_parent a p) ∙ ap (λ (t : Option Uid). filter has_cedar (map (λ uid. uid.ty) (cons_option t []))) (parent_meant p)
    where
      by : (o : Option InternalName) → map components (missing_by (no_action p) o).reserved ≡ filter has_cedar (map (λ (uid : Uid). uid.ty) (cons_option (option_map (action_at p.id) o) []))
      by None = refl
      by (Some m) = alone_seen components m (has_cedar (components m))

  parents_missed : (ps : List Parent) → map action_reference_of (flat_map (λ p. (missing_in_parent a p).actions) ps) ≡ undefined_actions b (map action_reference_of ps)
  parents_missed =
      one_by_one action_reference_of action_reference_of (λ p. (missing_in_parent a p).actions) (undefined_actions b) refl (λ r rs. filter-append (λ r. is_none (action_target b r)) (r ∷ []) rs) parent_missed

  parents_split : (r : ActionReference) (rs : List ActionReference) → filter has_cedar (parent_types b (r ∷ rs)) ≡ filter has_cedar (parent_types b (r ∷ [])) ++ filter has_cedar (parent_types b rs)
  parents_split r rs =
      ap (λ us. filter has_cedar (map (λ (uid : Uid). uid.ty) us)) (filter_map-append (action_target b) (r ∷ []) rs)
      ∙ ap (filter has_cedar) (map-append (λ (uid : Uid). uid.ty) (filter_map (action_target b) (r ∷ [])) (filter_map (action_target b) rs))
      ∙ filter-append has_cedar (parent_types b (r ∷ [])) (parent_types b rs)

  parents_reserved : (ps : List Parent) → map components (flat_map (λ p. (missing_in_parent a p).reserved) ps) ≡ filter has_cedar (parent_types b (map action_reference_of ps))
  parents_reserved = one_by_one components action_reference_of (λ p. (missing_in_parent a p).reserved) (λ rs. filter has_cedar (parent_types b rs)) refl parents_split parent_reserved

  -- the type of tags
  tags_seen : (parents : List NameReference) (shape : Written NameReference) (tags : Option (SchemaType ConditionalName))
      → map views.type_in (option_to_list tags) ≡ tags_of (definitions.Standard parents shape (option_map views.type_in tags))
  tags_seen parents shape None = refl
  tags_seen parents shape (Some ty) = refl

  -- an entity type
  pub entity_missed : (e : EntityTypeFragment ConditionalName) → map reference_of (code.missing_in_entity a e).types ≡ world.missing_in_entity b (kind_in e)
  entity_missed (Standard shape parents tags) =
      or_else_seen reference_of (flat_map (λ n. (missing_in_name a n).types) parents) (missing_parts a shape tags)
      ∙ (λ i. world.or_else (names_missed parents i) (parts i))
    where
      parts : map reference_of (missing_parts a shape tags)
          ≡ flat_map (missing_in b) (views.type_in shape.0 ∷ []) ++ flat_map (missing_in b) (tags_of (definitions.Standard (map reference_of parents) (views.type_in shape.0) (option_map views.type_in tags)))
      parts =
          map-append reference_of (missing_in_type a shape.0) (flat_map (missing_in_type a) (option_to_list tags))
          ∙ ap (λ l. l ++ map reference_of (flat_map (missing_in_type a) (option_to_list tags))) (type_missed shape.0 ∙ sym (append-nil (missing_in b (views.type_in shape.0))))
          ∙ ap (λ l. flat_map (missing_in b) (views.type_in shape.0 ∷ []) ++ l)
          (all_seen reference_of views.type_in (missing_in_type a) (missing_in b) type_missed (option_to_list tags)
          ∙ ap (flat_map (missing_in b)) (tags_seen (map reference_of parents) (views.type_in shape.0) tags))
  entity_missed (Enum ids) = refl

  pub entity_reserved : (e : EntityTypeFragment ConditionalName) → map components (code.missing_in_entity a e).reserved ≡ filter has_cedar (world.entity_memberships b (kind_in e))
  entity_reserved (Standard shape parents tags) = names_reserved parents
  entity_reserved (Enum ids) = refl

  pub entity_without_actions : (e : EntityTypeFragment ConditionalName) → (code.missing_in_entity a e).actions ≡ []
  entity_without_actions (Standard shape parents tags) = nothing_given (λ n. (missing_in_name a n).actions) no_actions parents
  entity_without_actions (Enum ids) = refl

  -- an action
  module _ (action : ActionFragment ConditionalName ConditionalName over_conditional) where
    abbrev principals : List ConditionalName
    principals = action.applies_to.principal_apply_spec

    abbrev resources : List ConditionalName
    resources = action.applies_to.resource_apply_spec

    pub action_missed : map reference_of (code.missing_in_action a action).types ≡ world.missing_in_action b (action_of action)
    action_missed =
        or_else_seen reference_of (missing_in_type a action.context) (code.missing_in_apply a action.applies_to).types
        ∙ (λ i. world.or_else (type_missed action.context i) (applied i))
      where
        applied : map reference_of (code.missing_in_apply a action.applies_to).types ≡ undefined b (map reference_of principals) ++ undefined b (map reference_of resources)
        applied =
            map-append reference_of (flat_map (λ n. (missing_in_name a n).types) principals) (flat_map (λ n. (missing_in_name a n).types) resources)
            ∙ (λ i. names_missed principals i ++ names_missed resources i)

    pub action_parents_missed : map action_reference_of (code.missing_in_action a action).actions ≡ undefined_actions b (action_of action).parents
    action_parents_missed = parents_missed action.parents

    abbrev reserved_in : List ConditionalName → List InternalName
    reserved_in ns = flat_map (λ n. (missing_in_name a n).reserved) ns

    abbrev reserved_parents : List InternalName
    reserved_parents = flat_map (λ p. (missing_in_parent a p).reserved) action.parents

    abbrev meanings : List ConditionalName → List FullName
    meanings ns = targets b (map reference_of ns)

    abbrev parent_meanings : List FullName
    parent_meanings = parent_types b (map action_reference_of action.parents)

    pub action_reserved : map components (code.missing_in_action a action).reserved ≡ filter has_cedar (world.action_memberships b (action_of action))
    action_reserved =
        map-append components (reserved_in principals ++ reserved_in resources) reserved_parents
        ∙ ap (λ l. l ++ map components reserved_parents) (map-append components (reserved_in principals) (reserved_in resources))
        ∙ (λ i. (names_reserved principals i ++ names_reserved resources i) ++ parents_reserved action.parents i)
        ∙ ap (λ l. l ++ filter has_cedar parent_meanings) (sym (filter-append has_cedar (meanings principals) (meanings resources)))
        ∙ sym (filter-append has_cedar (meanings principals ++ meanings resources) parent_meanings)
