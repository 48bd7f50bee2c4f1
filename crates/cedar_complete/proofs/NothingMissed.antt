-- SPDX-License-Identifier: Apache-2.0
-- Definitions whose references miss nothing are made over full names.
use Rattle.std.proofs.Common.{◌≡◌, ◌++◌, Bool, true, false, List, [], ◌∷◌, map, Option, Some, None, cond, is_none, option_map, option_to_list, refl, sym, ap, ◌∙◌, unwrap_or}
use Rattle.std.specs.List.{find, flat_map}
use Rattle.std.specs.Option.{option_or}
use Rattle.std.specs.Result.{result_err, result_map_both}
use Rattle.std.specs.declared.result.Result.{Result}
use Rattle.std.specs.declared.result.Result.TheVariants.{Ok, Err}
use Rattle.cedar_data.specs.Maps.{map_values}
use Rattle.cedar_data.specs.declared.memory.Failure.{Failure}
use Rattle.cedar_data.specs.declared.memory.Failure.TheVariants.{Refused, NoMemory}
use Rattle.cedar_names.specs.Components.{components, has_cedar}
use Rattle.cedar_names.specs.declared.internal_name.InternalName.{InternalName}
use Rattle.cedar_written.proofs.FirstRefusal.{type_refused}
use Rattle.cedar_written.specs.Answers.{Answers, IfRefused, all_items, all_values, and_then, in_option}
use Rattle.cedar_written.specs.Reference.{Reference, named}
use Rattle.cedar_written.specs.References.{Refs, first_refusal, references}
use Rattle.cedar_written.specs.Through.{attribute_step, record_step, through_type, type_step, variant_step}
use Rattle.cedar_written.specs.declared.conditional_name.ConditionalName.{ConditionalName}
use Rattle.cedar_written.specs.declared.reference_type.ReferenceType.TheVariants as kind
use Rattle.cedar_written.specs.declared.ty.RecordType.{RecordType}
use Rattle.cedar_written.specs.declared.ty.SchemaType.{SchemaType, fold-SchemaType}
use Rattle.cedar_written.specs.declared.ty.SchemaType.TheOpen as layer
use Rattle.cedar_written.specs.declared.ty.SchemaType.TheOpen.{SchemaType-F, TypeVariant-F}
use Rattle.cedar_written.specs.declared.ty.TypeOfAttribute.{TypeOfAttribute}
use Rattle.cedar_written.specs.declared.ty.TypeVariant.{TypeVariant}
use Rattle.cedar_fragment.specs.ActionUids.{over_conditional, over_internal, type_in, uid_of}
use Rattle.cedar_fragment.specs.Definitions.{through_shape}
use Rattle.cedar_fragment.specs.declared.attributes_or_context.AttributesOrContext.{AttributesOrContext}
use Rattle.cedar_schema_error.specs.declared.schema_error.SchemaError.{SchemaError}
use Rattle.cedar_schema_error.specs.declared.schema_error.SchemaError.TheVariants.{ReservedName, TypeNotDefined}
use Rattle.cedar_written.specs.Possibilities.{leading}
use Rattle.cedar_definitions.specs.Structures.{definitions_of}
use Rattle.cedar_definitions.specs.declared.structures.ActionFragment.{ActionFragment}
use Rattle.cedar_definitions.specs.declared.structures.ActionsDef.{ActionsDef}
use Rattle.cedar_definitions.specs.declared.structures.CommonTypeDefs.{CommonTypeDefs}
use Rattle.cedar_definitions.specs.declared.structures.EntityTypeFragment.{EntityTypeFragment}
use Rattle.cedar_definitions.specs.declared.structures.EntityTypeFragment.TheVariants.{Standard, Enum}
use Rattle.cedar_definitions.specs.declared.structures.EntityTypesDef.{EntityTypesDef}
use Rattle.cedar_definitions.specs.declared.structures.ValidatorApplySpec.{ValidatorApplySpec}
use Rattle.cedar_definitions.specs.declared.structures.ValidatorNamespaceDef.{ValidatorNamespaceDef}
use Rattle.cedar_definitions.specs.declared.structures.ValidatorSchemaFragment.{ValidatorSchemaFragment}
use Rattle.cedar_declared.specs.Names.{Names}
use Rattle.cedar_declared.specs.Targets.{found, or_refused, parent_type, resolving, undeclared_action}
use Rattle.cedar_missing.specs.Undeclared.{Parent, first_undefined, found_parent, is_undefined, missing_by, missing_in_action, missing_in_apply, missing_in_common, missing_in_definition, missing_in_each, missing_in_entity, missing_in_name, missing_in_parent, missing_in_type, missing_in_values, name_at, no_action, no_type, or_else, refusal_by, refusal_of}
use Rattle.cedar_missing.specs.declared.missing.Missing.{Missing}
use Rattle.cedar_complete.specs.Completed.{FullParent, IsMade, all_three, answer_of, completed_action, completed_actions, completed_apply, completed_commons, completed_definition, completed_entities, completed_entity, completed_fragment, completed_parent, membership, memberships, parent_cmp, through_set, unless_refused, unreserved}

-- all three lists are empty
record MissesNothing (m : Missing) : Type 0 where
  pub types : m.types ≡ []
  pub actions : m.actions ≡ []
  pub reserved : m.reserved ≡ []

some_none : {A : Type 0} (x : A) → Some x ≡ None → ⊥
some_none x is = absurd (cc)

some_there : {A : Type 0} (x : A) (xs : List A) → x ∷ xs ≡ [] → ⊥
some_there x xs is = absurd (cc)

both_empty : {A : Type 0} (xs ys : List A) → xs ++ ys ≡ [] → (xs ≡ []) × (ys ≡ [])
both_empty [] ys is = (refl, is)
both_empty (x ∷ xs) ys is = absurd (some_there x (xs ++ ys) is)

neither : {A : Type 0} (xs ys : List A) → or_else xs ys ≡ [] → (xs ≡ []) × (ys ≡ [])
neither [] ys is = (refl, is)
neither (x ∷ xs) ys is = absurd (some_there x xs is)

none_listed : {A : Type 0} (o : Option A) → option_to_list o ≡ [] → o ≡ None
none_listed None is = refl
none_listed (Some x) is = absurd (some_there x [] is)

empty_each : {A C : Type 0} (h : A → List C) → ((x : A) → h x ≡ []) → (xs : List A) → flat_map h xs ≡ []
empty_each h so [] = refl
empty_each h so (x ∷ xs) = λ i. so x i ++ empty_each h so xs i

nothing_by : (types : List ConditionalName) (actions : List Parent) (reserved : List InternalName) → refusal_by types actions reserved ≡ None → (types ≡ []) × (actions ≡ []) × (reserved ≡ [])
nothing_by (t ∷ ts) actions reserved is = absurd (some_none _ is)
nothing_by [] (a ∷ more) reserved is = absurd (some_none _ is)
nothing_by [] [] (n ∷ ns) is = absurd (some_none _ is)
nothing_by [] [] [] is = (refl, refl, refl)

nothing : (m : Missing) → refusal_of m ≡ None → MissesNothing m
nothing m is = let all : (m.types ≡ []) × (m.actions ≡ []) × (m.reserved ≡ []) = nothing_by m.types m.actions m.reserved is in record { types = all.0; actions = all.1; reserved = all.2 }

-- a result without refusal
made_where : {A : Type 0} (r : Result A SchemaError) → result_err r ≡ None → IsMade r
made_where (Ok a) is = (a, refl)
made_where (Err e) is = absurd (some_none e is)

-- a refusal, as a result of a known type
abbrev err : {E : Type 0} (A : Type 0) → E → Result A E
err A e = Err e

not_both : {A : Type 0} (a : A) (e : SchemaError) → Ok a ≡ err A e → ⊥
not_both a e is = absurd (cc)

-- what is made of a part
made_with : {A B : Type 0} (r : Result A SchemaError) (g : A → B) → IsMade r → IsMade (and_then r (λ a. Ok (g a)))
made_with r g made = (g made.0, ap (λ r. and_then r (λ a. Ok (g a))) made.1)

three_made : {A B C : Type 0} (a : Result A SchemaError) (b : Result B SchemaError) (c : Result C SchemaError) → IsMade a → IsMade b → IsMade c → IsMade (all_three a b c)
three_made a b c p q r = ((p.0, q.0, r.0), (λ i. all_three (p.1 i) (q.1 i) (r.1 i)))

module _ {A B : Type 0} (f : A → Missing) (g : A → Result B SchemaError) (so : (x : A) → MissesNothing (f x) → IsMade (g x)) where
  -- the items of a list
  each_made : (xs : List A) → MissesNothing (missing_in_each f xs) → IsMade (all_items (map g xs))
  each_made [] none = ([], refl)
  each_made (x ∷ xs) none =
      let types : ((f x).types ≡ []) × (flat_map (λ x. (f x).types) xs ≡ []) = both_empty (f x).types (flat_map (λ x. (f x).types) xs) none.types in
      let actions : ((f x).actions ≡ []) × (flat_map (λ x. (f x).actions) xs ≡ []) = both_empty (f x).actions (flat_map (λ x. (f x).actions) xs) none.actions in
      let reserved : ((f x).reserved ≡ []) × (flat_map (λ x. (f x).reserved) xs ≡ []) = both_empty (f x).reserved (flat_map (λ x. (f x).reserved) xs) none.reserved in
      let first : IsMade (g x) = so x (record { types = types.0; actions = actions.0; reserved = reserved.0 }) in
      let others : IsMade (all_items (map g xs)) = each_made xs (record { types = types.1; actions = actions.1; reserved = reserved.1 }) in
      (first.0 ∷ others.0, (λ i. and_then (first.1 i) (λ v. and_then (others.1 i) (λ vs. Ok (v ∷ vs)))))

  -- the values of a map
  values_made : {K : Type 0} (es : List (K × A)) → MissesNothing (missing_in_values f es) → IsMade (all_values (map_values g es))
  values_made [] none = ([], refl)
  values_made (e ∷ es) none =
      let types : ((f e.1).types ≡ []) × (flat_map (λ e. (f e.1).types) es ≡ []) = both_empty (f e.1).types (flat_map (λ e. (f e.1).types) es) none.types in
      let actions : ((f e.1).actions ≡ []) × (flat_map (λ e. (f e.1).actions) es ≡ []) = both_empty (f e.1).actions (flat_map (λ e. (f e.1).actions) es) none.actions in
      let reserved : ((f e.1).reserved ≡ []) × (flat_map (λ e. (f e.1).reserved) es ≡ []) = both_empty (f e.1).reserved (flat_map (λ e. (f e.1).reserved) es) none.reserved in
      let first : IsMade (g e.1) = so e.1 (record { types = types.0; actions = actions.0; reserved = reserved.0 }) in
      let others : IsMade (all_values (map_values g es)) = values_made es (record { types = types.1; actions = actions.1; reserved = reserved.1 }) in
      ((e.0, first.0) ∷ others.0, (λ i. and_then (first.1 i) (λ v. and_then (others.1 i) (λ vs. Ok ((e.0, v) ∷ vs)))))

-- what both parts miss
joined_nothing : (a b : Missing) → MissesNothing (record { types = a.types ++ b.types; actions = a.actions ++ b.actions; reserved = a.reserved ++ b.reserved }) → MissesNothing a × MissesNothing b
joined_nothing a b none =
    let types : (a.types ≡ []) × (b.types ≡ []) = both_empty a.types b.types none.types in
    let actions : (a.actions ≡ []) × (b.actions ≡ []) = both_empty a.actions b.actions none.actions in
    let reserved : (a.reserved ≡ []) × (b.reserved ≡ []) = both_empty a.reserved b.reserved none.reserved in
    (record { types = types.0; actions = actions.0; reserved = reserved.0 }, record { types = types.1; actions = actions.1; reserved = reserved.1 })

module _ (names : Names) where
  -- what comes of the name of a reference, whatever its place
  abbrev by_name : Reference ConditionalName → Result InternalName SchemaError
  by_name r = resolving names (named kind.Common (name_at r))

  abbrev OfType : Type 0
  OfType = Result (SchemaType InternalName) SchemaError

  abbrev OfVariant : Type 0
  OfVariant = Result (TypeVariant InternalName) SchemaError

  abbrev OfRecord : Type 0
  OfRecord = Result (RecordType InternalName) SchemaError

  abbrev OfAttribute : Type 0
  OfAttribute = Result (TypeOfAttribute InternalName) SchemaError

  same_type_step : (l : SchemaType-F ConditionalName OfType OfVariant OfRecord OfAttribute) → type_step (resolving names) l ≡ type_step by_name l
  same_type_step (layer.Variant ty loc) = refl
  same_type_step (layer.CommonTypeRef name loc) = refl

  same_variant_step : (l : TypeVariant-F ConditionalName OfType OfVariant OfRecord OfAttribute) → variant_step (resolving names) l ≡ variant_step by_name l
  same_variant_step layer.String = refl
  same_variant_step layer.Long = refl
  same_variant_step layer.Boolean = refl
  same_variant_step (layer.Set element) = refl
  same_variant_step (layer.Record fields) = refl
  same_variant_step (layer.Entity name) = refl
  same_variant_step (layer.EntityOrCommon name) = refl
  same_variant_step (layer.Extension name) = refl

  -- a type has named references alone
  by_names : (t : SchemaType ConditionalName) → through_type (resolving names) t ≡ through_type by_name t
  by_names t = λ i. fold-SchemaType ConditionalName OfType OfVariant OfRecord OfAttribute (λ l. same_type_step l i) (λ l. same_variant_step l i) (record_step by_name) (attribute_step by_name) t

  first_found : (n : ConditionalName) (others : List ConditionalName) (e : SchemaError) (o : Option InternalName) → cond (is_none o) (Some n) (find (is_undefined names) others) ≡ None
      → (find (is_undefined names) others ≡ None) × (result_err (or_refused e o) ≡ None)
  first_found n others e None is = absurd (some_none n is)
  first_found n others e (Some m) is = (is, refl)

  not_refused : (rs : Refs ConditionalName) → first_undefined names rs ≡ None → first_refusal by_name rs ≡ None
  not_refused [] is = refl
  not_refused (r ∷ rs) is =
      let both : (first_undefined names rs ≡ None) × (result_err (by_name r) ≡ None) = first_found (name_at r) (map name_at rs) _ (found names (name_at r)) is in
      (λ i. option_or (both.1 i) (first_refusal by_name rs)) ∙ not_refused rs both.0

  -- a type
  type_made : (t : SchemaType ConditionalName) → missing_in_type names t ≡ [] → IsMade (through_type (resolving names) t)
  type_made t none =
      made_where (through_type (resolving names) t) (ap result_err (by_names t) ∙ type_refused by_name t ∙ not_refused (references t) (none_listed (first_undefined names (references t)) none))

  -- a shape
  shape_made : (s : AttributesOrContext ConditionalName) → missing_in_type names s.0 ≡ [] → IsMade (through_shape (resolving names) s)
  shape_made s none = made_with (through_type (resolving names) s.0) _ (type_made s.0 none)

  -- the type of tags
  tags_made : (o : Option (SchemaType ConditionalName)) → flat_map (missing_in_type names) (option_to_list o) ≡ [] → IsMade (in_option (option_map (through_type (resolving names)) o))
  tags_made None none = (None, refl)
  tags_made (Some t) none = made_with (through_type (resolving names) t) Some (type_made t (both_empty (missing_in_type names t) [] none).0)

  -- a parent of an entity type, a principal or a resource
  name_made : (n : ConditionalName) → MissesNothing (missing_in_name names n) → IsMade (membership names n)
  name_made n none = by (found names n) none
    where
      e : SchemaError
      e = TypeNotDefined (record { undefined_types = leading n [] })

      free : (m : InternalName) (b : Bool) → cond b (m ∷ []) [] ≡ [] → IsMade {T = InternalName} (cond b (Err (ReservedName (record { name = m }))) (Ok m))
      free m true is = absurd (some_there m [] is)
      free m false is = (m, refl)

      by : (o : Option InternalName) → MissesNothing (missing_by (no_type n) o) → IsMade (and_then (or_refused e o) unreserved)
      by None none = absurd (some_there n [] none.types)
      by (Some m) none = free m (has_cedar (components m)) none.reserved

  -- a parent of an action
  parent_made : (a : Parent) → MissesNothing (missing_in_parent names a) → IsMade (completed_parent names a)
  parent_made a none = by (found_parent names a) none
    where
      e : SchemaError
      e = undeclared_action a.id (parent_type (type_in a))

      by : (o : Option InternalName) → MissesNothing (missing_by (no_action a) o) → IsMade {T = FullParent} (and_then (or_refused e o) (λ ty. Ok (uid_of over_internal a.id ty)))
      by None none = absurd (some_there a [] none.actions)
      by (Some m) none = (uid_of over_internal a.id m, refl)

  no_action_by : (n : ConditionalName) (o : Option InternalName) → (missing_by (no_type n) o).actions ≡ []
  no_action_by n None = refl
  no_action_by n (Some m) = refl

  no_type_by : (a : Parent) (o : Option InternalName) → (missing_by (no_action a) o).types ≡ []
  no_type_by a None = refl
  no_type_by a (Some m) = refl

  -- parents of an entity type, principals or resources
  names_made : (ns : List ConditionalName) → (missing_in_each (missing_in_name names) ns).types ≡ [] → (missing_in_each (missing_in_name names) ns).reserved ≡ [] → IsMade (memberships names ns)
  names_made ns types reserved =
      made_with (all_items (map (membership names) ns)) _ (each_made (missing_in_name names) (membership names) name_made ns
      (record { types = types; actions = empty_each (λ n. (missing_in_name names n).actions) (λ n. no_action_by n (found names n)) ns; reserved = reserved }))

  -- parents of an action
  parents_made : (as_parents : List Parent) → (missing_in_each (missing_in_parent names) as_parents).actions ≡ [] → (missing_in_each (missing_in_parent names) as_parents).reserved ≡ []
      → IsMade (through_set parent_cmp (completed_parent names) as_parents)
  parents_made as_parents actions reserved =
      made_with (all_items (map (completed_parent names) as_parents)) _ (each_made (missing_in_parent names) (completed_parent names) parent_made as_parents
      (record { types = empty_each (λ a. (missing_in_parent names a).types) (λ a. no_type_by a (found_parent names a)) as_parents; actions = actions; reserved = reserved }))

  -- what an action applies to
  apply_made : (a : ValidatorApplySpec ConditionalName) → (missing_in_apply names a).types ≡ [] → (missing_in_apply names a).reserved ≡ [] → IsMade (completed_apply names a)
  apply_made a types reserved =
      let each_type : ((missing_in_each (missing_in_name names) a.principal_apply_spec).types ≡ []) × ((missing_in_each (missing_in_name names) a.resource_apply_spec).types ≡ []) = both_empty _ _ types in
      let each_reserved : ((missing_in_each (missing_in_name names) a.principal_apply_spec).reserved ≡ []) × ((missing_in_each (missing_in_name names) a.resource_apply_spec).reserved ≡ []) = both_empty _ _ reserved in
      let principals : IsMade (memberships names a.principal_apply_spec) = names_made a.principal_apply_spec each_type.0 each_reserved.0 in
      let resources : IsMade (memberships names a.resource_apply_spec) = names_made a.resource_apply_spec each_type.1 each_reserved.1 in (
        record { principal_apply_spec = principals.0; resource_apply_spec = resources.0 },
        (λ i. and_then (principals.1 i) (λ ps. and_then (resources.1 i) (λ rs. Ok (record { principal_apply_spec = ps; resource_apply_spec = rs })))),
      )

  -- a common type
  common_made : (t : SchemaType ConditionalName) → MissesNothing (missing_in_common names t) → IsMade (through_type (resolving names) t)
  common_made t none = type_made t none.types

  -- an entity type
  entity_made : (e : EntityTypeFragment ConditionalName) → MissesNothing (missing_in_entity names e) → IsMade (completed_entity names e)
  entity_made (Standard shape parents tags) none =
      let types : ((missing_in_each (missing_in_name names) parents).types ≡ []) × (missing_in_type names shape.0 ++ flat_map (missing_in_type names) (option_to_list tags) ≡ []) = neither _ _ none.types in
      let parts : (missing_in_type names shape.0 ≡ []) × (flat_map (missing_in_type names) (option_to_list tags) ≡ []) = both_empty _ _ types.1 in
      made_with _ _ (three_made (memberships names parents) (through_shape (resolving names) shape) (in_option (option_map (through_type (resolving names)) tags))
      (names_made parents types.0 none.reserved) (shape_made shape parts.0) (tags_made tags parts.1))
  entity_made (Enum choices) none = (Enum choices, refl)

  -- an action
  action_made : (a : ActionFragment ConditionalName ConditionalName over_conditional) → MissesNothing (missing_in_action names a) → IsMade (completed_action names a)
  action_made a none =
      let types : (missing_in_type names a.context ≡ []) × ((missing_in_apply names a.applies_to).types ≡ []) = neither _ _ none.types in
      let reserved : ((missing_in_apply names a.applies_to).reserved ≡ []) × ((missing_in_each (missing_in_parent names) a.parents).reserved ≡ []) = both_empty _ _ none.reserved in
      made_with _ _ (three_made (through_set parent_cmp (completed_parent names) a.parents) (completed_apply names a.applies_to) (through_type (resolving names) a.context)
      (parents_made a.parents none.actions reserved.1) (apply_made a.applies_to types.1 reserved.0) (type_made a.context types.0))

  commons_whole : (d : CommonTypeDefs ConditionalName) → MissesNothing (missing_in_values (missing_in_common names) d.defs) → IsMade (completed_commons names d)
  commons_whole d none = made_with _ _ (values_made (missing_in_common names) (through_type (resolving names)) common_made d.defs none)

  entities_whole : (d : EntityTypesDef ConditionalName) → MissesNothing (missing_in_values (missing_in_entity names) d.defs) → IsMade (completed_entities names d)
  entities_whole d none = made_with _ _ (values_made (missing_in_entity names) (completed_entity names) entity_made d.defs none)

  actions_whole : (d : ActionsDef ConditionalName ConditionalName over_conditional) → MissesNothing (missing_in_values (missing_in_action names) d.actions) → IsMade (completed_actions names d)
  actions_whole d none = made_with _ _ (values_made (missing_in_action names) (completed_action names) action_made d.actions none)

  definition_whole : (d : ValidatorNamespaceDef ConditionalName ConditionalName over_conditional) → MissesNothing (missing_in_definition names d) → IsMade (completed_definition names d)
  definition_whole d none =
      let commons : Missing = missing_in_values (missing_in_common names) d.common_types.defs in
      let entities : Missing = missing_in_values (missing_in_entity names) d.entity_types.defs in
      let actions : Missing = missing_in_values (missing_in_action names) d.actions.actions in
      let both : MissesNothing (record { types = commons.types ++ entities.types; actions = commons.actions ++ entities.actions; reserved = commons.reserved ++ entities.reserved }) × MissesNothing actions = joined_nothing _ actions none in
      let first : MissesNothing commons × MissesNothing entities = joined_nothing commons entities both.0 in
      made_with _ _ (three_made (completed_commons names d.common_types) (completed_entities names d.entity_types) (completed_actions names d.actions)
      (commons_whole d.common_types first.0) (entities_whole d.entity_types first.1) (actions_whole d.actions both.1))

  -- what misses nothing is made
  pub whole_apply : (a : ValidatorApplySpec ConditionalName) → refusal_of (missing_in_apply names a) ≡ None → IsMade (completed_apply names a)
  whole_apply a is = let none : MissesNothing (missing_in_apply names a) = nothing (missing_in_apply names a) is in apply_made a none.types none.reserved

  pub whole_commons : (d : CommonTypeDefs ConditionalName) → refusal_of (missing_in_values (missing_in_common names) d.defs) ≡ None → IsMade (completed_commons names d)
  whole_commons d is = commons_whole d (nothing (missing_in_values (missing_in_common names) d.defs) is)

  pub whole_entity : (e : EntityTypeFragment ConditionalName) → refusal_of (missing_in_entity names e) ≡ None → IsMade (completed_entity names e)
  whole_entity e is = entity_made e (nothing (missing_in_entity names e) is)

  pub whole_entities : (d : EntityTypesDef ConditionalName) → refusal_of (missing_in_values (missing_in_entity names) d.defs) ≡ None → IsMade (completed_entities names d)
  whole_entities d is = entities_whole d (nothing (missing_in_values (missing_in_entity names) d.defs) is)

  pub whole_action : (a : ActionFragment ConditionalName ConditionalName over_conditional) → refusal_of (missing_in_action names a) ≡ None → IsMade (completed_action names a)
  whole_action a is = action_made a (nothing (missing_in_action names a) is)

  pub whole_actions : (d : ActionsDef ConditionalName ConditionalName over_conditional) → refusal_of (missing_in_values (missing_in_action names) d.actions) ≡ None → IsMade (completed_actions names d)
  whole_actions d is = actions_whole d (nothing (missing_in_values (missing_in_action names) d.actions) is)

  pub whole_definition : (d : ValidatorNamespaceDef ConditionalName ConditionalName over_conditional) → refusal_of (missing_in_definition names d) ≡ None → IsMade (completed_definition names d)
  whole_definition d is = definition_whole d (nothing (missing_in_definition names d) is)

  pub whole_fragment : (f : ValidatorSchemaFragment ConditionalName ConditionalName over_conditional) → refusal_of (missing_in_each (missing_in_definition names) (definitions_of f)) ≡ None → IsMade (completed_fragment names f)
  whole_fragment f is = each_made (missing_in_definition names) (completed_definition names) definition_whole (definitions_of f) (nothing (missing_in_each (missing_in_definition names) (definitions_of f)) is)

-- so a refusal is that of what is missed
refused_by : {C : Type 0} (e : SchemaError) (o : Option SchemaError) (made : Result C SchemaError) → (o ≡ None → IsMade made) → unless_refused o made ≡ Err e → o ≡ Some e
refused_by {C} e (Some x) made whole is = ap Some (inside C x e is)
  where
    inside : (C : Type 0) (x e : SchemaError) → err C x ≡ err C e → x ≡ e
    inside C x e is = ap (λ r. unwrap_or (result_err r) x) is
refused_by {C} e None made whole is = let both : (y : C) × (made ≡ Ok y) = whole refl in absurd (not_both both.0 e (sym both.1 ∙ is))

pub only_refusal : {Full C : Type 0} (content : Full → C) (result : Result Full (Failure SchemaError)) (m : Missing) (made : Result C SchemaError) → (refusal_of m ≡ None → IsMade made)
    → Answers (result_map_both content (λ e. e) result) (answer_of m made) → IfRefused result (λ e. refusal_of m ≡ Some e)
only_refusal content (Ok y) m made whole answers = tt
only_refusal content (Err NoMemory) m made whole answers = tt
only_refusal content (Err (Refused e)) m made whole answers = refused_by e (refusal_of m) made whole answers

pub ruleset wholes = (whole_definition, whole_fragment)

pub ruleset parts = (whole_commons, whole_entities, whole_entity, whole_actions, whole_action, whole_apply)

pub ruleset refusals = (only_refusal, whole_fragment, whole_entity, whole_action, whole_apply)
