-- SPDX-License-Identifier: Apache-2.0
-- What is written of a declaration has its shape.
use Rattle.std.proofs.Common.{◌≡◌, ℕ, Bool, true, false, is_some, List, [], ◌∷◌, ◌++◌, map, codes, Option, Some, None, option_map, refl, sym, ap, ◌∙◌, subst, append_assoc, if◌then◌else◌}
use Rattle.std.specs.Prelude.{IfSome}
use Rattle.std.specs.Str.{bytes_eq}
use Rattle.serde_json.specs.Data.{Data, string}
use Rattle.serde_json.specs.Find.{get}
use Rattle.cedar_data.specs.Maps.{map_values}
use Rattle.cedar_text.specs.Lists.{elements}
use Rattle.cedar_names.specs.declared.annotation.Annotations.{Annotations}
use Rattle.cedar_types.specs.declared.value.ValueMap.{ValueMap}
use Rattle.cedar_written.specs.WrittenTypes.{TypeLayer, VariantLayer, empty_record}
use Rattle.cedar_written.specs.declared.raw_name.RawName.{RawName}
use Rattle.cedar_written.specs.declared.ty.SchemaType.{SchemaType, out-SchemaType}
use Rattle.cedar_written.specs.declared.ty.SchemaType.TheOpen as layer
use Rattle.cedar_written.specs.declared.ty.SchemaType.TheVariants as type
use Rattle.cedar_written.specs.declared.ty.TypeVariant.{out-TypeVariant}
use Rattle.cedar_written.specs.declared.ty.TypeVariant.TheVariants as variant
use Rattle.cedar_written.specs.declared.ty.RecordType.{RecordType, out-RecordType}
use Rattle.cedar_written.specs.declared.ty.TypeOfAttribute.{TypeOfAttribute}
use Rattle.cedar_fragment.specs.ActionUids.{over_raw, type_in}
use Rattle.cedar_fragment.specs.Printed.{is_empty_fields, is_empty_layer, is_empty_type, is_empty_variant}
use Rattle.cedar_fragment.specs.Shapes.{shape_of, type_of_shape}
use Rattle.cedar_fragment.specs.declared.action_uid.ActionEntityUID.{ActionEntityUID}
use Rattle.cedar_fragment.specs.declared.attributes_or_context.AttributesOrContext.{AttributesOrContext}
use Rattle.cedar_fragment.specs.declared.definitions.ActionType.{ActionType}
use Rattle.cedar_fragment.specs.declared.definitions.ApplySpec.{ApplySpec}
use Rattle.cedar_fragment.specs.declared.definitions.CommonType.{CommonType}
use Rattle.cedar_fragment.specs.declared.definitions.EntityType.{EntityType}
use Rattle.cedar_fragment.specs.declared.definitions.EntityTypeKind.{EntityTypeKind}
use Rattle.cedar_fragment.specs.declared.definitions.EntityTypeKind.TheVariants as sort
use Rattle.cedar_fragment.specs.declared.definitions.StandardEntityType.{StandardEntityType}
use Rattle.cedar_json_types.specs.Keys.{action_keys, apply_keys, entity_keys, parent_keys, type_keys}
use Rattle.cedar_json_types.specs.Parts.{IsName}
use Rattle.cedar_json_types.specs.Shapes.{ArrayOf, IsText, Nothing, OrAbsent, OrNull, Present}
use Rattle.cedar_json_types.specs.Types.{Part}
use Rattle.cedar_json_types.specs.declared.keyed.KeySet.TheVariants as set
use Rattle.cedar_json_values.specs.ActionValues.{ValuePart, ValuesShape}
use Rattle.cedar_json_read.specs.Declarations.{AreChoices, IsAction, IsApplySpec, IsCommonType, IsEntityType, IsKind, IsParent, IsShape, IsStandard, ShapeAt, empty_shape}
use Rattle.cedar_json_write.specs.Written.{Field, action_json, all_of, annotations_json, apply_json, common_json, entity_json, if_any, if_some, kind_fields, name_json, names_json, notes, object_of, parent_json, shape_at, standard_fields, type_fields, type_json, values_json}
use Rattle.cedar_json_written_laws.specs.Unplaced.{action_unplaced, apply_unplaced, attribute_unplaced, common_unplaced, entity_unplaced, kind_unplaced, name_unplaced, parent_unplaced, record_unplaced, shape_unplaced, standard_unplaced, type_unplaced, variant_unplaced}
use Rattle.cedar_json_written_laws.specs.Unplaced as bare
use Rattle.cedar_json_written_laws.specs.Writable.{WritableAction, WritableApply, WritableCommon, WritableEntity, WritableKind, WritableShape, WritableType, WritableValues}
use Rattle.cedar_json_written_laws.proofs.Fields.{Within, any-other, at_field, field_at, get_field, in_neither, keyed_object, lone, may_have_field, not_before, not_behind, outside, some-other, unless-other, unless-shape, within-any, within-append, within-some, within-unless}
use Rattle.cedar_json_written_laws.proofs.Ordered.{array_written}
use Rattle.cedar_json_written_laws.proofs.WrittenParts.{list_written, name_written, noted}
use Rattle.cedar_json_written_laws.proofs.WrittenTypes.{behind_common, part_written, record_unplaced-is, type_unplaced-is, type_within, type_written, variant_unplaced-is, within_type, within_variant}
use Rattle.cedar_json_written_laws.proofs.WrittenValues.{values_written}

-- ---- parts

-- the notes of a declaration have no other key than theirs
pub notes-other : (k : List ℕ) (a : Annotations) → bytes_eq k (codes "annotations") ≡ false → field_at k (notes a) ≡ None
notes-other k a other = any-other k (codes "annotations") annotations_json _ other

module _ {A V : Type 0} (of : A → Data) (bare : A → V) (P : Data → V → Type 0) (Fits : A → Type 0) (written : (x : A) → Fits x → P (of x) (bare x)) (k : List ℕ) where
  -- what is written where it is there
  some-shape : (absent : Option V → Type 0) → absent None → (Q : Data → Option V → Type 0) → ((d : Data) (v : V) → P d v → Q d (Some v)) → (o : Option A) → IfSome o Fits → OrAbsent absent Q (field_at k (if_some k of o)) (option_map bare o)
  some-shape absent none Q there None fits = none
  some-shape absent none Q there (Some x) fits = subst (λ o. OrAbsent absent Q o (Some (bare x))) (sym (lone k (of x))) (there (of x) (bare x) (written x fits))

  null_or_some : (o : Option A) → IfSome o Fits → OrAbsent Nothing (OrNull P) (field_at k (if_some k of o)) (option_map bare o)
  null_or_some = some-shape Nothing refl (OrNull P) (λ d v is. is)

  present_some : (o : Option A) → IfSome o Fits → OrAbsent Nothing (Present P) (field_at k (if_some k of o)) (option_map bare o)
  present_some = some-shape Nothing refl (Present P) (λ d v is. is)

-- nothing is asked of it
always : {A : Type 0} (o : Option A) → IfSome o (λ x. Unit {0})
always None = tt
always (Some x) = tt

-- ---- the closed record without attributes

empty_fields : (es : List (List ℕ × TypeOfAttribute RawName)) (additional : Bool) → is_empty_fields es additional ≡ true → (es ≡ []) × (additional ≡ false)
empty_fields [] true is = absurd (cc)
empty_fields [] false is = (refl, refl)
empty_fields (e ∷ es) additional is = absurd (cc)

empty_is : (r : RecordType RawName) → is_empty_fields (out-RecordType RawName r).attributes (out-RecordType RawName r).additional_attributes ≡ true → record_unplaced r ≡ empty_record
empty_is r is =
    let parts = empty_fields (out-RecordType RawName r).attributes (out-RecordType RawName r).additional_attributes is in
    record_unplaced-is r ∙ (λ i. bare.record_step (record { attributes = map_values attribute_unplaced (parts.0 i); additional_attributes = parts.1 i }))

empty_variant : (v : VariantLayer RawName) → is_empty_variant v ≡ true → bare.variant_step (within_variant v) ≡ variant.Record empty_record
empty_variant layer.String is = absurd (cc)
empty_variant layer.Long is = absurd (cc)
empty_variant layer.Boolean is = absurd (cc)
empty_variant (layer.Set element) is = absurd (cc)
empty_variant (layer.Record r) is = variant.rolls-Record (record_unplaced r) ∙ ap variant.Record (empty_is r is)
empty_variant (layer.Entity name) is = absurd (cc)
empty_variant (layer.EntityOrCommon name) is = absurd (cc)
empty_variant (layer.Extension name) is = absurd (cc)

empty_layer : (l : TypeLayer RawName) → is_empty_layer l ≡ true → bare.type_step (within_type l) ≡ type.Variant (variant.Record empty_record) None
empty_layer (layer.Variant ty loc) is =
    type.rolls-Variant (variant_unplaced ty) None ∙ ap (λ v. type.Variant v None) (variant_unplaced-is ty ∙ empty_variant (out-TypeVariant RawName ty) is)
empty_layer (layer.CommonTypeRef name loc) is = absurd (cc)

empty_type : (t : SchemaType RawName) → is_empty_type t ≡ true → type_unplaced t ≡ type.Variant (variant.Record empty_record) None
empty_type t is = type_unplaced-is t ∙ empty_layer (out-SchemaType RawName t) is

-- a shape or a context at its key
shape_written : (k : List ℕ) (fs : List Field) (s : AttributesOrContext RawName) → WritableShape s → field_at k fs ≡ field_at k (shape_at k s) → ShapeAt k (object_of fs) (shape_unplaced s)
shape_written k fs s writable is =
    may_have_field IsShape k (λ s. s ≡ empty_shape) fs (field_at k (shape_at k s)) (shape_unplaced s) is
    (unless-shape IsShape k (λ s. s ≡ empty_shape) (is_empty_type (type_of_shape s)) (type_json (type_of_shape s)) (shape_unplaced s) (λ empty. ap shape_of (empty_type (type_of_shape s) empty)) (λ other. type_written 129 (type_of_shape s) writable))

-- ---- common types

pub common_written : (c : CommonType RawName) → WritableCommon c → IsCommonType (common_json c) (common_unplaced c)
common_written c writable = (
  part_written 129 set.CommonType (notes c.annotations) (behind_common c.annotations) c.ty writable.0,
  noted (type_fields c.ty) c.annotations (outside (type_keys []) (codes "annotations") (type_fields c.ty) (type_within c.ty) refl) writable.1,
  refl,
)

-- ---- entity types

-- the fields of a standard entity type
module _ (e : StandardEntityType RawName) where
  abbrev parents : List Field
  parents = if_any (codes "memberOfTypes") names_json e.member_of_types

  abbrev shape : List Field
  shape = shape_at (codes "shape") e.shape

  abbrev tags : List Field
  tags = if_some (codes "tags") type_json e.tags

  standard-other : (k : List ℕ) → bytes_eq k (codes "memberOfTypes") ≡ false → bytes_eq k (codes "shape") ≡ false → bytes_eq k (codes "tags") ≡ false → field_at k (standard_fields e) ≡ None
  standard-other k p s t =
      in_neither k parents (shape ++ tags) (any-other k (codes "memberOfTypes") names_json e.member_of_types p)
      (in_neither k shape tags (unless-other k (is_empty_type (type_of_shape e.shape)) (codes "shape") (type_json (type_of_shape e.shape)) s) (some-other k (codes "tags") type_json e.tags t))

  standard_within : Within entity_keys (standard_fields e)
  standard_within =
      within-append entity_keys parents (shape ++ tags) (within-any entity_keys (codes "memberOfTypes") names_json e.member_of_types refl)
      (within-append entity_keys shape tags (within-unless entity_keys (is_empty_type (type_of_shape e.shape)) (codes "shape") (type_json (type_of_shape e.shape)) refl) (within-some entity_keys (codes "tags") type_json e.tags refl))

  list_at : (ns : List RawName) → OrAbsent (λ (ns : List RawName). ns ≡ []) (ArrayOf IsName) (field_at (codes "memberOfTypes") (if_any (codes "memberOfTypes") names_json ns)) (map name_unplaced ns)
  list_at [] = refl
  list_at (n ∷ ns) = list_written (n ∷ ns)

  standard_written : (a : Annotations) → WritableShape e.shape → IfSome e.tags WritableType → IsStandard (object_of (standard_fields e ++ notes a)) (standard_unplaced e)
  standard_written a shaped tagged =
      let fs = standard_fields e ++ notes a in
      let front = λ (k : List ℕ) (other : bytes_eq k (codes "annotations") ≡ false). not_behind k (standard_fields e) (notes a) (notes-other k a other) in
      let shape_free = λ (k : List ℕ) (other : bytes_eq k (codes "shape") ≡ false). unless-other k (is_empty_type (type_of_shape e.shape)) (codes "shape") (type_json (type_of_shape e.shape)) other in
      let at_parents = front (codes "memberOfTypes") refl ∙ not_behind (codes "memberOfTypes") parents (shape ++ tags) (in_neither (codes "memberOfTypes") shape tags (shape_free (codes "memberOfTypes") refl) (some-other (codes "memberOfTypes") (codes "tags") type_json e.tags refl)) in
      let at_shape = front (codes "shape") refl ∙ not_before (codes "shape") parents (shape ++ tags) (any-other (codes "shape") (codes "memberOfTypes") names_json e.member_of_types refl) ∙ not_behind (codes "shape") shape tags (some-other (codes "shape") (codes "tags") type_json e.tags refl) in
      let at_tags = front (codes "tags") refl ∙ not_before (codes "tags") parents (shape ++ tags) (any-other (codes "tags") (codes "memberOfTypes") names_json e.member_of_types refl) ∙ not_before (codes "tags") shape tags (shape_free (codes "tags") refl) in (
        may_have_field (ArrayOf IsName) (codes "memberOfTypes") (λ ns. ns ≡ []) fs (field_at (codes "memberOfTypes") parents) (map name_unplaced e.member_of_types) at_parents (list_at e.member_of_types),
        shape_written (codes "shape") fs e.shape shaped at_shape,
        may_have_field (Present (Part 129 set.Type)) (codes "tags") Nothing fs (field_at (codes "tags") tags) (option_map type_unplaced e.tags) at_tags (present_some type_json type_unplaced (Part 129 set.Type) WritableType (type_written 129) (codes "tags") e.tags tagged),
      )

kind_within : (k : EntityTypeKind RawName) → Within entity_keys (kind_fields k)
kind_within (sort.Standard e) = standard_within e
kind_within (sort.Enum choices) = (refl, tt)

kind-notes : (k : EntityTypeKind RawName) → field_at (codes "annotations") (kind_fields k) ≡ None
kind-notes (sort.Standard e) = standard-other e (codes "annotations") refl refl refl
kind-notes (sort.Enum choices) = refl

texts_written : (ts : List (List ℕ)) → ArrayOf IsText (all_of string ts) ts
texts_written ts = subst (ArrayOf IsText (all_of string ts)) (map-id ts) (array_written string (λ (t : List ℕ). t) IsText (λ t. refl) ts)
  where
    map-id : (ts : List (List ℕ)) → map (λ (t : List ℕ). t) ts ≡ ts
    map-id [] = refl
    map-id (t ∷ ts) = ap (λ l. t ∷ l) (map-id ts)

kind_written : (k : EntityTypeKind RawName) (a : Annotations) → WritableKind k → IsKind (object_of (kind_fields k ++ notes a)) (kind_unplaced k)
kind_written (sort.Standard e) a writable =
    let none = get_field (codes "enum") (standard_fields e ++ notes a) ∙ in_neither (codes "enum") (standard_fields e) (notes a) (standard-other e (codes "enum") refl refl refl) (notes-other (codes "enum") a refl) in
    (ap is_some none, standard_written e a writable.0 writable.1)
kind_written (sort.Enum choices) a writable =
    let d = object_of (kind_fields (sort.Enum choices) ++ notes a) in
    let fs = kind_fields (sort.Enum choices) in
    let lacks = λ (k : List ℕ) (apart : bytes_eq k (codes "annotations") ≡ false) (other : field_at k fs ≡ None). get_field k (fs ++ notes a) ∙ not_behind k fs (notes a) (notes-other k a apart) ∙ other in
    let absent = λ (k : List ℕ) (none : get k d ≡ None). ap (λ (o : Option Data). if is_some o then k ∷ [] else []) none in
    let parents = absent (codes "memberOfTypes") (lacks (codes "memberOfTypes") refl refl) in
    let shape = absent (codes "shape") (lacks (codes "shape") refl refl) in
    let tags = absent (codes "tags") (lacks (codes "tags") refl refl) in (
      at_field AreChoices (codes "enum") (fs ++ notes a) (all_of string (elements choices)) choices (not_behind (codes "enum") fs (notes a) (notes-other (codes "enum") a refl)) (texts_written (elements choices)),
      (λ i. (parents i ++ shape i) ++ tags i),
    )

pub entity_written : (e : EntityType RawName) → WritableEntity e → IsEntityType (entity_json e) (entity_unplaced e)
entity_written e writable = (
  keyed_object entity_keys (kind_fields e.kind ++ notes e.annotations) (within-append entity_keys (kind_fields e.kind) (notes e.annotations) (kind_within e.kind) (within-any entity_keys (codes "annotations") annotations_json _ refl)),
  kind_written e.kind e.annotations writable.0,
  noted (kind_fields e.kind) e.annotations (kind-notes e.kind) writable.1,
  refl,
)

-- ---- actions

pub parent_written : (a : ActionEntityUID RawName over_raw) → IsParent (parent_json a) (parent_unplaced a)
parent_written a =
    let id = (codes "id", string a.id) ∷ [] in
    let ty = if_some (codes "type") name_json (type_in a) in (
      keyed_object parent_keys (id ++ ty) (refl, within-some parent_keys (codes "type") name_json (type_in a) refl),
      at_field IsText (codes "id") (id ++ ty) (string a.id) a.id (not_behind (codes "id") id ty (some-other (codes "id") (codes "type") name_json (type_in a) refl)) refl,
      may_have_field (OrNull IsName) (codes "type") Nothing (id ++ ty) (field_at (codes "type") ty) (option_map name_unplaced (type_in a)) (not_before (codes "type") id ty refl) (null_or_some name_json name_unplaced IsName (λ n. Unit {0}) (λ n _. name_written n) (codes "type") (type_in a) (always (type_in a))),
    )

pub apply_written : (a : ApplySpec RawName) → WritableApply a → IsApplySpec (apply_json a) (apply_unplaced a)
apply_written a writable =
    let front = (codes "resourceTypes", names_json a.resource_types) ∷ (codes "principalTypes", names_json a.principal_types) ∷ [] in
    let context = shape_at (codes "context") a.context in
    let other = λ (k : List ℕ) (apart : bytes_eq k (codes "context") ≡ false). not_behind k front context (unless-other k (is_empty_type (type_of_shape a.context)) (codes "context") (type_json (type_of_shape a.context)) apart) in (
      keyed_object apply_keys (front ++ context) (refl, (refl, within-unless apply_keys (is_empty_type (type_of_shape a.context)) (codes "context") (type_json (type_of_shape a.context)) refl)),
      at_field (ArrayOf IsName) (codes "resourceTypes") (front ++ context) (names_json a.resource_types) (map name_unplaced a.resource_types) (other (codes "resourceTypes") refl) (list_written a.resource_types),
      at_field (ArrayOf IsName) (codes "principalTypes") (front ++ context) (names_json a.principal_types) (map name_unplaced a.principal_types) (other (codes "principalTypes") refl) (list_written a.principal_types),
      shape_written (codes "context") (front ++ context) a.context writable (not_before (codes "context") front context refl),
    )

parents_written : (ps : List (ActionEntityUID RawName over_raw)) → ArrayOf IsParent (all_of parent_json ps) (map parent_unplaced ps)
parents_written = array_written parent_json parent_unplaced IsParent parent_written

option-id : (o : Option ValueMap) → option_map (λ (m : ValueMap). m) o ≡ o
option-id None = refl
option-id (Some m) = refl

module _ (a : ActionType RawName over_raw) where
  abbrev values : List Field
  values = if_some (codes "attributes") values_json a.attributes

  abbrev applies : List Field
  applies = if_some (codes "appliesTo") apply_json a.applies_to

  abbrev members : List Field
  members = if_some (codes "memberOf") (all_of parent_json) a.member_of

  abbrev action_fields : List Field
  action_fields = values ++ (applies ++ members)

  values-other : (k : List ℕ) → bytes_eq k (codes "attributes") ≡ false → field_at k values ≡ None
  values-other k other = some-other k (codes "attributes") values_json a.attributes other

  applies-other : (k : List ℕ) → bytes_eq k (codes "appliesTo") ≡ false → field_at k applies ≡ None
  applies-other k other = some-other k (codes "appliesTo") apply_json a.applies_to other

  members-other : (k : List ℕ) → bytes_eq k (codes "memberOf") ≡ false → field_at k members ≡ None
  members-other k other = some-other k (codes "memberOf") (all_of parent_json) a.member_of other

  regrouped : values ++ (applies ++ (members ++ notes a.annotations)) ≡ action_fields ++ notes a.annotations
  regrouped = sym (append_assoc values (applies ++ members) (notes a.annotations) ∙ ap (λ fs. values ++ fs) (append_assoc applies members (notes a.annotations)))

  action_within : Within action_keys (action_fields ++ notes a.annotations)
  action_within =
      within-append action_keys action_fields (notes a.annotations)
      (within-append action_keys values (applies ++ members) (within-some action_keys (codes "attributes") values_json a.attributes refl)
      (within-append action_keys applies members (within-some action_keys (codes "appliesTo") apply_json a.applies_to refl) (within-some action_keys (codes "memberOf") (all_of parent_json) a.member_of refl)))
      (within-any action_keys (codes "annotations") annotations_json _ refl)

  values_at : IfSome a.attributes WritableValues → OrAbsent Nothing (OrNull (ValuesShape (ValuePart 129))) (field_at (codes "attributes") values) a.attributes
  values_at writable =
      subst (λ o. OrAbsent Nothing (OrNull (ValuesShape (ValuePart 129))) (field_at (codes "attributes") values) o) (option-id a.attributes)
      (null_or_some values_json (λ (m : ValueMap). m) (ValuesShape (ValuePart 129)) WritableValues values_written (codes "attributes") a.attributes writable)

  action_fields_written : WritableAction a → IsAction (object_of (action_fields ++ notes a.annotations)) (action_unplaced a)
  action_fields_written writable =
      let fs = action_fields ++ notes a.annotations in
      let front = λ (k : List ℕ) (other : bytes_eq k (codes "annotations") ≡ false). not_behind k action_fields (notes a.annotations) (notes-other k a.annotations other) in
      let at_values = front (codes "attributes") refl ∙ not_behind (codes "attributes") values (applies ++ members) (in_neither (codes "attributes") applies members (applies-other (codes "attributes") refl) (members-other (codes "attributes") refl)) in
      let at_applies = front (codes "appliesTo") refl ∙ not_before (codes "appliesTo") values (applies ++ members) (values-other (codes "appliesTo") refl) ∙ not_behind (codes "appliesTo") applies members (members-other (codes "appliesTo") refl) in
      let at_members = front (codes "memberOf") refl ∙ not_before (codes "memberOf") values (applies ++ members) (values-other (codes "memberOf") refl) ∙ not_before (codes "memberOf") applies members (applies-other (codes "memberOf") refl) in
      let no_notes = in_neither (codes "annotations") values (applies ++ members) (values-other (codes "annotations") refl) (in_neither (codes "annotations") applies members (applies-other (codes "annotations") refl) (members-other (codes "annotations") refl)) in (
        keyed_object action_keys fs action_within,
        may_have_field (OrNull (ValuesShape (ValuePart 129))) (codes "attributes") Nothing fs (field_at (codes "attributes") values) a.attributes at_values (values_at writable.0),
        may_have_field (OrNull IsApplySpec) (codes "appliesTo") Nothing fs (field_at (codes "appliesTo") applies) (option_map apply_unplaced a.applies_to) at_applies (null_or_some apply_json apply_unplaced IsApplySpec WritableApply apply_written (codes "appliesTo") a.applies_to writable.1),
        may_have_field (OrNull (ArrayOf IsParent)) (codes "memberOf") Nothing fs (field_at (codes "memberOf") members) (option_map (map parent_unplaced) a.member_of) at_members (null_or_some (all_of parent_json) (map parent_unplaced) (ArrayOf IsParent) (λ ps. Unit {0}) (λ ps _. parents_written ps) (codes "memberOf") a.member_of (always a.member_of)),
        noted action_fields a.annotations no_notes writable.2,
        refl,
      )

  pub action_written : WritableAction a → IsAction (action_json a) (action_unplaced a)
  action_written writable = subst (λ fs. IsAction (object_of fs) (action_unplaced a)) (sym regrouped) (action_fields_written writable)
