-- SPDX-License-Identifier: Apache-2.0
-- What is written of the values of attributes of actions is read as those values.
use Rattle.std.proofs.Common.{◌≡◌, ◌^◌, ℕ, zero, suc, ℤ, pos, negsuc, Bool, true, false, ◌||◌, is_some, if◌then◌else◌, List, [], ◌∷◌, map, codes, Option, Some, None, refl, sym, ap, ◌∙◌, subst}
use Rattle.std.proofs.lemmas.Bool.{lt-ltb}
use Rattle.std.proofs.lemmas.Map.Made.{keys_of-map_values}
use Rattle.std.specs.Cmp.Lexicographic.{slice_cmp}
use Rattle.std.specs.List.{AllByRecursion}
use Rattle.std.specs.Map.{keys_of}
use Rattle.std.specs.Option.{option_or}
use Rattle.std.specs.Ordering.{nat_cmp}
use Rattle.std.specs.Str.{bytes_eq}
use Rattle.serde_json.specs.Data.{Data, Items, array, number}
use Rattle.serde_json.specs.Find.{get, of_integer}
use Rattle.serde_json.specs.View.{items_of}
use Rattle.cedar_data.specs.Maps.{map_values}
use Rattle.cedar_text.specs.Words.{has_word}
use Rattle.cedar_types.specs.Values.{list_values, members}
use Rattle.cedar_types.specs.declared.value.CedarValueJson.{CedarValueJson, out-CedarValueJson, map-CedarValueJson, fold_out-CedarValueJson}
use Rattle.cedar_types.specs.declared.value.CedarValueJson.TheOpen as one
use Rattle.cedar_types.specs.declared.value.ValueList.{ValueList}
use Rattle.cedar_types.specs.declared.value.ValueMap.{ValueMap}
use Rattle.cedar_json_types.specs.Shapes.{ArrayOf, EachItem, Entry, MapOf}
use Rattle.cedar_json_values.specs.ActionValues.{Has, IsLong, OneValue, ValueLayer, ValuePart, ValuesShape}
use Rattle.cedar_json_write.specs.Written.{Field, Fields, each_at, list_items, list_step, map_fields, map_step, object_of, value_json, value_step, values_json}
use Rattle.cedar_json_write.proofs.Parts.{list_items-is, map_fields-is}
use Rattle.cedar_json_written_laws.specs.Writable.{Fits, IsEscapeOf, HasName, LacksName, WritableMembers, WritableOne, WritableValue, WritableValues}
use Rattle.cedar_json_written_laws.proofs.Fields.{field_at, get_field}
use Rattle.cedar_json_written_laws.proofs.Ordered.{AllWritten, map_written}

-- ---- which names there are

either_some : (a : Option Data) (b : Bool) (d : Data) → is_some (option_or a (if b then Some d else None)) ≡ (b || is_some a)
either_some None true d = refl
either_some None false d = refl
either_some (Some e) true d = refl
either_some (Some e) false d = refl

-- a field is at a key where the key is one of theirs
some_at : (k : List ℕ) (fs : List Field) → is_some (field_at k fs) ≡ has_word (keys_of fs) k
some_at k [] = refl
some_at k (f ∷ fs) = either_some (field_at k fs) (bytes_eq k f.0) f.1 ∙ ap (λ b. bytes_eq k f.0 || b) (some_at k fs)

none_some : (o : Option Data) → is_some o ≡ false → o ≡ None
none_some None is = refl
none_some (Some d) is = absurd (cc)

some_of : (k : List ℕ) (m : ValueMap) → is_some (get k (values_json m)) ≡ has_word (keys_of (members m)) k
some_of k m =
    ap (λ fs. is_some (get k (object_of fs))) (map_fields-is m) ∙ ap is_some (get_field k (map_values value_json (members m)))
    ∙ some_at k (map_values value_json (members m)) ∙ ap (λ ks. has_word ks k) (keys_of-map_values value_json (members m))

named_there : (k : List ℕ) (m : ValueMap) → HasName m k → Has k (values_json m)
named_there k m names = some_of k m ∙ names

spared_there : (k : List ℕ) (m : ValueMap) → LacksName m k → get k (values_json m) ≡ None
spared_there k m spares = none_some (get k (values_json m)) (some_of k m ∙ spares)

-- ---- numbers

long_written : (z : ℤ) → Fits z → IsLong (number (of_integer z)) z
long_written (pos n) fits = ap (λ (b : Bool). if b then Some (pos n) else None) (lt-ltb n (2 ^ 63) fits)
long_written (negsuc n) fits = refl

-- ---- arrays and objects

map_values-id : (es : List (List ℕ × CedarValueJson)) → map_values {K = List ℕ} {V = CedarValueJson} {W = CedarValueJson} (λ v. v) es ≡ es
map_values-id [] = refl
map_values-id (e ∷ es) = ap (λ (l : List (List ℕ × CedarValueJson)). e ∷ l) (map_values-id es)

abbrev layer_json : OneValue → Data
layer_json l = value_step (map-CedarValueJson CedarValueJson ValueList ValueMap Data Items Fields value_json list_items map_fields l)

value_json-is : (v : CedarValueJson) → value_json v ≡ layer_json (out-CedarValueJson v)
value_json-is v = fold_out-CedarValueJson Data Items Fields value_step list_step map_step v

module _ (Part : Data → CedarValueJson → Type 0) (Inside : CedarValueJson → Type 0) (written : (v : CedarValueJson) → Inside v → Part (value_json v) v) where
  all_values : (es : List (List ℕ × CedarValueJson)) → AllByRecursion {X = List ℕ × CedarValueJson} (λ e. Inside e.1) es → AllWritten (λ (k : List ℕ). k) value_json (λ (v : CedarValueJson). v) (Entry (λ k t. t ≡ k) Part) es
  all_values [] all = tt
  all_values (e ∷ es) all = ((refl, written e.1 all.0), all_values es all.1)

  pub members_written : (m : ValueMap) → WritableMembers Inside m → ValuesShape Part (values_json m) m
  members_written m writable =
      let made = map_written (λ (k : List ℕ). k) value_json (λ (v : CedarValueJson). v) (Entry (λ k t. t ≡ k) Part) (members m) writable.0 (all_values (members m) writable.1) in
      subst (λ fs. ValuesShape Part (object_of fs) m) (sym (map_fields-is m))
      (subst (λ es. MapOf (slice_cmp nat_cmp) (Entry (λ k t. t ≡ k) Part) (each_at (λ k. k) value_json (members m)) es) (map_values-id (members m)) made)

  items_written : (vs : List CedarValueJson) → AllByRecursion Inside vs → EachItem Part (items_of (map value_json vs)) vs
  items_written [] all = tt
  items_written (v ∷ vs) all = (written v all.0, items_written vs all.1)

  list_written : (l : ValueList) → AllByRecursion Inside (list_values l) → ArrayOf Part (array (list_items l)) (list_values l)
  list_written l all = subst (λ ds. ArrayOf Part (array ds) (list_values l)) (sym (list_items-is l)) (items_of (map value_json (list_values l)), refl, items_written (list_values l) all)

  layer_written : (left : ℕ) (l : OneValue) → IsEscapeOf l → WritableOne left Inside l → ValueLayer left Part (layer_json l) l
  layer_written left one.Null escape writable = refl
  layer_written left (one.Bool b) escape writable = refl
  layer_written left (one.Long z) escape writable = long_written z writable
  layer_written left (one.String t) escape writable = refl
  layer_written left (one.Set l) escape writable = (writable.0, list_written l writable.1)
  layer_written left (one.Record m) escape writable =
      (writable.0, (m, (refl, (spared_there (codes "__expr") m escape.0, (spared_there (codes "__entity") m escape.1, (spared_there (codes "__extn") m escape.2, tt)))), members_written m writable.1))
  layer_written left (one.ExprEscape m) escape writable = (writable.0, (m, (refl, named_there (codes "__expr") m escape), members_written m writable.1))
  layer_written left (one.EntityEscape m) escape writable =
      (writable.0, (m, (refl, (spared_there (codes "__expr") m escape.0, tt), named_there (codes "__entity") m escape.1), members_written m writable.1))
  layer_written left (one.ExtnEscape m) escape writable =
      (writable.0, (m, (refl, (spared_there (codes "__expr") m escape.0, (spared_there (codes "__entity") m escape.1, tt)), named_there (codes "__extn") m escape.2), members_written m writable.1))

value_written : (left : ℕ) (v : CedarValueJson) → WritableValue left v → ValuePart left (value_json v) v
unfolding ValuePart WritableValue
value_written zero v writable = absurd writable
value_written (suc left) v writable =
    subst (λ d. ValueLayer left (ValuePart left) d (out-CedarValueJson v)) (sym (value_json-is v))
    (layer_written (ValuePart left) (WritableValue left) (value_written left) left (out-CedarValueJson v) writable.0 writable.1)

-- the attributes of an action
pub values_written : (m : ValueMap) → WritableValues m → ValuesShape (ValuePart 129) (values_json m) m
values_written = members_written (ValuePart 129) (WritableValue 129) (value_written 129)
