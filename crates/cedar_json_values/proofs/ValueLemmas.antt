-- SPDX-License-Identifier: Apache-2.0
-- The steps of a value, in the form that the code has their parts.
use Rattle.std.proofs.Common.{◌≡◌, ℕ, ℤ, suc, List, [], ◌∷◌, codes, true, Bool, Some, None, refl, sym, subst, ap, ◌-◌, ◌<◌, arith, rules}
use Rattle.std.specs.Cmp.Lexicographic.{slice_cmp}
use Rattle.std.specs.Ordering.{nat_cmp}
use Rattle.serde_json.specs.Data.{Data, Items, Members, null, boolean, string, array, object}
use Rattle.serde_json.specs.Find.{as_array, as_object}
use Rattle.cedar_types.specs.Values.{members, list_values}
use Rattle.cedar_types.specs.declared.value.CedarValueJson.{CedarValueJson, out-CedarValueJson, the_lemmas}
use Rattle.cedar_types.specs.declared.value.CedarValueJson.TheVariants as value
use Rattle.cedar_types.specs.declared.value.CedarValueJson.TheOpen as layer
use Rattle.cedar_types.specs.declared.value.ValueList.{ValueList}
use Rattle.cedar_types.specs.declared.value.ValueMap.{ValueMap}
use Rattle.cedar_json_types.specs.Shapes.{ArrayOf, EachItem, Entry, Lacks, MapMembers}
use Rattle.cedar_json_values.specs.ActionValues.{Has, IsLong, IsMapped, MappedLayer, ObjectLayer, OneValue, ValueLayer, ValuePart, ValueShape, ValuesShape, layer_fault, value_fault}

-- ---- one level in

pub one_less : (left : ℕ) (d : Data) (v : CedarValueJson) → 0 < left → ValueShape (left - 1) d v → ValuePart left d v
one_less left d v some shape = subst (λ n. ValuePart n d v) (omega (arith, some)) shape

pub less_fault : (left : ℕ) (d : Data) → 0 < left → value_fault left d ≡ layer_fault (left - 1) (value_fault (left - 1)) d
unfolding value_fault
less_fault left d some = let deep : left ≡ suc (left - 1) = omega (arith, some) in ap (λ n. value_fault n d) deep

pub ruleset less = (one_less, less_fault)

-- ---- which object it is

is_mapped : (d : Data) (m : ValueMap) (v : CedarValueJson) (l : OneValue) → out-CedarValueJson v ≡ l → MappedLayer d l m → IsMapped d m v
unfolding IsMapped
is_mapped d m v l opened fits = subst (λ x. MappedLayer d x m) (sym opened) fits

pub expr_mapped : (d : Data) (m : ValueMap) → Has (codes "__expr") d → IsMapped d m (value.ExprEscape m)
expr_mapped d m has = is_mapped d m (value.ExprEscape m) (layer.ExprEscape m) (search (rules, the_lemmas)) (refl, has)

pub entity_mapped : (d : Data) (m : ValueMap) → Lacks (codes "__expr" ∷ []) d → Has (codes "__entity") d → IsMapped d m (value.EntityEscape m)
entity_mapped d m lacks has = is_mapped d m (value.EntityEscape m) (layer.EntityEscape m) (search (rules, the_lemmas)) (refl, lacks, has)

pub extn_mapped : (d : Data) (m : ValueMap) → Lacks (codes "__expr" ∷ codes "__entity" ∷ []) d → Has (codes "__extn") d → IsMapped d m (value.ExtnEscape m)
extn_mapped d m lacks has = is_mapped d m (value.ExtnEscape m) (layer.ExtnEscape m) (search (rules, the_lemmas)) (refl, lacks, has)

pub record_mapped : (d : Data) (m : ValueMap) → Lacks (codes "__expr" ∷ codes "__entity" ∷ codes "__extn" ∷ []) d → IsMapped d m (value.Record m)
record_mapped d m lacks = is_mapped d m (value.Record m) (layer.Record m) (search (rules, the_lemmas)) (refl, lacks)

pub ruleset mapped = (expr_mapped, entity_mapped, extn_mapped, record_mapped)

-- ---- values

made : (left : ℕ) (d : Data) (v : CedarValueJson) (l : OneValue) → out-CedarValueJson v ≡ l → ValueLayer left (ValuePart left) d l → ValueShape left d v
unfolding ValuePart
made left d v l opened fits = subst (λ x. ValueLayer left (ValuePart left) d x) (sym opened) fits

pub null_value : (left : ℕ) (d : Data) → d ≡ null → ValueShape left d value.Null
null_value left d is = made left d value.Null layer.Null (search (rules, the_lemmas)) is

pub bool_value : (left : ℕ) (d : Data) (b : Bool) → d ≡ boolean b → ValueShape left d (value.Bool b)
bool_value left d b is = made left d (value.Bool b) (layer.Bool b) (search (rules, the_lemmas)) is

pub long_value : (left : ℕ) (d : Data) (z : ℤ) → IsLong d z → ValueShape left d (value.Long z)
long_value left d z is = made left d (value.Long z) (layer.Long z) (search (rules, the_lemmas)) is

pub string_value : (left : ℕ) (d : Data) (t : List ℕ) → d ≡ string t → ValueShape left d (value.String t)
string_value left d t is = made left d (value.String t) (layer.String t) (search (rules, the_lemmas)) is

pub set_value : (left : ℕ) (d : Data) (ds : Items) (l : ValueList) → 0 < left → as_array d ≡ Some ds → EachItem (ValuePart left) ds (list_values l) → ValueShape left d (value.Set l)
set_value left d ds l some is each = made left d (value.Set l) (layer.Set l) (search (rules, the_lemmas)) (some, (ds, is, each))

object_layer : (left : ℕ) (d : Data) (m : ValueMap) (l : OneValue) → 0 < left → MappedLayer d l m → ValuesShape (ValuePart left) d m → ValueLayer left (ValuePart left) d l
object_layer left d m (layer.ExprEscape n) some is shape = (some, (m, is, shape))
object_layer left d m (layer.EntityEscape n) some is shape = (some, (m, is, shape))
object_layer left d m (layer.ExtnEscape n) some is shape = (some, (m, is, shape))
object_layer left d m (layer.Record n) some is shape = (some, (m, is, shape))
object_layer left d m layer.Null some is shape = absurd is
object_layer left d m (layer.Bool b) some is shape = absurd is
object_layer left d m (layer.Long z) some is shape = absurd is
object_layer left d m (layer.String t) some is shape = absurd is
object_layer left d m (layer.Set n) some is shape = absurd is

pub object_value : (left : ℕ) (d : Data) (ms : Members) (m : ValueMap) (v : CedarValueJson) → 0 < left → IsMapped d m v → as_object d ≡ Some ms → MapMembers (slice_cmp nat_cmp) (Entry (λ k t. t ≡ k) (ValuePart left)) ms (members m) → ValueShape left d v
unfolding ValuePart IsMapped
object_value left d ms m v some mapped is shape = object_layer left d m (out-CedarValueJson v) some mapped (ms, is, shape)

pub ruleset value_shapes = (null_value, bool_value, long_value, string_value, set_value, object_value)
