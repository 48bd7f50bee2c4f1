-- SPDX-License-Identifier: Apache-2.0
-- A value is at most one value of an attribute of an action.
use Rattle.std.proofs.Common.{◌≡◌, ℕ, ℤ, zero, suc, Bool, true, is_some, if◌then◌else◌, List, codes, Some, None, refl, sym, ap, ◌∙◌, subst}
use Rattle.std.specs.Prelude.{⊤}
use Rattle.std.specs.Cmp.Lexicographic.{slice_cmp}
use Rattle.std.specs.Ordering.{nat_cmp}
use Rattle.serde_json.specs.Data.{Data, Items, Members, null, boolean, number, string, array, object}
use Rattle.serde_json.specs.Find.{get, as_array, as_object}
use Rattle.cedar_types.specs.Values.{members, list_values}
use Rattle.cedar_types.specs.declared.value.CedarValueJson.{CedarValueJson, out-CedarValueJson, roll-CedarValueJson, roll-out-CedarValueJson}
use Rattle.cedar_types.specs.declared.value.CedarValueJson.TheOpen as layer
use Rattle.cedar_types.specs.declared.value.ValueList.{ValueList, roll-ValueList, roll-out-ValueList}
use Rattle.cedar_types.specs.declared.value.ValueMap.{ValueMap, roll-ValueMap, roll-out-ValueMap}
use Rattle.cedar_json_types.specs.Shapes.{Entry}
use Rattle.cedar_json_values.specs.ActionValues.{IsLong, OneValue, ValueLayer, ValuePart, ValuesShape}
use Rattle.cedar_json_laws.proofs.OnceParts.{array_once, entry_once, flag_once, map_once, same_inside, text_key_once, text_once}

-- ---- a value is its layer

value_is : (v w : CedarValueJson) → out-CedarValueJson v ≡ out-CedarValueJson w → v ≡ w
value_is v w same = sym (roll-out-CedarValueJson v) ∙ ap roll-CedarValueJson same ∙ roll-out-CedarValueJson w

list_is : (l m : ValueList) → list_values l ≡ list_values m → l ≡ m
list_is l m same = sym (roll-out-ValueList l) ∙ ap roll-ValueList (λ i. record { items = same i }) ∙ roll-out-ValueList m

map_is : (m n : ValueMap) → members m ≡ members n → m ≡ n
map_is m n same = sym (roll-out-ValueMap m) ∙ ap roll-ValueMap (λ i. record { map = same i }) ∙ roll-out-ValueMap n

-- ---- a value, by its sort and what it holds

data Sort : Type 0 where
  nothing : Sort
  truth : Sort
  whole : Sort
  text : Sort
  row : Sort
  fields : Sort
  expression : Sort
  entity : Sort
  extension : Sort

abbrev Holds : Sort → Type 0
Holds nothing = ⊤
Holds truth = Bool
Holds whole = ℤ
Holds text = List ℕ
Holds row = ValueList
Holds fields = ValueMap
Holds expression = ValueMap
Holds entity = ValueMap
Holds extension = ValueMap

abbrev sort_of : OneValue → Sort
sort_of layer.Null = nothing
sort_of (layer.Bool b) = truth
sort_of (layer.Long z) = whole
sort_of (layer.String t) = text
sort_of (layer.Set l) = row
sort_of (layer.Record m) = fields
sort_of (layer.ExprEscape m) = expression
sort_of (layer.EntityEscape m) = entity
sort_of (layer.ExtnEscape m) = extension

abbrev held : (l : OneValue) → Holds (sort_of l)
held layer.Null = tt
held (layer.Bool b) = b
held (layer.Long z) = z
held (layer.String t) = t
held (layer.Set l) = l
held (layer.Record m) = m
held (layer.ExprEscape m) = m
held (layer.EntityEscape m) = m
held (layer.ExtnEscape m) = m

abbrev of_sort : (s : Sort) → Holds s → OneValue
of_sort nothing h = layer.Null
of_sort truth h = layer.Bool h
of_sort whole h = layer.Long h
of_sort text h = layer.String h
of_sort row h = layer.Set h
of_sort fields h = layer.Record h
of_sort expression h = layer.ExprEscape h
of_sort entity h = layer.EntityEscape h
of_sort extension h = layer.ExtnEscape h

is_of_sort : (l : OneValue) → of_sort (sort_of l) (held l) ≡ l
is_of_sort layer.Null = refl
is_of_sort (layer.Bool b) = refl
is_of_sort (layer.Long z) = refl
is_of_sort (layer.String t) = refl
is_of_sort (layer.Set l) = refl
is_of_sort (layer.Record m) = refl
is_of_sort (layer.ExprEscape m) = refl
is_of_sort (layer.EntityEscape m) = refl
is_of_sort (layer.ExtnEscape m) = refl

-- ---- the sort of a value in JSON

abbrev escape_at : Data → Sort
escape_at d = if is_some (get (codes "__expr") d) then expression else (if is_some (get (codes "__entity") d) then entity else (if is_some (get (codes "__extn") d) then extension else fields))

abbrev sort_at : Data → Sort
sort_at null = nothing
sort_at (boolean b) = truth
sort_at (number n) = whole
sort_at (string s) = text
sort_at (array ds) = row
sort_at (object ms) = escape_at (object ms)

long_sort : (d : Data) (z : ℤ) → IsLong d z → whole ≡ sort_at d
long_sort null z is = absurd (cc)
long_sort (boolean b) z is = absurd (cc)
long_sort (number n) z is = refl
long_sort (string s) z is = absurd (cc)
long_sort (array ds) z is = absurd (cc)
long_sort (object ms) z is = absurd (cc)

array_sort : (d : Data) (ds : Items) → as_array d ≡ Some ds → row ≡ sort_at d
array_sort null ds is = absurd (cc)
array_sort (boolean b) ds is = absurd (cc)
array_sort (number n) ds is = absurd (cc)
array_sort (string s) ds is = absurd (cc)
array_sort (array es) ds is = refl
array_sort (object ms) ds is = absurd (cc)

object_sort : (d : Data) (ms : Members) → as_object d ≡ Some ms → escape_at d ≡ sort_at d
object_sort null ms is = absurd (cc)
object_sort (boolean b) ms is = absurd (cc)
object_sort (number n) ms is = absurd (cc)
object_sort (string s) ms is = absurd (cc)
object_sort (array ds) ms is = absurd (cc)
object_sort (object ns) ms is = refl

expr_there : (d : Data) → is_some (get (codes "__expr") d) ≡ true → expression ≡ escape_at d
expr_there d has = sym (ap (λ b. if b then expression else (if is_some (get (codes "__entity") d) then entity else (if is_some (get (codes "__extn") d) then extension else fields))) has)

no_expr : (d : Data) → get (codes "__expr") d ≡ None → escape_at d ≡ (if is_some (get (codes "__entity") d) then entity else (if is_some (get (codes "__extn") d) then extension else fields))
no_expr d none = ap (λ o. if is_some o then expression else (if is_some (get (codes "__entity") d) then entity else (if is_some (get (codes "__extn") d) then extension else fields))) none

entity_there : (d : Data) → get (codes "__expr") d ≡ None → is_some (get (codes "__entity") d) ≡ true → entity ≡ escape_at d
entity_there d none has = sym (no_expr d none ∙ ap (λ b. if b then entity else (if is_some (get (codes "__extn") d) then extension else fields)) has)

no_entity : (d : Data) → get (codes "__expr") d ≡ None → get (codes "__entity") d ≡ None → escape_at d ≡ (if is_some (get (codes "__extn") d) then extension else fields)
no_entity d first second = no_expr d first ∙ ap (λ o. if is_some o then entity else (if is_some (get (codes "__extn") d) then extension else fields)) second

extn_there : (d : Data) → get (codes "__expr") d ≡ None → get (codes "__entity") d ≡ None → is_some (get (codes "__extn") d) ≡ true → extension ≡ escape_at d
extn_there d first second has = sym (no_entity d first second ∙ ap (λ b. if b then extension else fields) has)

no_escape : (d : Data) → get (codes "__expr") d ≡ None → get (codes "__entity") d ≡ None → get (codes "__extn") d ≡ None → fields ≡ escape_at d
no_escape d first second third = sym (no_entity d first second ∙ ap (λ o. if is_some o then extension else fields) third)

-- ---- values

module _ (Part : Data → CedarValueJson → Type 0) (once : (d : Data) (v w : CedarValueJson) → Part d v → Part d w → v ≡ w) where
  pub values_once : (d : Data) (m n : ValueMap) → ValuesShape Part d m → ValuesShape Part d n → m ≡ n
  values_once d m n x y = map_is m n (map_once (Entry (λ k t. t ≡ k) Part) (entry_once (λ k t. t ≡ k) Part text_key_once once) (slice_cmp nat_cmp) d (members m) (members n) x y)

  sort_known : (left : ℕ) (d : Data) (l : OneValue) → ValueLayer left Part d l → sort_of l ≡ sort_at d
  sort_known left d layer.Null is = ap sort_at (sym is)
  sort_known left d (layer.Bool b) is = ap sort_at (sym is)
  sort_known left d (layer.Long z) is = long_sort d z is
  sort_known left d (layer.String t) is = ap sort_at (sym is)
  sort_known left d (layer.Set l) is = array_sort d is.1.0 is.1.1
  sort_known left d (layer.Record m) is = no_escape d is.1.1.1.0 is.1.1.1.1.0 is.1.1.1.1.1.0 ∙ object_sort d is.1.2.0 is.1.2.1
  sort_known left d (layer.ExprEscape m) is = expr_there d is.1.1.1 ∙ object_sort d is.1.2.0 is.1.2.1
  sort_known left d (layer.EntityEscape m) is = entity_there d is.1.1.1.0 is.1.1.2 ∙ object_sort d is.1.2.0 is.1.2.1
  sort_known left d (layer.ExtnEscape m) is = extn_there d is.1.1.1.0 is.1.1.1.1.0 is.1.1.2 ∙ object_sort d is.1.2.0 is.1.2.1

  held_once : (left : ℕ) (s : Sort) (d : Data) (a b : Holds s) → ValueLayer left Part d (of_sort s a) → ValueLayer left Part d (of_sort s b) → a ≡ b
  held_once left nothing d a b x y = refl
  held_once left truth d a b x y = flag_once d a b x y
  held_once left whole d a b x y = same_inside a b (sym x ∙ y)
  held_once left text d a b x y = text_once d a b x y
  held_once left row d a b x y = list_is a b (array_once Part once d (list_values a) (list_values b) x.1 y.1)
  held_once left fields d a b x y = x.1.1.0 ∙ values_once d x.1.0 y.1.0 x.1.2 y.1.2 ∙ sym y.1.1.0
  held_once left expression d a b x y = x.1.1.0 ∙ values_once d x.1.0 y.1.0 x.1.2 y.1.2 ∙ sym y.1.1.0
  held_once left entity d a b x y = x.1.1.0 ∙ values_once d x.1.0 y.1.0 x.1.2 y.1.2 ∙ sym y.1.1.0
  held_once left extension d a b x y = x.1.1.0 ∙ values_once d x.1.0 y.1.0 x.1.2 y.1.2 ∙ sym y.1.1.0

  layer_once : (left : ℕ) (d : Data) (l m : OneValue) → ValueLayer left Part d l → ValueLayer left Part d m → l ≡ m
  layer_once left d l m x y =
      let same = sort_known left d l x ∙ sym (sort_known left d m y) in
      let here = λ (h : Holds (sort_of l)) (z : ValueLayer left Part d (of_sort (sort_of l) h)). ap (of_sort (sort_of l)) (held_once left (sort_of l) d (held l) h (subst (ValueLayer left Part d) (sym (is_of_sort l)) x) z) in
      let there = subst (λ s. (h : Holds s) → ValueLayer left Part d (of_sort s h) → of_sort (sort_of l) (held l) ≡ of_sort s h) same here in
      sym (is_of_sort l) ∙ there (held m) (subst (ValueLayer left Part d) (sym (is_of_sort m)) y) ∙ is_of_sort m

pub value_once : (left : ℕ) (d : Data) (v w : CedarValueJson) → ValuePart left d v → ValuePart left d w → v ≡ w
unfolding ValuePart
value_once zero d v w x y = absurd x
value_once (suc left) d v w x y = value_is v w (layer_once (ValuePart left) (value_once left) left d (out-CedarValueJson v) (out-CedarValueJson w) x y)
