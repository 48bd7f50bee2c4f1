-- SPDX-License-Identifier: Apache-2.0
-- Values of attributes of actions have no places: those that are equal are the same.
use denote.Enum.Compared.{Each, by}
use denote.Enum.Declared.{Choice}
use mathlib.Core.Bool.{beq, true≢false}
use mathlib.Core.Logic.{inl, inr}
use Rattle.std.specs.Prelude.{ℕ, Bool, true, false, ◌&&◌, List, [], ◌∷◌, nat_eq, map}
use Rattle.std.specs.Cmp.{IsEquivalence, first_so, second_so, signed_Decides}
use Rattle.std.specs.Cmp.Lexicographic.{pointwise, bytes_decides}
use Rattle.std.specs.Ordering.{int_eq}
use Rattle.std.proofs.Common.{◌≡◌, refl, ap, ◌∙◌, sym, subst}
use Rattle.cedar_data.specs.Maps.{map_values}
use Rattle.cedar_types.specs.declared.value.CedarValueJson.{CedarValueJson, map-CedarValueJson, roll-CedarValueJson}
use Rattle.cedar_types.specs.declared.value.CedarValueJson.TheOpen as layer
use Rattle.cedar_types.specs.declared.value.CedarValueJson.TheOpen.{CedarValueJson-F, ValueList-F, ValueMap-F}
use Rattle.cedar_types.specs.declared.value.ValueList.{ValueList, map-ValueList, out-ValueList, out-roll-ValueList, roll-ValueList, roll-out-ValueList}
use Rattle.cedar_types.specs.declared.value.ValueMap.{ValueMap, ind-ValueMap, map-ValueMap, out-ValueMap, out-roll-ValueMap, roll-ValueMap, roll-out-ValueMap}
use Rattle.cedar_types.specs.contracts.value.CedarValueJson as value_row
use Rattle.cedar_types.specs.contracts.value.CedarValueJsonPartialEq.TheImpl as value_eqs
use Rattle.cedar_types.specs.contracts.value.CedarValueJsonPartialEq.TheImpl.Laws as value_laws
use Rattle.cedar_types.specs.contracts.value.ValueListPartialEq.TheImpl as list_eqs
use Rattle.cedar_types.specs.contracts.value.ValueListPartialEq.TheImpl.Laws as list_laws
use Rattle.cedar_types.specs.contracts.value.ValueMapPartialEq.TheImpl as map_eqs
use Rattle.cedar_types.specs.contracts.value.ValueMapPartialEq.TheImpl.Laws as map_laws
use Rattle.cedar_types.specs.contracts.value.ValueMapEq.TheImpl.Laws as map_equivalence
use Rattle.cedar_comparing.specs.Comparing.{GoesBy}
use Rattle.cedar_comparing.proofs.Parts.{bools_alone}
use Rattle.cedar_comparing.proofs.Variants.{IsAlike, alike}

abbrev value_eq : CedarValueJson → CedarValueJson → Bool
value_eq = value_eqs.ghosts.eq

abbrev list_eq : ValueList → ValueList → Bool
list_eq = list_eqs.ghosts.eq

abbrev pub map_eq : ValueMap → ValueMap → Bool
map_eq = map_eqs.ghosts.eq

abbrev ValueChoice : Type 0
ValueChoice = Choice value_row.the_parts

abbrev value_tests : Each Bool value_row.the_parts
value_tests = (λ x y. map_eq x.0 y.0, (λ x y. map_eq x.0 y.0, (λ x y. map_eq x.0 y.0, (λ x y. beq x.0 y.0, (λ x y. int_eq x.0 y.0, (λ x y. pointwise nat_eq x.0 y.0, (λ x y. list_eq x.0 y.0, (λ x y. map_eq x.0 y.0, (λ x y. true, tt)))))))))

by_values : (v w : CedarValueJson) → value_eq v w ≡ by false false value_row.the_parts value_tests (value_row.as_values v) (value_row.as_values w)
by_values v w = value_laws.is v w

alike_values : (c : ValueChoice) (w : CedarValueJson) → value_eq (value_row.the_make c) w ≡ true → IsAlike value_row.the_parts value_tests (λ e. e) c (value_row.as_values w)
alike_values c w h = alike value_row.the_parts value_tests (λ e. e) c (value_row.as_values w)
    ((λ i. by false false value_row.the_parts value_tests (sym (value_row.the_beta c) i) (value_row.as_values w)) ∙ sym (by_values (value_row.the_make c) w) ∙ h)

value_of : (w : CedarValueJson) (c : ValueChoice) → value_row.as_values w ≡ c → value_row.the_make c ≡ w
value_of w c is = sym (ap value_row.the_make is) ∙ value_row.the_eta w

lists_made : (vs ws : List CedarValueJson) → list_eq (roll-ValueList (record { items = vs })) (roll-ValueList (record { items = ws })) ≡ pointwise value_eq vs ws
lists_made vs ws = list_laws.is (roll-ValueList (record { items = vs })) (roll-ValueList (record { items = ws }))
    ∙ (λ i. pointwise value_eq (out-roll-ValueList (record { items = vs }) i).items (out-roll-ValueList (record { items = ws }) i).items)

abbrev entry_eq : List ℕ × CedarValueJson → List ℕ × CedarValueJson → Bool
entry_eq p q = pointwise nat_eq p.0 q.0 && value_eq p.1 q.1

maps_made : (es fs : List (List ℕ × CedarValueJson)) → map_eq (roll-ValueMap (record { map = es })) (roll-ValueMap (record { map = fs })) ≡ pointwise entry_eq es fs
maps_made es fs = map_laws.is (roll-ValueMap (record { map = es })) (roll-ValueMap (record { map = fs }))
    ∙ (λ i. pointwise entry_eq (out-roll-ValueMap (record { map = es }) i).map (out-roll-ValueMap (record { map = fs }) i).map)

-- ---- what is equal is the same

abbrev OneValue : Type 0
OneValue = (v : CedarValueJson) × ((w : CedarValueJson) → value_eq v w ≡ true → v ≡ w)

abbrev OneList : Type 0
OneList = (l : ValueList) × ((m : ValueList) → list_eq l m ≡ true → l ≡ m)

abbrev OneMap : Type 0
OneMap = (m : ValueMap) × ((n : ValueMap) → map_eq m n ≡ true → m ≡ n)

abbrev opened : CedarValueJson-F OneValue OneList OneMap → CedarValueJson-F CedarValueJson ValueList ValueMap
opened = map-CedarValueJson OneValue OneList OneMap CedarValueJson ValueList ValueMap (λ e. e.0) (λ e. e.0) (λ e. e.0)

abbrev list_opened : ValueList-F OneValue OneList OneMap → ValueList-F CedarValueJson ValueList ValueMap
list_opened = map-ValueList OneValue OneList OneMap CedarValueJson ValueList ValueMap (λ e. e.0) (λ e. e.0) (λ e. e.0)

abbrev map_opened : ValueMap-F OneValue OneList OneMap → ValueMap-F CedarValueJson ValueList ValueMap
map_opened = map-ValueMap OneValue OneList OneMap CedarValueJson ValueList ValueMap (λ e. e.0) (λ e. e.0) (λ e. e.0)

one_value : (y : CedarValueJson-F OneValue OneList OneMap) (w : CedarValueJson) → value_eq (roll-CedarValueJson (opened y)) w ≡ true → roll-CedarValueJson (opened y) ≡ w
unfolding roll-CedarValueJson denote.Hole.Carrier.roll
one_value (layer.ExprEscape m) w h = let (n, is, same) = alike_values (inl (m.0, tt)) w h in ap (λ x. value_row.the_make (inl (x, tt))) (m.1 n.0 same) ∙ value_of w (inl n) is
one_value (layer.EntityEscape m) w h = let (n, is, same) = alike_values (inr (inl (m.0, tt))) w h in ap (λ x. value_row.the_make (inr (inl (x, tt)))) (m.1 n.0 same) ∙ value_of w (inr (inl n)) is
one_value (layer.ExtnEscape m) w h =
    let (n, is, same) = alike_values (inr (inr (inl (m.0, tt)))) w h in
    ap (λ x. value_row.the_make (inr (inr (inl (x, tt))))) (m.1 n.0 same) ∙ value_of w (inr (inr (inl n))) is
one_value (layer.Bool b) w h =
    let (c, is, same) = alike_values (inr (inr (inr (inl (b, tt))))) w h in
    ap (λ x. value_row.the_make (inr (inr (inr (inl (x, tt)))))) (bools_alone b c.0 same) ∙ value_of w (inr (inr (inr (inl c)))) is
one_value (layer.Long z) w h =
    let (c, is, same) = alike_values (inr (inr (inr (inr (inl (z, tt)))))) w h in
    ap (λ x. value_row.the_make (inr (inr (inr (inr (inl (x, tt))))))) ((signed_Decides z c.0).0 same) ∙ value_of w (inr (inr (inr (inr (inl c))))) is
one_value (layer.String t) w h =
    let (c, is, same) = alike_values (inr (inr (inr (inr (inr (inl (t, tt))))))) w h in
    ap (λ x. value_row.the_make (inr (inr (inr (inr (inr (inl (x, tt)))))))) ((bytes_decides t c.0).0 same) ∙ value_of w (inr (inr (inr (inr (inr (inl c)))))) is
one_value (layer.Set l) w h =
    let (c, is, same) = alike_values (inr (inr (inr (inr (inr (inr (inl (l.0, tt)))))))) w h in
    ap (λ x. value_row.the_make (inr (inr (inr (inr (inr (inr (inl (x, tt))))))))) (l.1 c.0 same) ∙ value_of w (inr (inr (inr (inr (inr (inr (inl c))))))) is
one_value (layer.Record m) w h =
    let (c, is, same) = alike_values (inr (inr (inr (inr (inr (inr (inr (inl (m.0, tt))))))))) w h in
    ap (λ x. value_row.the_make (inr (inr (inr (inr (inr (inr (inr (inl (x, tt)))))))))) (m.1 c.0 same) ∙ value_of w (inr (inr (inr (inr (inr (inr (inr (inl c)))))))) is
one_value layer.Null w h = let (c, is, same) = alike_values (inr (inr (inr (inr (inr (inr (inr (inr (inl tt))))))))) w h in value_of w (inr (inr (inr (inr (inr (inr (inr (inr (inl tt))))))))) is

items_alone : (vs : List OneValue) (ws : List CedarValueJson) → pointwise value_eq (map (λ e. e.0) vs) ws ≡ true → map (λ e. e.0) vs ≡ ws
items_alone [] [] h = refl
items_alone [] (w ∷ ws) h = absurd (true≢false (sym h))
items_alone (v ∷ vs) [] h = absurd (true≢false (sym h))
items_alone (v ∷ vs) (w ∷ ws) h =
    let first = v.1 w (first_so (value_eq v.0 w) (pointwise value_eq (map (λ e. e.0) vs) ws) h) in
    let later = items_alone vs ws (second_so (value_eq v.0 w) (pointwise value_eq (map (λ e. e.0) vs) ws) h) in
    λ i. first i ∷ later i

entries_alone : (es : List (List ℕ × OneValue)) (fs : List (List ℕ × CedarValueJson)) → pointwise entry_eq (map_values (λ e. e.0) es) fs ≡ true → map_values (λ e. e.0) es ≡ fs
entries_alone [] [] h = refl
entries_alone [] (f ∷ fs) h = absurd (true≢false (sym h))
entries_alone (e ∷ es) [] h = absurd (true≢false (sym h))
entries_alone (e ∷ es) (f ∷ fs) h =
    let first = first_so (entry_eq (e.0, e.1.0) f) (pointwise entry_eq (map_values (λ e. e.0) es) fs) h in
    let key = (bytes_decides e.0 f.0).0 (first_so (pointwise nat_eq e.0 f.0) (value_eq e.1.0 f.1) first) in
    let value = e.1.1 f.1 (second_so (pointwise nat_eq e.0 f.0) (value_eq e.1.0 f.1) first) in
    let later = entries_alone es fs (second_so (entry_eq (e.0, e.1.0) f) (pointwise entry_eq (map_values (λ e. e.0) es) fs) h) in
    λ i. (key i, value i) ∷ later i

one_list : (y : ValueList-F OneValue OneList OneMap) (m : ValueList) → list_eq (roll-ValueList (list_opened y)) m ≡ true → roll-ValueList (list_opened y) ≡ m
one_list y m h =
    let ws = (out-ValueList m).items in
    let items = items_alone y.items ws (sym (lists_made (map (λ e. e.0) y.items) ws) ∙ ap (list_eq (roll-ValueList (list_opened y))) (roll-out-ValueList m) ∙ h) in
    (λ i. roll-ValueList (record { items = items i })) ∙ roll-out-ValueList m

one_map : (y : ValueMap-F OneValue OneList OneMap) (n : ValueMap) → map_eq (roll-ValueMap (map_opened y)) n ≡ true → roll-ValueMap (map_opened y) ≡ n
one_map y n h =
    let fs = (out-ValueMap n).map in
    let entries = entries_alone y.map fs (sym (maps_made (map_values (λ e. e.0) y.map) fs) ∙ ap (map_eq (roll-ValueMap (map_opened y))) (roll-out-ValueMap n) ∙ h) in
    (λ i. roll-ValueMap (record { map = entries i })) ∙ roll-out-ValueMap n

maps_alone : (m n : ValueMap) → map_eq m n ≡ true → m ≡ n
maps_alone = ind-ValueMap (λ v. (w : CedarValueJson) → value_eq v w ≡ true → v ≡ w) (λ l. (m : ValueList) → list_eq l m ≡ true → l ≡ m) (λ m. (n : ValueMap) → map_eq m n ≡ true → m ≡ n)
    (λ x y is. subst (λ l. (w : CedarValueJson) → value_eq (roll-CedarValueJson l) w ≡ true → roll-CedarValueJson l ≡ w) is (one_value y))
    (λ x y is. subst (λ l. (m : ValueList) → list_eq (roll-ValueList l) m ≡ true → roll-ValueList l ≡ m) is (one_list y))
    (λ x y is. subst (λ l. (n : ValueMap) → map_eq (roll-ValueMap l) n ≡ true → roll-ValueMap l ≡ n) is (one_map y))

equivalence : IsEquivalence map_eq
equivalence = map_equivalence.laws-law

pub values_go : GoesBy map_eq (λ m. m)
values_go = record { itself = equivalence.refl; alone = maps_alone }
