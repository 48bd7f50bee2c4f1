-- SPDX-License-Identifier: Apache-2.0
-- Definitions by position among their names.
use Rattle.std.proofs.Common.{◌≡◌, ℕ, ◌<◌, Bool, true, false, ◌||◌, cond, List, [], ◌∷◌, Option, Some, None, length, get_or, zero, suc, All, Contains, refl, sym, ap, ◌∙◌, subst, arith}
use Rattle.std.proofs.lemmas.Cmp.{eq_by_cmp_equiv}
use Rattle.std.proofs.lemmas.List.{get_or-map, length-map}
use Rattle.std.proofs.lemmas.List.Elements.{Contains-get_or, All-map, Contains-append_right}
use Rattle.std.proofs.lemmas.List.Quantifiers.{position-Some}
use Rattle.std.proofs.lemmas.Map.Keys.{IsDistinct-from_sorted}
use Rattle.std.proofs.lemmas.Map.Views.{lookup-from_Contains}
use Rattle.std.proofs.lemmas.Option.{none-some}
use Rattle.std.specs.BTreeMap.{is_at}
use Rattle.std.specs.Cmp.{IsTotalOrder}
use Rattle.std.specs.List.{list_any, filter_map, cons_option, position_or_len}
use Rattle.std.specs.List.Sorted.{IsStrictlySortedBy}
use Rattle.std.specs.Map.{keys_of, lookup}
use Rattle.cedar_types.proofs.of_closure.KeyChains.{place-known}
use Rattle.cedar_types.proofs.of_closure.PlaceLemmas.{equal_from_is_eq}
use Rattle.cedar_types.specs.of_closure.Marks.{LeadWithin}
use Rattle.cedar_data.specs.Maps.{get}
use Rattle.cedar_names.proofs.NameOrder.{words_cmp-equal}
use Rattle.cedar_names.specs.Order.{words_cmp}
use Rattle.cedar_names.specs.OrderLaws.{words-total}
use Rattle.cedar_schema_error.specs.FullNames.{FullName}
use Rattle.cedar_unfold.specs.Rows.{row_of, written_rows}
use Rattle.cedar_unfold.specs.Tables.{place_of}
use Rattle.cedar_unfolding.specs.Written.{Written, Boolean, common_references}

-- names in order
pub names_total : IsTotalOrder words_cmp
names_total = words-total (λ n. n)

-- names that are equal in their order are the same
pub same_name : (a b : FullName) → is_at (words_cmp a) b ≡ true → a ≡ b
same_name a b h = (words_cmp-equal a b).0 (equal_from_is_eq (words_cmp a b) h)

pub at_itself : (a : FullName) → is_at (words_cmp a) a ≡ true
at_itself a = (eq_by_cmp_equiv names_total).refl a

-- a name that is found is one of the names
pub found-contains : {X : Type 0} (test : FullName → Bool) (es : List (FullName × X)) (x : X) → lookup test es ≡ Some x → list_any test (keys_of es) ≡ true
found-contains test [] x is = absurd (none-some x is)
found-contains test (e ∷ es) x is = by_test (found-contains test es x) (test e.0) is where
  by_test : (lookup test es ≡ Some x → list_any test (keys_of es) ≡ true) → (b : Bool) → cond b (Some e.1) (lookup test es) ≡ Some x → (b || list_any test (keys_of es)) ≡ true
  by_test later true is = refl
  by_test later false is = later is

-- what a filter gives of an item is there
pub filter-to : {X Y : Type 0} (f : X → Option Y) (xs : List X) (x : X) (y : Y) → Contains xs x → f x ≡ Some y → Contains (filter_map f xs) y
filter-to f [] x y (k, l, e) is = absurd (omega arith)
filter-to f (v ∷ xs) x y (zero, l, e) is = subst (λ o. Contains (cons_option o (filter_map f xs)) y) (sym (ap f e ∙ is)) (0, omega arith, refl)
filter-to f (v ∷ xs) x y (suc k, l, e) is = later (f v) (filter-to f xs x y (k, omega arith, e) is)
  where
    later : (o : Option _) → Contains (filter_map f xs) y → Contains (cons_option o (filter_map f xs)) y
    later None c = c
    later (Some w) c = Contains-append_right (w ∷ []) (filter_map f xs) y c

-- and what is there comes of an item
pub filter-from : {X Y : Type 0} (f : X → Option Y) (xs : List X) (y : Y) → Contains (filter_map f xs) y → (x : X) × Contains xs x × (f x ≡ Some y)
filter-from f [] y (k, l, is) = absurd (omega arith)
filter-from {X} {Y} f (x ∷ xs) y h = by (f x) refl h (filter-from f xs y)
  where
    by : (o : Option Y) → f x ≡ o → Contains (cons_option o (filter_map f xs)) y → (Contains (filter_map f xs) y → (z : X) × Contains xs z × (f z ≡ Some y)) → (z : X) × Contains (x ∷ xs) z × (f z ≡ Some y)
    by None is h rest = let (z, c, e) = rest h in (z, Contains-append_right (x ∷ []) xs z c, e)
    by (Some v) is (zero, l, e) rest = (x, (0, omega arith, refl), is ∙ ap Some e)
    by (Some v) is (suc k, l, e) rest = let (z, c, e') = rest (k, omega arith, e) in (z, Contains-append_right (x ∷ []) xs z c, e')

abbrev pub no_definition : FullName × Written FullName
no_definition = ([], Boolean)

module _ (definitions : List (FullName × Written FullName)) where
  abbrev names : List FullName
  names = keys_of definitions

  pub length_names : length names ≡ length definitions
  length_names = length-map definitions (λ e. e.0)

  pub length_rows : (ks : List FullName) → length (written_rows ks definitions) ≡ length definitions
  length_rows ks = length-map definitions (λ e. row_of ks e.1)

  -- the rows have positions of rows alone
  pub rows_within : LeadWithin (written_rows names definitions)
  rows_within = All-map (λ row. All (λ j. j < length (written_rows names definitions)) row) (λ e. row_of names e.1) definitions (λ k d l. row_within (common_references (get_or definitions k d).1)) where
    row_within : (rs : List FullName) → All (λ j. j < length (written_rows names definitions)) (filter_map (place_of names) rs)
    row_within rs k d l =
        let (r, c, p) = filter-from (place_of names) rs (get_or (filter_map (place_of names) rs) k d) (Contains-get_or (filter_map (place_of names) rs) k d l) in
        let inside = (position-Some (is_at (words_cmp r)) names (get_or (filter_map (place_of names) rs) k d) [] p).0 in
        omega (arith, inside, length_names, length_rows names)

  -- a name that is defined has its place
  pub placed : (name : FullName) (t : Written FullName) → get words_cmp definitions name ≡ Some t → place_of names name ≡ Some (position_or_len (is_at (words_cmp name)) names)
  placed name t defined = place-known names_total names name (found-contains (is_at (words_cmp name)) definitions t defined)

  pub at_place : (name : FullName) (j : ℕ) → place_of names name ≡ Some j → (j < length names) × (name ≡ get_or names j [])
  at_place name j is =
      let (inside, same, _) = position-Some (is_at (words_cmp name)) names j [] is in
      (inside, same_name name (get_or names j []) same)

  module _ (sorted : IsStrictlySortedBy words_cmp names) where
    own_value : (k : ℕ) (d : FullName × Written FullName) → k < length definitions → get words_cmp definitions (get_or definitions k d).0 ≡ Some (get_or definitions k d).1
    own_value k d l = lookup-from_Contains (eq_by_cmp_equiv names_total) (get_or definitions k d).0 (get_or definitions k d).1 definitions (IsDistinct-from_sorted words_cmp names sorted) (Contains-get_or definitions k d l)

    -- the definition at a position is that of the name there
    pub value_at : (i : ℕ) → i < length names → get words_cmp definitions (get_or names i []) ≡ Some (get_or definitions i no_definition).1
    value_at i l =
        let inside : i < length definitions = omega (arith, l, length_names) in
        ap (get words_cmp definitions) (get_or-map (λ e. e.0) definitions i no_definition [] inside) ∙ own_value i no_definition inside

  pub row : (ks : List FullName) (i : ℕ) → i < length definitions → get_or (written_rows ks definitions) i [] ≡ row_of ks (get_or definitions i no_definition).1
  row ks i l = get_or-map (λ e. row_of ks e.1) definitions i no_definition [] l
