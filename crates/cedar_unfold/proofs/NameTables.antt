-- SPDX-License-Identifier: Apache-2.0
-- Maps by name, and names in order, as contracts see them.
use Rattle.std.proofs.Common.{◌≡◌, ◌+◌, Bool, true, false, cond, nat_lt, not, List, [], ◌∷◌, Option, Some, None, map, option_map, refl, sym, ap, ◌∙◌}
use Rattle.std.proofs.lemmas.List.{length-map}
use Rattle.std.specs.BTreeMap.{is_at, insert_entry}
use Rattle.std.specs.List.{AllByRecursion, prefix_len, position_or_len}
use Rattle.std.specs.List.Sorted.{IsStrictlySortedBy}
use Rattle.std.specs.Map.{keys_of, lookup}
use Rattle.std.specs.declared.cmp.Ordering.TheVariants.{Less}
use Rattle.cedar_types.specs.of_closure.Places.{place}
use Rattle.cedar_data.proofs.MapsMade.{map-insert_entry}
use Rattle.cedar_data.specs.Maps.{get}
use Rattle.cedar_names.specs.Components.{components}
use Rattle.cedar_names.specs.Names.{internal_cmp}
use Rattle.cedar_names.specs.Order.{words_cmp}
use Rattle.cedar_names.specs.declared.internal_name.InternalName.{InternalName}
use Rattle.cedar_schema_error.specs.FullNames.{FullName}
use Rattle.cedar_unfold.specs.Finished.{common_of, common_or_entity, entity_of, finished}
use Rattle.cedar_unfold.specs.Tables.{by_name, names_of, place_of, found_type, tabled}
use Rattle.cedar_unfolding.specs.Written.{Written, EntityOrCommon, CommonTypeRef}
use Rattle.cedar_unfold.specs.declared.nested.Nested.{Nested}
use Rattle.cedar_unfold.proofs.Puts.{put-here, put-other}

lookup-by_name : {V W : Type 0} (f : V → W) (test : FullName → Bool) (es : List (InternalName × V)) → lookup test (by_name f es) ≡ option_map f (lookup (λ k. test (components k)) es)
lookup-by_name f test [] = refl
lookup-by_name f test (e ∷ es) = by_test (lookup-by_name f test es) (test (components e.0)) where
  by_test : lookup test (by_name f es) ≡ option_map f (lookup (λ k. test (components k)) es) → (b : Bool)
      → cond b (Some (f e.1)) (lookup test (by_name f es)) ≡ option_map f (cond b (Some e.1) (lookup (λ k. test (components k)) es))
  by_test rest true = refl
  by_test rest false = rest

-- what a map has of a name
pub get-by_name : {V W : Type 0} (f : V → W) (es : List (InternalName × V)) (key : InternalName) → get words_cmp (by_name f es) (components key) ≡ option_map f (get internal_cmp es key)
get-by_name f es key = lookup-by_name f (is_at (words_cmp (components key))) es

pub keys_of-by_name : {V W : Type 0} (f : V → W) (es : List (InternalName × V)) → keys_of (by_name f es) ≡ names_of (keys_of es)
keys_of-by_name f [] = refl
keys_of-by_name f (e ∷ es) = ap (λ ks. components e.0 ∷ ks) (keys_of-by_name f es)

all-names : (k : InternalName) (ks : List InternalName) → AllByRecursion (λ j. internal_cmp k j ≡ Less) ks → AllByRecursion (λ n. words_cmp (components k) n ≡ Less) (names_of ks)
all-names k [] all = tt
all-names k (j ∷ ks) all = (all.0, all-names k ks all.1)

-- names in order have components in order
pub names-sorted : (ks : List InternalName) → IsStrictlySortedBy internal_cmp ks → IsStrictlySortedBy words_cmp (names_of ks)
unfolding IsStrictlySortedBy
names-sorted [] sorted = tt
names-sorted (k ∷ ks) sorted = (all-names k ks sorted.0, names-sorted ks sorted.1)

prefix_len-map : {X Y : Type 0} (f : X → Y) (p : Y → Bool) (xs : List X) → prefix_len p (map f xs) ≡ prefix_len (λ x. p (f x)) xs
prefix_len-map f p [] = refl
prefix_len-map f p (x ∷ xs) = ap (λ n. cond (p (f x)) (1 + n) 0) (prefix_len-map f p xs)

-- where a name stands
pub place-names : (keys : List InternalName) (name : InternalName) → place internal_cmp keys name ≡ place_of (names_of keys) (components name)
place-names keys name =
    let at : position_or_len (is_at (words_cmp (components name))) (names_of keys) ≡ position_or_len (is_at (internal_cmp name)) keys = prefix_len-map components (λ n. not (is_at (words_cmp (components name)) n)) keys in
    let long = length-map keys components in
    sym (λ i. cond (nat_lt (at i) (long i)) (Some (at i)) None)

-- what a table has of the name that was put in, and of others
pub tabled-here : (old new : List (InternalName × Option Nested)) (key : InternalName) (found : Option Nested) → new ≡ insert_entry internal_cmp old key found → tabled new (components key) ≡ Some (found_type found)
tabled-here old new key found put =
    ap (λ es. get words_cmp (by_name found_type es) (components key)) put
    ∙ ap (λ es. get words_cmp es (components key)) (map-insert_entry internal_cmp words_cmp components found_type (λ a b. refl) old key found)
    ∙ put-here (by_name found_type old) (components key) (found_type found)

pub tabled-other : (old new : List (InternalName × Option Nested)) (key : InternalName) (found : Option Nested) → new ≡ insert_entry internal_cmp old key found → (n : FullName) → is_at (words_cmp (components key)) n ≡ false → tabled new n ≡ tabled old n
tabled-other old new key found put n apart =
    ap (λ es. get words_cmp (by_name found_type es) n) put
    ∙ ap (λ es. get words_cmp es n) (map-insert_entry internal_cmp words_cmp components found_type (λ a b. refl) old key found)
    ∙ put-other (by_name found_type old) (components key) (found_type found) n apart

module _ (table : List (InternalName × Option Nested)) (name : InternalName) where
  -- what a table has of a name
  pub table_has : (entry : Option (Option Nested)) → entry ≡ get internal_cmp table name → tabled table (components name) ≡ option_map found_type entry
  table_has entry is = get-by_name found_type table name ∙ ap (option_map found_type) (sym is)

  -- what a table says of a name that may be that of a common type
  pub either-found : (t : Written FullName) (found : Option Nested) → t ≡ EntityOrCommon (components name) → Some found ≡ get internal_cmp table name → found_type found ≡ finished (tabled table) t
  either-found t found head is = sym (ap (λ o. common_or_entity o (components name)) (table_has (Some found) is)) ∙ ap (finished (tabled table)) (sym head)

  pub either-missing : (t : Written FullName) → t ≡ EntityOrCommon (components name) → None ≡ get internal_cmp table name → entity_of (components name) ≡ finished (tabled table) t
  either-missing t head is = sym (ap (λ o. common_or_entity o (components name)) (table_has None is)) ∙ ap (finished (tabled table)) (sym head)

  -- and of one that must be
  pub common-found : (t : Written FullName) (found : Option Nested) → t ≡ CommonTypeRef (components name) → Some found ≡ get internal_cmp table name → found_type found ≡ finished (tabled table) t
  common-found t found head is = sym (ap common_of (table_has (Some found) is)) ∙ ap (finished (tabled table)) (sym head)

  pub common-missing : (t : Written FullName) → t ≡ CommonTypeRef (components name) → None ≡ get internal_cmp table name → None ≡ finished (tabled table) t
  common-missing t head is = sym (ap common_of (table_has None is)) ∙ ap (finished (tabled table)) (sym head)

-- the type that a table has of a name
pub common_is : (table : List (InternalName × Option Nested)) (name : InternalName) (entry : Option (Option Nested)) → entry ≡ get internal_cmp table name → common_of (option_map found_type entry) ≡ common_of (tabled table (components name))
common_is table name entry is = sym (ap common_of (get-by_name found_type table name ∙ ap (option_map found_type) (sym is)))
