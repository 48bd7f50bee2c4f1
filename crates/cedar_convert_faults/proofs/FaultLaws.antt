-- SPDX-License-Identifier: Apache-2.0
-- Where no fault is found, the conditions hold, and the other way round.
use Rattle.std.proofs.Common.{◌≡◌, ℕ, Bool, true, false, ◌||◌, ◌&&◌, not, List, [], ◌∷◌, ◌++◌, cond, map, flat_map, bytes_eq, Option, Some, None, option_to_list, sym, ap, ◌∙◌, refl}
use Rattle.std.proofs.lemmas.Slice.Eq.{bytes_eq-Decides}
use Rattle.std.specs.List.{AllByRecursion, list_any}
use Rattle.cedar_text.specs.Words.{has_word}
use Rattle.cedar_text.specs.declared.node.Node.{Node}
use Rattle.cedar_convert_faults.specs.Bindings.{entity_names, action_names, common_names, names_in, repeated_name, declared_twice, reserved_namespace, binding_of}
use Rattle.cedar_tree.specs.Trees.{Path}
use Rattle.cedar_text.specs.Joining.{joined}
use Rattle.cedar_text.specs.Words.{is_cedar}
use Rattle.cedar_convert_errors.specs.declared.faults.ToJsonSchemaError.{ToJsonSchemaError}
use Rattle.cedar_convert_errors.specs.declared.faults.ToJsonSchemaError.TheVariants.{ReservedName}
use Rattle.cedar_convert_faults.specs.Conditions.{AreBound, IsUnreserved}
use Rattle.cedar_convert_faults.specs.Gathering.{Gathered}
use Rattle.cedar_convert_faults.specs.Lists.{first_found}
use Rattle.cedar_convert_faults.specs.Repeats.{Names, words_of, are_distinct, first_repeat, IsFirstRepeat}
use Rattle.cedar_convert_faults.specs.declared.repeats.Repeat.{Repeat}
use Rattle.cedar_convert_faults.proofs.FirstRepeats.{none_repeats, one_repeats}
use Rattle.cedar_text.proofs.Members.{map-append}

module _ {A : Type 0} where
  -- no step finds anything
  pub nothing_found : (steps : List (List A)) → first_found steps ≡ [] → AllByRecursion (λ s. s ≡ []) steps
  nothing_found [] e = tt
  nothing_found ([] ∷ steps) e = (refl, nothing_found steps e)
  nothing_found ((found ∷ more) ∷ steps) e = cc

  pub nothing_to_find : (steps : List (List A)) → AllByRecursion (λ s. s ≡ []) steps → first_found steps ≡ []
  nothing_to_find [] all = refl
  nothing_to_find ([] ∷ steps) all = nothing_to_find steps all.1
  nothing_to_find ((found ∷ more) ∷ steps) all = let e : found ∷ more ≡ [] = all.0 in cc

back_nil : {B : Type 0} (xs ys : List B) → xs ++ ys ≡ [] → (xs ≡ []) × (ys ≡ [])
back_nil [] ys e = (refl, e)
back_nil (x ∷ xs) ys e = cc

module _ {A B : Type 0} (f : A → List B) where
  -- no member gives anything
  pub each_nil : (xs : List A) → flat_map f xs ≡ [] → AllByRecursion (λ x. f x ≡ []) xs
  each_nil [] e = tt
  each_nil (x ∷ xs) e = let both = back_nil (f x) (flat_map f xs) e in (both.0, each_nil xs both.1)

  pub all_nil : (xs : List A) → AllByRecursion (λ x. f x ≡ []) xs → flat_map f xs ≡ []
  all_nil [] all = refl
  all_nil (x ∷ xs) all = ap (λ l. l ++ flat_map f xs) all.0 ∙ all_nil xs all.1

-- a word among others
among : (xs : List (List ℕ)) (w : List ℕ) (ys : List (List ℕ)) → has_word (xs ++ w ∷ ys) w ≡ true
among [] w ys = ap (λ b. b || has_word ys w) ((bytes_eq-Decides w w).1 refl)
among (x ∷ xs) w ys = by (bytes_eq w x) (among xs w ys)
  where
    by : (b : Bool) → has_word (xs ++ w ∷ ys) w ≡ true → (b || has_word (xs ++ w ∷ ys) w) ≡ true
    by true e = refl
    by false e = e

and_true : (a b : Bool) → (a && b) ≡ true → (a ≡ true) × (b ≡ true)
and_true true b e = (refl, e)
and_true false b e = cc

-- words of which one stands twice aren't distinct
pub twice : (xs ys zs : List (List ℕ)) (w : List ℕ) → are_distinct (xs ++ (w ∷ ys ++ w ∷ zs)) ≡ true → ⊥
twice [] ys zs w e =
    let fresh : not (has_word (ys ++ w ∷ zs) w) ≡ true = (and_true _ _ e).0 in
    let there : has_word (ys ++ w ∷ zs) w ≡ true = among ys w zs in
    let no : not true ≡ true = ap not (sym there) ∙ fresh in
    cc
twice (x ∷ xs) ys zs w e = twice xs ys zs w (and_true (not (has_word (xs ++ (w ∷ ys ++ w ∷ zs)) x)) _ e).1

words_split : (names : Names) (r : Repeat) (f : IsFirstRepeat names r) → words_of names ≡ words_of f.before ++ (r.name ∷ words_of f.between ++ r.name ∷ words_of f.after)
words_split names r f =
    let word : Node (List ℕ) → List ℕ = λ m. m.node in
    let first : Node (List ℕ) = record { node = r.name; loc = r.first } in
    let second : Node (List ℕ) = record { node = r.name; loc = r.second } in
    let split : names ≡ f.before ++ (first ∷ f.between ++ second ∷ f.after) = f.split in
    ap words_of split ∙ map-append word f.before (first ∷ f.between ++ second ∷ f.after) ∙ ap (λ l. words_of f.before ++ r.name ∷ l) (map-append word f.between (second ∷ f.after))

-- distinct names have no repeat
pub distinct_none : (names : Names) → are_distinct (words_of names) ≡ true → first_repeat names ≡ None
distinct_none names distinct = by (first_repeat names) refl
  where
    by : (r : Option Repeat) → first_repeat names ≡ r → r ≡ None
    by None e = refl
    by (Some r) e =
        let f = one_repeats [] names r refl e in
        absurd (twice (words_of f.before) (words_of f.between) (words_of f.after) r.name (ap are_distinct (sym (words_split names r f)) ∙ distinct))

-- a name declared twice is found exactly where names aren't distinct
pub none_twice : (names : Names) → repeated_name names ≡ [] → are_distinct (words_of names) ≡ true
none_twice names e = by (first_repeat names) refl e
  where
    by : (r : Option Repeat) → first_repeat names ≡ r → map declared_twice (option_to_list r) ≡ [] → are_distinct (words_of names) ≡ true
    by None is e = none_repeats [] names refl is
    by (Some r) is e = cc

pub distinct_names : (names : Names) → are_distinct (words_of names) ≡ true → repeated_name names ≡ []
distinct_names names distinct = ap (λ r. map declared_twice (option_to_list r)) (distinct_none names distinct)

-- a namespace is found to be reserved exactly where a component is `__cedar`
unreserved : (name : Option Path) → reserved_namespace name ≡ [] → AllByRecursion IsUnreserved (option_to_list name)
unreserved None e = tt
unreserved (Some path) e = (by (list_any is_cedar path.node) e, tt)
  where
    by : (b : Bool) → cond b (ReservedName (record { name = joined path.node; loc = path.loc }) ∷ []) [] ≡ [] → b ≡ false
    by true e = cc
    by false e = refl

none_reserved : (name : Option Path) → AllByRecursion IsUnreserved (option_to_list name) → reserved_namespace name ≡ []
none_reserved None all = refl
none_reserved (Some path) all = ap (λ b. cond b (ReservedName (record { name = joined path.node; loc = path.loc }) ∷ []) []) all.0

abbrev steps : Gathered → List (List ToJsonSchemaError)
steps g = reserved_namespace g.name ∷ repeated_name (names_in entity_names g.decls) ∷ repeated_name (names_in action_names g.decls) ∷ repeated_name (names_in common_names g.decls) ∷ []

pub bound : (g : Gathered) → binding_of g ≡ [] → AreBound g
bound g e =
    let all = nothing_found (steps g) e in
    record {
      named = unreserved g.name all.0;
      entity_types = none_twice (names_in entity_names g.decls) all.1.0;
      actions = none_twice (names_in action_names g.decls) all.1.1.0;
      common_types = none_twice (names_in common_names g.decls) all.1.1.1.0;
    }

pub unbound : (g : Gathered) → AreBound g → binding_of g ≡ []
unbound g a =
    nothing_to_find (steps g)
    (none_reserved g.name a.named, (distinct_names (names_in entity_names g.decls) a.entity_types, (distinct_names (names_in action_names g.decls) a.actions, (distinct_names (names_in common_names g.decls) a.common_types, tt))))
