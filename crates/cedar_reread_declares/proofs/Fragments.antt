-- SPDX-License-Identifier: Apache-2.0
-- What the tree of a fragment declares is the fragment as it is read again, but for places.
use Rattle.std.proofs.Common.{◌≡◌, ◌++◌, ◌⊎◌, Bool, List, [], ◌∷◌, cond, map, refl, sym, ap, ap₂, ◌∙◌, append-nil, inl, inr, subst, Option, Some, None}
use Rattle.std.proofs.lemmas.List.Concat.{flat_map-append}
use Rattle.std.proofs.lemmas.Map.Keys.{sorted_head, sorted_tail}
use Rattle.std.specs.List.{AllByRecursion}
use Rattle.std.specs.List.Sorted.{IsStrictlySortedBy}
use Rattle.std.specs.Map.{keys_of}
use Rattle.cedar_data.specs.Maps.{IsSortedMap, map_of}
use Rattle.cedar_tree.specs.Trees.{ByKey, Text}
use Rattle.cedar_tree.specs.Unplaced.{annotations_unplaced}
use Rattle.cedar_convert_faults.specs.Conditions.{AreBound, AreDeclared, AreSound, DeclaresOne}
use Rattle.cedar_convert_faults.specs.Gathering.{Declarations, Gathered, namespace_cmp, namespaces_of, unnamed}
use Rattle.cedar_convert_faults.specs.Repeats.{are_distinct}
use Rattle.cedar_convert_fragment.specs.Declares.{Declares, declared_by, declared_in, definition_of, fragment_of}
use Rattle.cedar_convert_fragment.specs.Fragments.{ActionContent, ByName, Definition, EntityContent, Fragment, TypeAt}
use Rattle.cedar_reread.specs.Placeless.{placeless}
use Rattle.cedar_reread.specs.Rereading.{definition_reread, reread, under_reread}
use Rattle.cedar_reread.specs.TreesRead.{declarations_read, fragment_read}
use Rattle.cedar_reread_declares.specs.Rereadable.{Rereadable, RereadableDefinition, RereadableNamespace}
use Rattle.cedar_reread_declares.proofs.Definitions.{actions_distinct, commons_distinct, definition_declared, definition_sound, entities_distinct}
use Rattle.cedar_reread_declares.proofs.FullNames.{joined_distinct, namespace_total, unreserved}
use Rattle.cedar_reread.proofs.Sorted.{first_comes_last, of_itself}
use Rattle.cedar_reread_declares.proofs.Lists.{all_append}
use Rattle.cedar_reread_declares.proofs.Namespaces.{AllNamed, all_named, full_words, gathered_all, named_gathered, unnamed_gathered}
use Rattle.cedar_reread_declares.proofs.Types.{annotations_twice}

abbrev AllRereadable : Fragment → Type 0
AllRereadable F = AllByRecursion RereadableNamespace F

-- ---- a fragment is declared

abbrev AllSound : List Gathered → Type 0
AllSound gs = AllByRecursion (λ g. AreSound g.decls) gs

named_bound : (F : Fragment) → AllRereadable F → AllByRecursion AreBound (gathered_all F)
named_bound [] all = tt
named_bound ((None, d) ∷ F) all = named_bound F all.1
named_bound ((Some words, d) ∷ F) all = (
  record {
    named = (unreserved words all.0.0, tt);
    entity_types = entities_distinct d all.0.1;
    actions = actions_distinct d all.0.1;
    common_types = commons_distinct d all.0.1;
  },
  named_bound F all.1,
)

named_sound : (F : Fragment) → AllRereadable F → AllSound (gathered_all F)
named_sound [] all = tt
named_sound ((None, d) ∷ F) all = named_sound F all.1
named_sound ((Some words, d) ∷ F) all = (definition_sound d all.0.1, named_sound F all.1)

abbrev bare_unnamed : Declarations → Gathered
bare_unnamed ds = record { name = None; annotations = []; decls = ds }

unnamed_bound : (ds : Declarations) → AreBound (bare_unnamed ds) → AllByRecursion AreBound (unnamed ds)
unnamed_bound [] is = tt
unnamed_bound (d ∷ ds) is = (is, tt)

unnamed_sound : (ds : Declarations) → AreSound ds → AllSound (unnamed ds)
unnamed_sound [] is = tt
unnamed_sound (d ∷ ds) is = (is, tt)

-- named namespaces and declarations that stand in none
all_declared : (F : Fragment) (ds : Declarations) → IsSortedMap namespace_cmp F → AllRereadable F → AllByRecursion AreBound (unnamed ds) → AllSound (unnamed ds) → AreDeclared (gathered_all F ++ unnamed ds)
all_declared F ds sorted all bound sound = record {
  bound = all_append AreBound (gathered_all F) (unnamed ds) (named_bound F all) bound;
  sound = all_append (λ g. AreSound g.decls) (gathered_all F) (unnamed ds) (named_sound F all) sound;
  namespaces = ap are_distinct (full_words F ds) ∙ joined_distinct F sorted all;
}

-- ---- the fragment

-- what is read of a namespace
abbrev entry_again : Option (List Text) × Definition → Option (List Text) × Definition
entry_again n = (n.0, definition_of (annotations_unplaced n.1.annotations) (declarations_read n.1))

keys_again : (F : Fragment) → keys_of (map entry_again F) ≡ keys_of F
keys_again [] = refl
keys_again (n ∷ F) = ap (λ (ks : List (Option (List Text))). n.0 ∷ ks) (keys_again F)

named_declared : (F : Fragment) → AllNamed F → AllRereadable F → declared_by (gathered_all F) ≡ map entry_again F
named_declared [] named all = refl
named_declared ((None, d) ∷ F) named all = absurd named.0
named_declared ((Some words, d) ∷ F) named all =
    ap (λ (b : Bool). cond b [] (entry_again (Some words, d) ∷ []) ++ declared_by (gathered_all F)) (unreserved words all.0.0)
    ∙ ap (λ (G : Fragment). entry_again (Some words, d) ∷ G) (named_declared F named.1 all.1)

named_same : (F : Fragment) → AllNamed F → AllRereadable F → placeless (map entry_again F) ≡ placeless (reread F)
named_same [] named all = refl
named_same ((None, d) ∷ F) named all = absurd named.0
named_same ((Some words, d) ∷ F) named all =
    let here = definition_declared d (annotations_unplaced d.annotations) d.annotations (annotations_twice d.annotations) all.0.1 in
    let others = named_same F named.1 all.1 in
    λ i. (Some words, here i) ∷ others i

-- a fragment whose namespaces have names
named_fragment : (F : Fragment) → IsSortedMap namespace_cmp F → AllNamed F → AllRereadable F → placeless (fragment_of (gathered_all F)) ≡ placeless (reread F)
named_fragment F sorted named all =
    let in_order = subst (λ (ks : List (Option (List Text))). IsStrictlySortedBy namespace_cmp ks) (sym (keys_again F)) sorted in
    ap (λ (G : Fragment). placeless (map_of namespace_cmp G)) (named_declared F named all)
    ∙ ap placeless (of_itself namespace_cmp namespace_total (map entry_again F) in_order)
    ∙ named_same F named all

-- the unnamed namespace, as it is read
abbrev unnamed_again : Definition → Option (List Text) × Definition
unnamed_again d = (None, definition_of [] (declarations_read d))

-- it declares nothing and is none, or else it is one
abbrev NoneOrOne : Definition → Type 0
NoneOrOne d =
    ((declarations_read d ≡ []) × (under_reread None d ≡ []))
    ⊎ ((declared_by (unnamed (declarations_read d)) ≡ unnamed_again d ∷ []) × (under_reread None d ≡ (None, definition_reread d []) ∷ []))

none_or_one : (commons : ByName TypeAt) (entities : ByName EntityContent) (actions : ByName ActionContent) (annotations : ByKey)
    → NoneOrOne (record { common_types = commons; entity_types = entities; actions = actions; annotations = annotations })
none_or_one [] [] [] annotations = inl (refl, refl)
none_or_one [] [] (a ∷ actions) annotations = inr (refl, refl)
none_or_one [] (e ∷ entities) actions annotations = inr (refl, refl)
none_or_one (c ∷ commons) entities actions annotations = inr (refl, refl)

-- a fragment with an unnamed one
unnamed_fragment : (d : Definition) (F : Fragment) → IsSortedMap namespace_cmp ((None, d) ∷ F) → AllNamed F → RereadableDefinition d → AllRereadable F
    → placeless (fragment_of (gathered_all F ++ unnamed (declarations_read d))) ≡ placeless (reread ((None, d) ∷ F))
unnamed_fragment d F sorted named is all = by (none_or_one d.common_types d.entity_types d.actions d.annotations)
  where
    by : NoneOrOne d → placeless (fragment_of (gathered_all F ++ unnamed (declarations_read d))) ≡ placeless (reread ((None, d) ∷ F))
    by (inl (nothing, none)) =
        ap (λ (ds : Declarations). placeless (fragment_of (gathered_all F ++ unnamed ds))) nothing
        ∙ ap (λ (gs : List Gathered). placeless (fragment_of gs)) (append-nil (gathered_all F))
        ∙ named_fragment F (sorted_tail namespace_cmp None (keys_of F) sorted) named all
        ∙ ap (λ (G : Fragment). placeless (G ++ reread F)) (sym none)
    by (inr (one, some)) =
        let made : declared_by (gathered_all F ++ unnamed (declarations_read d)) ≡ map entry_again F ++ unnamed_again d ∷ [] =
        flat_map-append declared_in (gathered_all F) (unnamed (declarations_read d)) ∙ ap₂ (λ (a b : Fragment). a ++ b) (named_declared F named all) one in
        let in_order = subst (λ (ks : List (Option (List Text))). IsStrictlySortedBy namespace_cmp (None ∷ ks)) (sym (keys_again F)) sorted in
        let here = definition_declared d [] [] refl is in
        let others = named_same F named all in
        ap (λ (G : Fragment). placeless (map_of namespace_cmp G)) made
        ∙ ap placeless (first_comes_last namespace_cmp namespace_total (map entry_again F) (unnamed_again d) in_order)
        ∙ (λ i. (None, here i) ∷ others i)
        ∙ ap (λ (G : Fragment). placeless (G ++ reread F)) (sym some)

-- ---- the whole

-- what the tree of a fragment declares
abbrev declared_again : Fragment → Fragment
declared_again F = fragment_of (namespaces_of (fragment_read F))

abbrev IsDeclaredAgain : Fragment → Type 0
IsDeclaredAgain F = DeclaresOne (fragment_read F) × (placeless (declared_again F) ≡ placeless (reread F))

of_named : (F : Fragment) → IsSortedMap namespace_cmp F → AllNamed F → AllRereadable F → IsDeclaredAgain F
of_named F sorted named all = (
  subst AreDeclared (sym (named_gathered F named)) (all_declared F [] sorted all tt tt),
  ap (λ (gs : List Gathered). placeless (fragment_of gs)) (named_gathered F named ∙ append-nil (gathered_all F)) ∙ named_fragment F sorted named all,
)

of_unnamed : (d : Definition) (F : Fragment) → IsSortedMap namespace_cmp ((None, d) ∷ F) → AllNamed F → RereadableDefinition d → AllRereadable F → IsDeclaredAgain ((None, d) ∷ F)
of_unnamed d F sorted named is all =
    let ds = declarations_read d in
    let bound : AreBound (bare_unnamed ds) = record { named = tt; entity_types = entities_distinct d is; actions = actions_distinct d is; common_types = commons_distinct d is } in (
      subst AreDeclared (sym (unnamed_gathered d F named))
          (all_declared F ds (sorted_tail namespace_cmp None (keys_of F) sorted) all (unnamed_bound ds bound) (unnamed_sound ds (definition_sound d is))),
      ap (λ (gs : List Gathered). placeless (fragment_of gs)) (unnamed_gathered d F named) ∙ unnamed_fragment d F sorted named is all,
    )

of_any : (F : Fragment) → IsSortedMap namespace_cmp F → AllRereadable F → IsDeclaredAgain F
of_any [] sorted all = of_named [] sorted tt tt
of_any ((None, d) ∷ F) sorted all = of_unnamed d F sorted (all_named None F (sorted_head namespace_cmp None (keys_of F) sorted)) all.0.1 all.1
of_any ((Some words, d) ∷ F) sorted all = of_named ((Some words, d) ∷ F) sorted (tt, all_named (Some words) F (sorted_head namespace_cmp (Some words) (keys_of F) sorted)) all

-- the tree of a fragment declares the fragment as it is read again, but for places
pub declares_reread : (F : Fragment) → Rereadable F → (G : Fragment) × Declares (fragment_read F) G × (placeless G ≡ placeless (reread F))
declares_reread F is =
    let again = of_any F is.in_order is.namespaces in
    (declared_again F, record { declares_one = again.0; fragment_is = refl }, again.1)
