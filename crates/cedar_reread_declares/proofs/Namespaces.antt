-- SPDX-License-Identifier: Apache-2.0
-- The namespaces of the tree of a fragment.
use Rattle.std.proofs.Common.{◌≡◌, ◌++◌, List, [], ◌∷◌, map, flat_map, refl, ap, ap₂, ◌∙◌, append-nil, Option, Some, None}
use Rattle.std.proofs.lemmas.List.Concat.{flat_map-append}
use Rattle.std.specs.Prelude.{⊤}
use Rattle.std.specs.List.{AllByRecursion}
use Rattle.std.specs.Map.{keys_of}
use Rattle.std.specs.declared.cmp.Ordering.TheVariants.{Less, Equal, Greater}
use Rattle.cedar_text.specs.Joining.{joined}
use Rattle.cedar_tree.specs.Trees.{Text}
use Rattle.cedar_tree.specs.Unplaced.{annotations_unplaced}
use Rattle.cedar_convert_faults.specs.Bindings.{full_names}
use Rattle.cedar_convert_faults.specs.Gathering.{Declarations, Gathered, loose, loose_declarations, named, named_namespaces, namespace_cmp, namespaces_of, unnamed}
use Rattle.cedar_convert_faults.specs.Repeats.{words_of}
use Rattle.cedar_convert_fragment.specs.Fragments.{Definition, Fragment}
use Rattle.cedar_reread.specs.TreesRead.{alone_read, bare, declarations_read, fragment_read, namespace_read, under_read}
use Rattle.cedar_reread_declares.proofs.FullNames.{joined_names}

-- the namespace that is read of a named one
abbrev pub gathered_named : List Text → Definition → Gathered
gathered_named words d = record { name = Some (bare words); annotations = annotations_unplaced d.annotations; decls = declarations_read d }

abbrev pub gathered_under : Option (List Text) → Definition → List Gathered
gathered_under None d = []
gathered_under (Some words) d = gathered_named words d ∷ []

abbrev pub gathered_all : Fragment → List Gathered
gathered_all F = flat_map (λ n. gathered_under n.0 n.1) F

abbrev loose_under : Option (List Text) → Definition → Declarations
loose_under None d = declarations_read d
loose_under (Some words) d = []

abbrev loose_all : Fragment → Declarations
loose_all F = flat_map (λ n. loose_under n.0 n.1) F

none_named : (ds : Declarations) → named_namespaces (map alone_read ds) ≡ []
none_named [] = refl
none_named (d ∷ ds) = none_named ds

all_loose : (ds : Declarations) → loose_declarations (map alone_read ds) ≡ ds
all_loose [] = refl
all_loose (d ∷ ds) = ap (λ (l : Declarations). d ∷ l) (all_loose ds)

named_under : (name : Option (List Text)) (d : Definition) → named_namespaces (under_read name d) ≡ gathered_under name d
named_under None d = none_named (declarations_read d)
named_under (Some words) d = refl

loose_of : (name : Option (List Text)) (d : Definition) → loose_declarations (under_read name d) ≡ loose_under name d
loose_of None d = all_loose (declarations_read d)
loose_of (Some words) d = refl

named_are : (F : Fragment) → named_namespaces (fragment_read F) ≡ gathered_all F
named_are [] = refl
named_are (n ∷ F) =
    flat_map-append (λ m. named m.item.name m.annotations m.item.decls) (namespace_read n) (fragment_read F)
    ∙ ap₂ (λ (a b : List Gathered). a ++ b) (named_under n.0 n.1) (named_are F)

loose_are : (F : Fragment) → loose_declarations (fragment_read F) ≡ loose_all F
loose_are [] = refl
loose_are (n ∷ F) =
    flat_map-append (λ m. loose m.item.name m.item.decls) (namespace_read n) (fragment_read F)
    ∙ ap₂ (λ (a b : Declarations). a ++ b) (loose_of n.0 n.1) (loose_are F)

-- ---- named namespaces

abbrev pub IsNamed : Option (List Text) → Type 0
IsNamed None = ⊥
IsNamed (Some words) = ⊤

-- each namespace has a name
abbrev pub AllNamed : Fragment → Type 0
AllNamed F = AllByRecursion (λ n. IsNamed n.0) F

named_behind : (k other : Option (List Text)) → namespace_cmp k other ≡ Less → IsNamed other
named_behind k (Some words) less = tt
named_behind None None less =
    let e : Equal ≡ Less = less in
    absurd (cc)
named_behind (Some words) None less =
    let e : Greater ≡ Less = less in
    absurd (cc)

-- those behind another have names
pub all_named : (k : Option (List Text)) (F : Fragment) → AllByRecursion (λ other. namespace_cmp k other ≡ Less) (keys_of F) → AllNamed F
all_named k [] below = tt
all_named k (n ∷ F) below = (named_behind k n.0 below.0, all_named k F below.1)

none_loose : (F : Fragment) → AllNamed F → loose_all F ≡ []
none_loose [] named = refl
none_loose ((None, d) ∷ F) named = absurd named.0
none_loose ((Some words, d) ∷ F) named = none_loose F named.1

-- the namespaces of a fragment that has no unnamed one
pub named_gathered : (F : Fragment) → AllNamed F → namespaces_of (fragment_read F) ≡ gathered_all F ++ unnamed []
named_gathered F named = ap₂ (λ (a : List Gathered) (ds : Declarations). a ++ unnamed ds) (named_are F) (loose_are F ∙ none_loose F named)

-- and of one that has
pub unnamed_gathered : (d : Definition) (F : Fragment) → AllNamed F → namespaces_of (fragment_read ((None, d) ∷ F)) ≡ gathered_all F ++ unnamed (declarations_read d)
unnamed_gathered d F named =
    let here : loose_all ((None, d) ∷ F) ≡ declarations_read d = ap (λ (l : Declarations). declarations_read d ++ l) (none_loose F named) ∙ append-nil (declarations_read d) in
    ap₂ (λ (a : List Gathered) (ds : Declarations). a ++ unnamed ds) (named_are ((None, d) ∷ F)) (loose_are ((None, d) ∷ F) ∙ here)

-- ---- full names

named_words : (F : Fragment) → words_of (flat_map (λ g. full_names g.name) (gathered_all F)) ≡ joined_names F
named_words [] = refl
named_words ((None, d) ∷ F) = named_words F
named_words ((Some words, d) ∷ F) = ap (λ (l : List Text). joined words ∷ l) (named_words F)

unnamed_none : (ds : Declarations) → flat_map (λ g. full_names g.name) (unnamed ds) ≡ []
unnamed_none [] = refl
unnamed_none (d ∷ ds) = refl

-- the full names are the joined ones
pub full_words : (F : Fragment) (ds : Declarations) → words_of (flat_map (λ g. full_names g.name) (gathered_all F ++ unnamed ds)) ≡ joined_names F
full_words F ds =
    let names = flat_map (λ (g : Gathered). full_names g.name) (gathered_all F) in
    ap words_of (flat_map-append (λ g. full_names g.name) (gathered_all F) (unnamed ds) ∙ ap (λ l. names ++ l) (unnamed_none ds) ∙ append-nil names)
    ∙ named_words F
