-- SPDX-License-Identifier: Apache-2.0
-- A type without a leftmost repeat has none in any of its records.
use Rattle.std.proofs.Common.{◌≡◌, ℕ, true, List, [], ◌∷◌, ◌++◌, Option, Some, None, sym, ap, ◌∙◌, refl, append_assoc}
use Rattle.std.proofs.lemmas.List.{append-nil}
use Rattle.cedar_text.specs.declared.location.Loc.{Loc}
use Rattle.cedar_tree.specs.Trees.{Node, TypeTree, Set, Ident, Record, Attrs, no_attrs, attr}
use Rattle.cedar_convert_faults.specs.Conditions.{names_of_attrs, HasNoRepeat, HaveNoRepeat}
use Rattle.std.specs.Option.{option_or}
use Rattle.cedar_convert_faults.specs.TypeRepeats.{leftmost_repeat, repeat_among}
use Rattle.cedar_convert_faults.specs.Repeats.{Names, words_of, are_distinct, place_of, repeat_or}
use Rattle.cedar_convert_faults.specs.declared.repeats.Repeat.{Repeat}
use Rattle.cedar_convert_faults.proofs.FirstRepeats.{distinct_more, at_place}
use Rattle.cedar_convert_faults.proofs.FaultLaws.{twice}
use Rattle.cedar_text.proofs.Members.{map-append}

-- the names are distinct with those that were seen, and so in each record of the types
abbrev Clean : Names → Attrs → Type 0
Clean seen attrs = (are_distinct (words_of (seen ++ names_of_attrs attrs)) ≡ true) × HaveNoRepeat attrs

step : (seen : Names) (name : Node (List ℕ)) (others : Attrs) (No : Type 0) → are_distinct (words_of seen) ≡ true
    → (p : Option Loc) → place_of seen name.node ≡ p → (q : Option Repeat) → (q ≡ None → No)
    → (are_distinct (words_of (seen ++ name ∷ [])) ≡ true → repeat_among others (seen ++ name ∷ []) ≡ None → Clean (seen ++ name ∷ []) others)
    → repeat_or p name (option_or q (repeat_among others (seen ++ name ∷ []))) ≡ None
    → (are_distinct (words_of (seen ++ name ∷ names_of_attrs others)) ≡ true) × (No × HaveNoRepeat others)
step seen name others No distinct (Some place) is q inner rest e = cc
step seen name others No distinct None is (Some r) inner rest e = cc
step seen name others No distinct None is None inner rest e =
    let more = rest (distinct_more seen name distinct is) e in
    (ap (λ l. are_distinct (words_of l)) (sym (append_assoc seen (name ∷ []) (names_of_attrs others))) ∙ more.0, (inner refl, more.1))

mutual
  pub none_in : (t : TypeTree) → leftmost_repeat t ≡ None → HasNoRepeat t
  none_in (Set element place) e = none_in element e
  none_in (Ident name) e = tt
  none_in (Record attrs) e = none_among attrs [] refl e

  pub none_among : (attrs : Attrs) (seen : Names) → are_distinct (words_of seen) ≡ true → repeat_among attrs seen ≡ None → Clean seen attrs
  none_among no_attrs seen distinct e = (ap (λ l. are_distinct (words_of l)) (append-nil seen) ∙ distinct, tt)
  none_among (attr annotations name required ty place own others) seen distinct e =
      step seen name others (HasNoRepeat ty) distinct (place_of seen name.node) refl (leftmost_repeat ty) (none_in ty) (none_among others (seen ++ name ∷ [])) e

-- the names that were seen, and another, where all are distinct
fresh : (seen : Names) (n : Node (List ℕ)) (rest : Names) → are_distinct (words_of (seen ++ n ∷ rest)) ≡ true → place_of seen n.node ≡ None
fresh seen n rest distinct = by (place_of seen n.node) refl
  where
    by : (p : Option Loc) → place_of seen n.node ≡ p → p ≡ None
    by None is = refl
    by (Some place) is =
        let found = at_place seen n.node place is in
        let word : Node (List ℕ) → List ℕ = λ m. m.node in
        let here : Node (List ℕ) = record { node = n.node; loc = place } in
        let split : words_of (seen ++ n ∷ rest) ≡ words_of found.before ++ (n.node ∷ words_of found.between ++ n.node ∷ words_of rest) =
        map-append word seen (n ∷ rest) ∙ ap (λ l. words_of l ++ n.node ∷ words_of rest) found.split
        ∙ ap (λ l. l ++ n.node ∷ words_of rest) (map-append word found.before (here ∷ found.between))
        ∙ append_assoc (words_of found.before) (n.node ∷ words_of found.between) (n.node ∷ words_of rest) in
        absurd (twice (words_of found.before) (words_of found.between) (words_of rest) n.node (ap are_distinct (sym split) ∙ distinct))

mutual
  pub clean_in : (t : TypeTree) → HasNoRepeat t → leftmost_repeat t ≡ None
  clean_in (Set element place) clean = clean_in element clean
  clean_in (Ident name) clean = refl
  clean_in (Record attrs) clean = clean_among attrs [] clean

  pub clean_among : (attrs : Attrs) (seen : Names) → Clean seen attrs → repeat_among attrs seen ≡ None
  clean_among no_attrs seen clean = refl
  clean_among (attr annotations name required ty place own others) seen clean =
      ap (λ p. repeat_or p name (option_or (leftmost_repeat ty) (repeat_among others (seen ++ name ∷ [])))) (fresh seen name (names_of_attrs others) clean.0)
      ∙ ap (λ q. option_or q (repeat_among others (seen ++ name ∷ []))) (clean_in ty clean.1.0)
      ∙ clean_among others (seen ++ name ∷ []) (ap (λ l. are_distinct (words_of l)) (append_assoc seen (name ∷ []) (names_of_attrs others)) ∙ clean.0, clean.1.1)
