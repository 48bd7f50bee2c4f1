-- SPDX-License-Identifier: Apache-2.0
-- Names by their parts, and what picking them gives.
use Rattle.std.proofs.Common.{◌≡◌, ◌↔◌, ◌++◌, ◌&&◌, Bool, true, false, IsTrue, not, cond, List, [], ◌∷◌, map, Option, Some, None, refl, sym, ap, ◌∙◌}
use Rattle.std.specs.List.{filter}
use Rattle.std.specs.Ordering.{ordering_then}
use Rattle.std.specs.declared.cmp.Ordering.{Ordering}
use Rattle.cedar_names.specs.Components.{basename_of, components, has_cedar, loc_of, namespace_of}
use Rattle.cedar_names.specs.Identifiers.{id_word, id_words}
use Rattle.cedar_names.specs.Order.{word_cmp, words_cmp}
use Rattle.cedar_names.specs.declared.id.Id.{Id}
use Rattle.cedar_names.specs.declared.internal_name.InternalName.{InternalName}
use Rattle.cedar_written.specs.declared.reference_type.ReferenceType.TheVariants.{CommonOrEntity}
use Rattle.cedar_schema_error.specs.FullNames.{FullName, basename, is_qualified}
use Rattle.cedar_places.specs.Places.{range}
use Rattle.cedar_schema_error.specs.Refusals.{TypeShadowing}
use Rattle.cedar_declared.specs.Alone.{pick_all, precedes}
use Rattle.cedar_declared.specs.Names.{Names, is_declared}
use Rattle.cedar_declared.specs.TypeNames.{place_alone}
use Rattle.cedar_declared.specs.declared.all_defs.AllDefs.{AllDefs}
use Rattle.cedar_shadowing.specs.Picking.{least_shadowing, shadowing_cmp, shadows_type}

last_word : (ids : List Id) (id : Id) → basename (id_words (ids ++ id ∷ [])) ≡ id_word id
last_word [] id = refl
last_word (i ∷ []) id = refl
last_word (i ∷ j ∷ ids) id = last_word (j ∷ ids) id

-- the last component of a name is its basename
pub basename_is : (n : InternalName) → basename (components n) ≡ id_word (basename_of n)
basename_is n = last_word (namespace_of n) (basename_of n)

more_words : (ids : List Id) (id : Id) → (ids ≡ [] → ⊥) → is_qualified (id_words (ids ++ id ∷ [])) ≡ true
more_words [] id some = absurd (some refl)
more_words (i ∷ []) id some = refl
more_words (i ∷ j ∷ ids) id some = refl

alone : (ids : List Id) (id : Id) → ids ≡ [] → is_qualified (id_words (ids ++ id ∷ [])) ≡ false
alone ids id none = ap (λ l. is_qualified (id_words (l ++ id ∷ []))) none

-- whether a name has a namespace
pub qualified_by : (n : InternalName) (r : Bool) → IsTrue r ↔ (namespace_of n ≡ []) → is_qualified (components n) ≡ not r
qualified_by n true is = alone (namespace_of n) (basename_of n) (is.0 refl)
qualified_by n false is = more_words (namespace_of n) (basename_of n) (λ none. let p : false ≡ true = is.1 none in absurd (cc))

module _ (own : Names) (n : InternalName) where
  by : (q c : Bool) → is_qualified (components n) ≡ q → has_cedar (components n) ≡ c → shadows_type own (components n) ≡ (q && (not c && is_declared own CommonOrEntity (basename (components n) ∷ [])))
  by q c is has = ap (λ b. b && (not (has_cedar (components n)) && is_declared own CommonOrEntity (basename (components n) ∷ []))) is ∙ ap (λ b. q && (not b && is_declared own CommonOrEntity (basename (components n) ∷ []))) has

  -- a name without a namespace shadows none
  pub alone_shadows_none : (r : Bool) → IsTrue r ↔ (namespace_of n ≡ []) → r ≡ true → false ≡ shadows_type own (components n)
  alone_shadows_none r is holds = sym (by false (has_cedar (components n)) (qualified_by n r is ∙ ap not holds) refl)

  -- nor does one with `__cedar`
  pub reserved_shadows_none : (r c : Bool) → IsTrue r ↔ (namespace_of n ≡ []) → r ≡ false → c ≡ has_cedar (components n) → c ≡ true → false ≡ shadows_type own (components n)
  reserved_shadows_none r c is fails has holds = sym (by true true (qualified_by n r is ∙ ap not fails) (sym has ∙ holds))

  -- another does where its basename is declared
  pub other_shadows : (r c d : Bool) (id : Id) → IsTrue r ↔ (namespace_of n ≡ []) → r ≡ false → c ≡ has_cedar (components n) → c ≡ false → id ≡ basename_of n → d ≡ is_declared own CommonOrEntity (id_word id ∷ []) → d ≡ shadows_type own (components n)
  other_shadows r c d id is fails has cedar base declared =
      declared ∙ ap (λ w. is_declared own CommonOrEntity (w ∷ [])) (ap id_word base ∙ sym (basename_is n)) ∙ sym (by true false (qualified_by n r is ∙ ap not fails) (sym has ∙ cedar))

-- the order by the basenames of two names
pub cmp_by : (a b : InternalName) (i j : Id) (o : Ordering) → i ≡ basename_of a → j ≡ basename_of b → o ≡ word_cmp (id_word i) (id_word j) → shadowing_cmp (components a) (components b) ≡ ordering_then o (words_cmp (components a) (components b))
cmp_by a b i j o first second is =
    ap (λ o. ordering_then o (words_cmp (components a) (components b)))
    ((λ k. word_cmp (basename_is a k) (basename_is b k)) ∙ sym (λ k. word_cmp (id_word (first k)) (id_word (second k))) ∙ sym is)

-- what has no namespace is passed over
pub picks_qualified : (own : Names) (best : Option FullName) (xs : List FullName) → least_shadowing own best (filter is_qualified xs) ≡ least_shadowing own best xs
picks_qualified own best [] = refl
picks_qualified own best (x ∷ xs) = at (is_qualified x) refl (λ best. picks_qualified own best xs)
  where
    at : (b : Bool) → is_qualified x ≡ b → ((best : Option FullName) → least_shadowing own best (filter is_qualified xs) ≡ least_shadowing own best xs)
        → least_shadowing own best (cond b (x ∷ filter is_qualified xs) (filter is_qualified xs)) ≡ least_shadowing own best (x ∷ xs)
    at true is ih = ih (pick_all (shadows_type own) shadowing_cmp best (x ∷ []))
    at false is ih =
        ih best
        ∙ ap (λ found. least_shadowing own found xs)
        (ap (λ b. cond ((b && (not (has_cedar x) && is_declared own CommonOrEntity (basename x ∷ []))) && precedes (shadows_type own) shadowing_cmp x best) (Some x) best) (sym is))

same_picks : (own : Names) (best : Option FullName) (xs ys : List FullName) → filter is_qualified xs ≡ filter is_qualified ys → least_shadowing own best xs ≡ least_shadowing own best ys
same_picks own best xs ys same = sym (picks_qualified own best xs) ∙ ap (least_shadowing own best) same ∙ picks_qualified own best ys

-- the least of two sets is the least of all names
pub least_of_both : (own : Names) (es cs : List InternalName) (first last : Option FullName) → filter is_qualified (map components es) ≡ filter is_qualified own.entity_types → filter is_qualified (map components cs) ≡ filter is_qualified own.common_types
    → first ≡ least_shadowing own None (map components es) → last ≡ least_shadowing own first (map components cs) → last ≡ least_shadowing own (least_shadowing own None own.entity_types) own.common_types
least_of_both own es cs first last entity common before behind =
    behind ∙ same_picks own first (map components cs) own.common_types common
    ∙ ap (λ best. least_shadowing own best own.common_types) (before ∙ same_picks own None (map components es) own.entity_types entity)

-- what the error tells
pub told_shadowing : (n : InternalName) (i : Id) (a b : InternalName) → i ≡ basename_of n → components a ≡ id_word i ∷ [] → b ≡ n → TypeShadowing (components a) (components b) ≡ TypeShadowing (basename (components n) ∷ []) (components n)
told_shadowing n i a b base made copied =
    let alone : components a ≡ basename (components n) ∷ [] = made ∙ ap (λ i. id_word i ∷ []) base ∙ ap (λ w. w ∷ []) (sym (basename_is n)) in
    (λ k. TypeShadowing (alone k) (components (copied k)))

-- the places that it tells
pub placed_shadowing : (d : AllDefs) (n : InternalName) (i : Id) (a b : InternalName) → i ≡ basename_of n → loc_of a ≡ place_alone d i → b ≡ n → range (loc_of a) ++ range (loc_of b) ≡ range (place_alone d (basename_of n)) ++ range (loc_of n)
placed_shadowing d n i a b base made copied =
    let place : loc_of a ≡ place_alone d (basename_of n) = made ∙ ap (place_alone d) base in
    (λ k. range (place k) ++ range (loc_of (copied k)))

pub ruleset shadowers = (alone_shadows_none, reserved_shadows_none, other_shadows, least_of_both)
