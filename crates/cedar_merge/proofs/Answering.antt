-- SPDX-License-Identifier: Apache-2.0
-- What is held of all fragments tells whether they are merged, and into which.
use Rattle.std.proofs.Common.{◌≡◌, ◌||◌, ◌&&◌, ◌↔◌, ℕ, Bool, true, false, IsTrue, List, [], ◌∷◌, map, Option, Some, None, option_map, refl, sym, ap, ◌∙◌, subst, inl, inr}
use Rattle.std.specs.List.{list_any}
use Rattle.std.specs.Option.{is_some, option_and_then, option_or}
use Rattle.cedar_data.specs.Firsts.{SomePasses}
use Rattle.cedar_data.specs.Maps.{map_values}
use Rattle.cedar_names.specs.Annotating.{annotation_entries}
use Rattle.cedar_names.specs.declared.name.Name.{Name}
use Rattle.cedar_merge.specs.Joining.{Holds, IsLeastOf, always, clash_error, clash_place, conflict_error, conflict_place, error_of, finished, last_some, look, there}
use Rattle.cedar_merge.specs.KeptNames.{KeepsNamespace}
use Rattle.cedar_merge.specs.Lookups.{Definition, Fragment, Path, Place, annotated, at, declared, declared_in, has_namespace, path_cmp, path_of, text_at}
use Rattle.cedar_merge.specs.Merged.{IsClash, IsConflict, Merged, NoClash, NoConflict, NotePlace, StandsInOrder, differ, note_cmp, place_cmp, unlike}
use Rattle.cedar_merge.specs.Pairs.{opposed, some_pair}
use Rattle.cedar_merge.specs.Texts.{TellsClash, TellsConflict}
use Rattle.cedar_merge.specs.declared.errors.DeclKind.{DeclKind}
use Rattle.cedar_merge.specs.declared.errors.DeclKind.TheVariants as kind
use Rattle.cedar_merge.specs.declared.errors.MergeError.{MergeError}
use Rattle.cedar_merge.specs.declared.joined.Found.{Found}
use Rattle.cedar_merge.specs.declared.joined.Joined.{Joined}
use Rattle.cedar_merge.specs.declared.places.ClashPlace.{ClashPlace}
use Rattle.cedar_merge.specs.declared.places.ConflictPlace.{ConflictPlace}
use Rattle.cedar_merge.proofs.Namespaces.{look-map_values}
use Rattle.cedar_merge.proofs.PairLaws.{both_there, last_any}
use Rattle.cedar_merge.proofs.Texts.{alike}

-- ---- pairs of a list, and pairs of what is seen of its items

any-map : {A B : Type 0} (test : B → Bool) (f : A → B) (xs : List A) → list_any test (map f xs) ≡ list_any (λ x. test (f x)) xs
any-map test f [] = refl
any-map test f (x ∷ xs) = ap (λ b. test (f x) || b) (any-map test f xs)

any-same : {A : Type 0} (test other : A → Bool) → ((x : A) → test x ≡ other x) → (xs : List A) → list_any test xs ≡ list_any other xs
any-same test other same [] = refl
any-same test other same (x ∷ xs) = λ i. same x i || any-same test other same xs i

pairs-map : {A B : Type 0} (against : B → B → Bool) (f : A → B) (xs : List A) → some_pair against (map f xs) ≡ some_pair (λ x y. against (f x) (f y)) xs
pairs-map against f [] = refl
pairs-map against f (x ∷ xs) = λ i. any-map (against (f x)) f xs i || pairs-map against f xs i

pairs-same : {A : Type 0} (against other : A → A → Bool) → ((x y : A) → against x y ≡ other x y) → (xs : List A) → some_pair against xs ≡ some_pair other xs
pairs-same against other same [] = refl
pairs-same against other same (x ∷ xs) = λ i. any-same (against x) (other x) (same x) xs i || pairs-same against other same xs i

clashing : (L : List Fragment) (p : Place) → some_pair (opposed always) (map (declared p) L) ≡ some_pair (λ f g. is_some (declared p f) && is_some (declared p g)) L
clashing L p = pairs-map (opposed always) (declared p) L ∙ pairs-same _ _ (λ f g. both_there (declared p f) (declared p g)) L

conflicting : (L : List Fragment) (p : NotePlace) → some_pair differ (map (annotated (Some p.namespace) p.key) L) ≡ some_pair (λ f g. differ (annotated (Some p.namespace) p.key f) (annotated (Some p.namespace) p.key g)) L
conflicting L p = pairs-map differ (annotated (Some p.namespace) p.key) L

-- ---- what stands against merging

never : (b : Bool) → b ≡ false → IsTrue b → ⊥
never true p q = cc
never false p q = cc

-- what an error keeps, where there is one
abbrev KeptBy : List Fragment → Option MergeError → Type 0
KeptBy L None = Unit {0}
KeptBy L (Some e) = KeepsNamespace L e

-- what an error tells, where there is one
abbrev Told : List Fragment → Option MergeError → Type 0
Told L None = Unit {0}
Told L (Some e) = TellsClash L e × TellsConflict L e

module _ {L : List Fragment} {all : List (Option Name × Joined)} {found : Found} (h : Holds L all found) where
  pub no_clash : found.clash ≡ None → NoClash L
  no_clash none p clashes =
      let least : IsLeastOf place_cmp (λ p. some_pair (opposed always) (map (declared p) L)) None
      = subst (λ o. IsLeastOf place_cmp (λ p. some_pair (opposed always) (map (declared p) L)) (option_map clash_place o)) none h.clash in
      never _ (sym (clashing L p) ∙ least p) clashes

  pub no_conflict : found.conflict ≡ None → NoConflict L
  no_conflict none p conflicts =
      let least : IsLeastOf note_cmp (λ p. some_pair differ (map (annotated (Some p.namespace) p.key) L)) None
      = subst (λ o. IsLeastOf note_cmp (λ p. some_pair differ (map (annotated (Some p.namespace) p.key) L)) (option_map conflict_place o)) none h.conflict in
      never _ (sym (conflicting L p) ∙ least p) conflicts

  pub is_clash : (place : ClashPlace) → found.clash ≡ Some place → IsClash L (clash_place place)
  is_clash place some =
      let least : IsLeastOf place_cmp (λ p. some_pair (opposed always) (map (declared p) L)) (Some (clash_place place))
      = subst (λ o. IsLeastOf place_cmp (λ p. some_pair (opposed always) (map (declared p) L)) (option_map clash_place o)) some h.clash in
      record { holds = sym (clashing L (clash_place place)) ∙ least.holds; least = λ y clashes. least.least y (clashing L y ∙ clashes) }

  pub is_conflict : (place : ConflictPlace) → found.conflict ≡ Some place → IsConflict L (conflict_place place)
  is_conflict place some =
      let least : IsLeastOf note_cmp (λ p. some_pair differ (map (annotated (Some p.namespace) p.key) L)) (Some (conflict_place place))
      = subst (λ o. IsLeastOf note_cmp (λ p. some_pair differ (map (annotated (Some p.namespace) p.key) L)) (option_map conflict_place o)) some h.conflict in
      record { holds = sym (conflicting L (conflict_place place)) ∙ least.holds; least = λ y conflicts. least.least y (conflicting L y ∙ conflicts) }

-- what an error tells
module _ (L : List Fragment) (all : List (Option Name × Joined)) (found : Found) (h : Holds L all found) where
  by_error : (clash : Option ClashPlace) (conflict : Option ConflictPlace) → found.clash ≡ clash → found.conflict ≡ conflict → (e : MergeError) → option_or (option_map clash_error clash) (option_map conflict_error conflict) ≡ Some e
      → TellsClash L e × TellsConflict L e
  by_error (Some place) conflict is q e told = subst (λ o. Told L o) told (is_clash h place is, tt)
  by_error None (Some place) is q e told = subst (λ o. Told L o) told (tt, (no_clash h is, is_conflict h place q))
  by_error None None is q e told = absurd (cc)

  pub tells_clash : (o : Option MergeError) (e : MergeError) → o ≡ error_of found → o ≡ Some e → TellsClash L e
  tells_clash o e told some = (by_error found.clash found.conflict refl refl e (sym told ∙ some)).0

  pub tells_conflict : (o : Option MergeError) (e : MergeError) → o ≡ error_of found → o ≡ Some e → TellsConflict L e
  tells_conflict o e told some = (by_error found.clash found.conflict refl refl e (sym told ∙ some)).1

  kept_by : (clash : Option ClashPlace) (conflict : Option ConflictPlace) → found.clash ≡ clash → found.conflict ≡ conflict → (e : MergeError) → option_or (option_map clash_error clash) (option_map conflict_error conflict) ≡ Some e
      → KeepsNamespace L e
  kept_by (Some place) conflict is q e told = subst (λ o. KeptBy L o) told (h.kept_clash place is)
  kept_by None (Some place) is q e told = subst (λ o. KeptBy L o) told (h.kept_conflict place q)
  kept_by None None is q e told = absurd (cc)

  pub tells_kept : (o : Option MergeError) (e : MergeError) → o ≡ error_of found → o ≡ Some e → KeepsNamespace L e
  tells_kept o e told some = kept_by found.clash found.conflict refl refl e (sym told ∙ some)

  -- where there is none, nothing was found
  nothing_found : (clash : Option ClashPlace) (conflict : Option ConflictPlace) → found.clash ≡ clash → found.conflict ≡ conflict → option_or (option_map clash_error clash) (option_map conflict_error conflict) ≡ None
      → (found.clash ≡ None) × (found.conflict ≡ None)
  nothing_found (Some place) conflict p q e = absurd (cc)
  nothing_found None (Some place) p q e = absurd (cc)
  nothing_found None None p q e = (p, q)

  pub apart : (o : Option MergeError) → o ≡ error_of found → o ≡ None → NoClash L × NoConflict L
  apart o told none = let neither = nothing_found found.clash found.conflict refl refl (sym told ∙ none) in (no_clash h neither.0, no_conflict h neither.1)

-- ---- the merged fragment

-- where no two are opposed, the last that is there is each that is there
module _ {A B : Type 0} (against : B → B → Bool) (same : (a b : B) → against a b ≡ false → a ≡ b) (q : A → Option B) where
  last_of : (L : List A) (b : B) → last_some (map q L) ≡ Some b → SomePasses (λ f. q f ≡ Some b) L
  last_of [] b is = absurd (cc)
  last_of (f ∷ L) b is = by (last_some (map q L)) is (last_of L b)
    where
      by : (o : Option B) → option_or o (q f) ≡ Some b → (o ≡ Some b → SomePasses (λ f. q f ≡ Some b) L) → SomePasses (λ f. q f ≡ Some b) (f ∷ L)
      by None is rest = inl is
      by (Some c) is rest = inr (rest is)

  no_first : (a b : Bool) → (a || b) ≡ false → a ≡ false
  no_first true b p = absurd (cc)
  no_first false b p = refl

  no_second : (a b : Bool) → (a || b) ≡ false → b ≡ false
  no_second true b p = absurd (cc)
  no_second false b p = p

  each_last : (L : List A) (b : B) → some_pair (opposed against) (map q L) ≡ false → SomePasses (λ f. q f ≡ Some b) L → last_some (map q L) ≡ Some b
  each_last [] b none some = absurd some
  each_last (f ∷ L) b none (inl here) = by (last_some (map q L)) refl
    where
      first : list_any (opposed against (q f)) (map q L) ≡ false
      first = no_first _ _ none

      by : (o : Option B) → last_some (map q L) ≡ o → option_or o (q f) ≡ Some b
      by None is = here
      by (Some c) is = ap Some (sym (same b c (unopposed (against b c) refl)))
        where
          unopposed : (x : Bool) → against b c ≡ x → against b c ≡ false
          unopposed true p =
              absurd (let wrong : true ≡ false = sym (last_any against (opposed against (q f)) (map q L) c is (ap (λ o. opposed against o (Some c)) here ∙ p)) ∙ first in cc)
          unopposed false p = p
  each_last (f ∷ L) b none (inr later) = ap (λ o. option_or o (q f)) (each_last L b (no_second _ _ none) later)

  pub one_of : (L : List A) (o : Option B) (b : B) → o ≡ last_some (map q L) → some_pair (opposed against) (map q L) ≡ false → (o ≡ Some b) ↔ SomePasses (λ f. q f ≡ Some b) L
  one_of L o b is none = (λ h. last_of L b (sym is ∙ h), λ h. is ∙ each_last L b none h)

has_one : (L : List Fragment) (ns : Path) → is_some (last_some (map (λ f. look there f.0 ns) L)) ≡ list_any (has_namespace ns) L
has_one [] ns = refl
has_one (f ∷ L) ns = or_there (last_some (map (λ f. look there f.0 ns) L)) (at path_cmp path_of f.0 ns) ∙ ap (λ b. has_namespace ns f || b) (has_one L ns)
  where
    or_there : (o : Option (Unit {0})) (p : Option Definition) → is_some (option_or o (option_and_then there p)) ≡ (is_some p || is_some o)
    or_there None None = refl
    or_there None (Some d) = refl
    or_there (Some u) None = refl
    or_there (Some u) (Some d) = refl

there_seen : {V : Type 0} (o : Option V) → is_some o ≡ is_some (option_and_then there o)
there_seen None = refl
there_seen (Some v) = refl

same_declared : (k : DeclKind) (name : List ℕ) (o : Option Joined) → option_and_then (λ j. declared_in k name (finished j)) o ≡ option_and_then (λ j. declared_in k name j.definition) o
same_declared k name None = refl
same_declared kind.Common name (Some j) = refl
same_declared kind.Entity name (Some j) = refl
same_declared kind.Action name (Some j) = refl

module _ {L : List Fragment} {all : List (Option Name × Joined)} {found : Found} (h : Holds L all found) (no_clash : found.clash ≡ None) (no_conflict : found.conflict ≡ None) where
  unclashing : (p : Place) → some_pair (opposed always) (map (declared p) L) ≡ false
  unclashing p = (subst (λ o. IsLeastOf place_cmp (λ p. some_pair (opposed always) (map (declared p) L)) (option_map clash_place o)) no_clash h.clash) p

  unconflicting : (p : NotePlace) → some_pair differ (map (annotated (Some p.namespace) p.key) L) ≡ false
  unconflicting p = (subst (λ o. IsLeastOf note_cmp (λ p. some_pair differ (map (annotated (Some p.namespace) p.key) L)) (option_map conflict_place o)) no_conflict h.conflict) p

  merged_of : StandsInOrder (record { 0 = map_values finished all }) → Merged L (record { 0 = map_values finished all })
  merged_of in_order = record {
    namespaces = λ ns. there_seen (at path_cmp path_of (map_values finished all) ns) ∙ ap is_some (look-map_values there finished all ns ∙ h.namespaces ns) ∙ has_one L ns;
    declarations = λ p d. one_of always (λ a b e. absurd (cc)) (declared p) L _ d
        (look-map_values (declared_in p.kind p.name) finished all p.namespace ∙ same_declared p.kind p.name (at path_cmp path_of all p.namespace) ∙ h.declarations p) (unclashing p);
    annotations = λ ns key text. one_of unlike alike (annotated (Some ns) key) L _ text
        (look-map_values (λ d. text_at (annotation_entries d.annotations) key) finished all (Some ns) ∙ h.notes (record { namespace = ns; key = key })) (unconflicting (record { namespace = ns; key = key }));
    unnamed = λ key. look-map_values (λ d. text_at (annotation_entries d.annotations) key) finished all None ∙ h.unnamed key;
    ordered = in_order;
  }

pub merged : (L : List Fragment) (all : List (Option Name × Joined)) (found : Found) (f : Fragment) (o : Option MergeError) → Holds L all found → o ≡ error_of found → o ≡ None → f.0 ≡ map_values finished all → StandsInOrder f → Merged L f
merged L all found f o h told none is in_order =
    let neither = nothing_found L all found h found.clash found.conflict refl refl (sym told ∙ none) in
    let same : f ≡ record { 0 = map_values finished all } = λ i. record { 0 = is i } in
    subst (Merged L) (sym same) (merged_of h neither.0 neither.1 (subst StandsInOrder same in_order))
