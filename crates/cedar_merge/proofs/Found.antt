-- SPDX-License-Identifier: Apache-2.0
-- The least place at which something is found.
use Rattle.std.proofs.Common.{◌≡◌, ◌&&◌, ℕ, Bool, true, false, List, Option, Some, None, option_map, refl, sym, ap, ◌∙◌, subst}
use Rattle.std.proofs.lemmas.Cmp.{nat_cmp_total}
use Rattle.std.specs.Cmp.{IsTotalOrder, on_total, then_total}
use Rattle.std.specs.Ordering.{is_eq, match_ordering, nat_cmp, ordering_then}
use Rattle.std.specs.declared.cmp.Ordering.{Ordering}
use Rattle.std.specs.declared.cmp.Ordering.TheVariants.{Less, Equal, Greater}
use Rattle.cedar_names.specs.Identifiers.{any_word}
use Rattle.cedar_names.specs.Names.{name_words}
use Rattle.cedar_names.specs.Order.{word_cmp, words_cmp}
use Rattle.cedar_names.specs.declared.any_id.AnyId.{AnyId}
use Rattle.cedar_names.specs.declared.name.Name.{Name}
use Rattle.cedar_merge.specs.Joining.{Finds, IsLeastOf, clash_place, conflict_place, is_in, is_place_of, lesser}
use Rattle.cedar_merge.specs.Lookups.{Place, path_cmp, path_of}
use Rattle.cedar_merge.specs.Merged.{NotePlace, note_cmp, place_cmp, rank}
use Rattle.cedar_merge.specs.Texts.{note_told, place_told}
use Rattle.cedar_merge.specs.contracts.errors.DeclKindOrd.TheImpl as kind_order
use Rattle.cedar_merge.specs.contracts.places.ClashPlaceOrd.TheImpl as clash_order
use Rattle.cedar_merge.specs.contracts.places.ConflictPlaceOrd.TheImpl as conflict_order
use Rattle.cedar_merge.specs.declared.errors.DeclKind.{DeclKind}
use Rattle.cedar_merge.specs.declared.errors.DeclKind.TheVariants.{Common, Entity, Action}
use Rattle.cedar_merge.specs.declared.places.ClashPlace.{ClashPlace}
use Rattle.cedar_merge.specs.declared.places.ConflictPlace.{ConflictPlace}
use Rattle.cedar_merge.proofs.Leasts.{finds-lesser, finds-none}
use Rattle.cedar_merge.proofs.Orders.{by_path, names_exact, paths_exact, tied, words_exact}
use Rattle.cedar_merge.proofs.Words.{is_same}

-- ---- orders of places

pub places_total : IsTotalOrder place_cmp
places_total = then_total (on_total (λ (p : Place). p.namespace) paths_exact.total) (then_total (on_total (λ (p : Place). rank p.kind) nat_cmp_total) (on_total (λ (p : Place). p.name) words_exact.total))

pub notes_total : IsTotalOrder note_cmp
notes_total = then_total (on_total (λ (p : NotePlace). p.namespace) names_exact.total) (on_total (λ (p : NotePlace). p.key) words_exact.total)

kinds_ordered : (a b : DeclKind) → kind_order.ghosts.cmp a b ≡ nat_cmp (rank a) (rank b)
kinds_ordered Common Common = refl
kinds_ordered Common Entity = refl
kinds_ordered Common Action = refl
kinds_ordered Entity Common = refl
kinds_ordered Entity Entity = refl
kinds_ordered Entity Action = refl
kinds_ordered Action Common = refl
kinds_ordered Action Entity = refl
kinds_ordered Action Action = refl

clashes_ordered : (a b : ClashPlace) → clash_order.ghosts.cmp a b ≡ place_cmp (clash_place a) (clash_place b)
clashes_ordered a b = λ i. ordering_then (by_path a.namespace b.namespace i) (ordering_then (kinds_ordered a.kind b.kind i) (word_cmp a.name b.name))

conflicts_ordered : (a b : ConflictPlace) → conflict_order.ghosts.cmp a b ≡ note_cmp (conflict_place a) (conflict_place b)
conflicts_ordered a b = refl

-- the lesser of two, as it is seen
lesser-map : {A B : Type 0} (cmp : A → A → Ordering) (order : B → B → Ordering) (f : A → B) → ((a b : A) → cmp a b ≡ order (f a) (f b)) → (o p : Option A) → option_map f (lesser cmp o p) ≡ lesser order (option_map f o) (option_map f p)
lesser-map cmp order f same None p = refl
lesser-map cmp order f same (Some a) None = refl
lesser-map cmp order f same (Some a) (Some b) = by (cmp b a) ∙ ap (λ o. match_ordering o (Some (f b)) (Some (f a)) (Some (f a))) (same b a)
  where
    by : (o : Ordering) → option_map f (match_ordering o (Some b) (Some a) (Some a)) ≡ match_ordering o (Some (f b)) (Some (f a)) (Some (f a))
    by Less = refl
    by Equal = refl
    by Greater = refl

-- ---- the least of one kind in one namespace

both : (a b : Bool) → a ≡ true → b ≡ true → (a && b) ≡ true
both true b p q = q
both false b p q = absurd (cc)

pub first_of_both : (a b : Bool) → (a && b) ≡ true → a ≡ true
first_of_both true b p = refl
first_of_both false b p = absurd (cc)

pub second_of_both : (a b : Bool) → (a && b) ≡ true → b ≡ true
second_of_both true b p = p
second_of_both false b p = absurd (cc)

and_false : (a : Bool) → (a && false) ≡ false
and_false true = refl
and_false false = refl

same_rank : (k j : DeclKind) → is_eq (nat_cmp (rank k) (rank j)) ≡ true → nat_cmp (rank j) (rank k) ≡ Equal
same_rank Common Common e = refl
same_rank Common Entity e = absurd (cc)
same_rank Common Action e = absurd (cc)
same_rank Entity Common e = absurd (cc)
same_rank Entity Entity e = refl
same_rank Entity Action e = absurd (cc)
same_rank Action Common e = absurd (cc)
same_rank Action Entity e = absurd (cc)
same_rank Action Action e = refl

own_rank : (k : DeclKind) → is_eq (nat_cmp (rank k) (rank k)) ≡ true
own_rank Common = refl
own_rank Entity = refl
own_rank Action = refl

module _ (path : Option Name) (kind : DeclKind) (test : List ℕ → Bool) where
  abbrev pub tested : Place → Bool
  tested p = is_place_of path kind p && test p.name

  here : (name : List ℕ) → test name ≡ true → tested (place_told kind path name) ≡ true
  here name passes = both _ _ (both _ _ (ap is_eq (tied paths_exact.total (path_of path))) (own_rank kind)) passes

  nearer : (p : Place) (name : List ℕ) → is_place_of path kind p ≡ true → place_cmp p (place_told kind path name) ≡ word_cmp p.name name
  nearer p name is =
      let ns : path_of path ≡ p.namespace = is_same paths_exact (path_of path) p.namespace (first_of_both _ _ is) in
      (λ i. ordering_then ((subst (λ w. path_cmp p.namespace w ≡ Equal) (sym ns) (tied paths_exact.total p.namespace)) i) (ordering_then (same_rank kind p.kind (second_of_both _ _ is) i) (word_cmp p.name name)))

  pub least_told : (name : List ℕ) → IsLeastOf word_cmp test (Some name) → IsLeastOf place_cmp tested (Some (place_told kind path name))
  least_told name is = record {
    holds = here name is.holds;
    least = λ p passes l. is.least p.name (second_of_both _ _ passes) (sym (nearer p name (first_of_both _ _ passes)) ∙ l);
  }

  -- none is found
  pub kind_none : {K : Type 0} (word : K → List ℕ) (least : Option K) → IsLeastOf word_cmp test (option_map word least) → least ≡ None
      → (clash : Option ClashPlace) → Finds place_cmp tested (option_map clash_place clash) (option_map clash_place clash)
  kind_none word least found nowhere clash =
      let none : IsLeastOf word_cmp test None = subst (λ o. IsLeastOf word_cmp test (option_map word o)) nowhere found in
      finds-none place_cmp tested (option_map clash_place clash) (λ p. ap (λ b. is_place_of path kind p && b) (none p.name) ∙ and_false (is_place_of path kind p))

  -- one is found
  pub kind_some : {K : Type 0} (word : K → List ℕ) (least : Option K) (key : K) → IsLeastOf word_cmp test (option_map word least) → least ≡ Some key
      → (clash now : Option ClashPlace) (place : ClashPlace) → clash_place place ≡ place_told kind path (word key)
      → now ≡ lesser clash_order.ghosts.cmp clash (Some place) → Finds place_cmp tested (option_map clash_place clash) (option_map clash_place now)
  kind_some word least key found there clash now place told gives =
      let is : IsLeastOf word_cmp test (Some (word key)) = subst (λ o. IsLeastOf word_cmp test (option_map word o)) there found in
      subst (Finds place_cmp tested (option_map clash_place clash)) (sym (ap (option_map clash_place) gives ∙ lesser-map clash_order.ghosts.cmp place_cmp clash_place clashes_ordered clash (Some place)))
      (finds-lesser place_cmp places_total tested (option_map clash_place clash) (Some (clash_place place)) (subst (λ p. IsLeastOf place_cmp tested (Some p)) (sym told) (least_told (word key) is)))

module _ (name : Name) (test : List ℕ → Bool) where
  abbrev pub tested_note : NotePlace → Bool
  tested_note p = is_in (Some name) (Some p.namespace) && test p.key

  nearer_note : (p : NotePlace) (key : List ℕ) → is_in (Some name) (Some p.namespace) ≡ true → note_cmp p (record { namespace = name_words name; key = key }) ≡ word_cmp p.key key
  nearer_note p key is =
      let ns : name_words name ≡ p.namespace = is_same names_exact (name_words name) p.namespace is in
      (λ i. ordering_then ((subst (λ w. words_cmp p.namespace w ≡ Equal) (sym ns) (tied names_exact.total p.namespace)) i) (word_cmp p.key key))

  pub least_noted : (key : List ℕ) → IsLeastOf word_cmp test (Some key) → IsLeastOf note_cmp tested_note (Some (record { namespace = name_words name; key = key }))
  least_noted key is = record {
    holds = both _ _ (ap is_eq (tied names_exact.total (name_words name))) is.holds;
    least = λ p passes l. is.least p.key (second_of_both _ _ passes) (sym (nearer_note p key (first_of_both _ _ passes)) ∙ l);
  }

  pub notes_none : (least : Option AnyId) → IsLeastOf word_cmp test (option_map any_word least) → least ≡ None
      → (conflict : Option ConflictPlace) → Finds note_cmp tested_note (option_map conflict_place conflict) (option_map conflict_place conflict)
  notes_none least found nowhere conflict =
      let none : IsLeastOf word_cmp test None = subst (λ o. IsLeastOf word_cmp test (option_map any_word o)) nowhere found in
      finds-none note_cmp tested_note (option_map conflict_place conflict) (λ p. ap (λ b. is_in (Some name) (Some p.namespace) && b) (none p.key) ∙ and_false (is_in (Some name) (Some p.namespace)))

  pub notes_some : (least : Option AnyId) (key : AnyId) → IsLeastOf word_cmp test (option_map any_word least) → least ≡ Some key
      → (conflict now : Option ConflictPlace) (place : ConflictPlace) → conflict_place place ≡ note_told name key
      → now ≡ lesser conflict_order.ghosts.cmp conflict (Some place) → Finds note_cmp tested_note (option_map conflict_place conflict) (option_map conflict_place now)
  notes_some least key found there conflict now place told gives =
      let is : IsLeastOf word_cmp test (Some (any_word key)) = subst (λ o. IsLeastOf word_cmp test (option_map any_word o)) there found in
      subst (Finds note_cmp tested_note (option_map conflict_place conflict)) (sym (ap (option_map conflict_place) gives ∙ lesser-map conflict_order.ghosts.cmp note_cmp conflict_place conflicts_ordered conflict (Some place)))
      (finds-lesser note_cmp notes_total tested_note (option_map conflict_place conflict) (Some (conflict_place place)) (subst (λ p. IsLeastOf note_cmp tested_note (Some p)) (sym told) (least_noted (any_word key) is)))
