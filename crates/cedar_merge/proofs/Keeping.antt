-- SPDX-License-Identifier: Apache-2.0
-- Under which names the places are kept at which something is found.
use Rattle.std.proofs.Common.{◌≡◌, ◌⊎◌, inl, inr, ◌++◌, ◌||◌, ℕ, Bool, true, false, List, [], ◌∷◌, Option, Some, None, option_map, refl, sym, ap, ◌∙◌, subst}
use Rattle.std.specs.Prelude.{IsTrue}
use Rattle.std.specs.Ordering.{match_ordering}
use Rattle.std.specs.declared.cmp.Ordering.{Ordering}
use Rattle.std.specs.declared.cmp.Ordering.TheVariants.{Less, Equal, Greater}
use Rattle.cedar_data.specs.Firsts.{SomePasses}
use Rattle.cedar_names.specs.Identifiers.{any_word}
use Rattle.cedar_names.specs.Order.{word_cmp}
use Rattle.cedar_names.specs.declared.annotation.Annotation.{Annotation}
use Rattle.cedar_names.specs.declared.annotation.Annotations.{Annotations}
use Rattle.cedar_names.specs.declared.any_id.AnyId.{AnyId}
use Rattle.cedar_names.specs.declared.name.Name.{Name}
use Rattle.cedar_merge.specs.Joining.{ClashesAt, ConflictsAt, IsLeastOf, Keeps, again, annotations_with, clash_place, conflict_place, lesser, otherwise, texts_differ}
use Rattle.cedar_merge.specs.KeptNames.{KeepsNamespace}
use Rattle.cedar_merge.specs.Lookups.{Definition, Fragment, at_word}
use Rattle.cedar_merge.specs.Pairs.{SomePair, opposed}
use Rattle.cedar_merge.specs.Texts.{note_told, place_told}
use Rattle.cedar_merge.specs.contracts.places.ClashPlaceOrd.TheImpl as clash_order
use Rattle.cedar_merge.specs.contracts.places.ConflictPlaceOrd.TheImpl as conflict_order
use Rattle.cedar_merge.specs.declared.errors.DeclKind.{DeclKind}
use Rattle.cedar_merge.specs.declared.errors.MergeError.{MergeError}
use Rattle.cedar_merge.specs.declared.errors.MergeError.TheVariants.{AnnotationConflict, DuplicateDeclaration}
use Rattle.cedar_merge.specs.declared.places.ClashPlace.{ClashPlace}
use Rattle.cedar_merge.specs.declared.places.ConflictPlace.{ConflictPlace}
use Rattle.cedar_merge.proofs.Found.{least_noted, least_told, tested, tested_note}
use Rattle.cedar_merge.proofs.Parts.{actions, any_kind, commons, entities, same_note}

-- ---- some of a list, and pairs of it

module _ {A : Type 0} where
  pub some-weaker : {P Q : A → Type 0} (xs : List A) → ((x : A) → P x → Q x) → SomePasses P xs → SomePasses Q xs
  some-weaker [] f some = absurd some
  some-weaker (x ∷ xs) f (inl is) = inl (f x is)
  some-weaker (x ∷ xs) f (inr some) = inr (some-weaker xs f some)

  some-longer : (P : A → Type 0) (xs ys : List A) → SomePasses P xs → SomePasses P (xs ++ ys)
  some-longer P [] ys some = absurd some
  some-longer P (x ∷ xs) ys (inl is) = inl is
  some-longer P (x ∷ xs) ys (inr some) = inr (some-longer P xs ys some)

  -- the last one
  pub some-end : (P : A → Type 0) (xs : List A) (x : A) → P x → SomePasses P (xs ++ x ∷ [])
  some-end P [] x is = inl is
  some-end P (y ∷ ys) x is = inr (some-end P ys x is)

  -- another last one that passes where the last one did
  some-other : (P : A → Type 0) (xs : List A) (x z : A) → (P x → P z) → SomePasses P (xs ++ x ∷ []) → SomePasses P (xs ++ z ∷ [])
  some-other P [] x z f (inl is) = inl (f is)
  some-other P [] x z f (inr some) = absurd some
  some-other P (y ∷ ys) x z f (inl is) = inl is
  some-other P (y ∷ ys) x z f (inr some) = inr (some-other P ys x z f some)

  pair-longer : (R : A → A → Type 0) (xs ys : List A) → SomePair R xs → SomePair R (xs ++ ys)
  pair-longer R [] ys pair = absurd pair
  pair-longer R (x ∷ xs) ys (inl some) = inl (some-longer (R x) xs ys some)
  pair-longer R (x ∷ xs) ys (inr pair) = inr (pair-longer R xs ys pair)

  -- one of the others and the last one
  pub pair-end : (R : A → A → Type 0) (xs : List A) (x : A) → SomePasses (λ y. R y x) xs → SomePair R (xs ++ x ∷ [])
  pair-end R [] x some = absurd some
  pair-end R (y ∷ ys) x (inl is) = inl (some-end (R y) ys x is)
  pair-end R (y ∷ ys) x (inr some) = inr (pair-end R ys x some)

  pair-other : (R : A → A → Type 0) (xs : List A) (x z : A) → ((y : A) → R y x → R y z) → SomePair R (xs ++ x ∷ []) → SomePair R (xs ++ z ∷ [])
  pair-other R [] x z f (inl some) = absurd some
  pair-other R [] x z f (inr pair) = absurd pair
  pair-other R (y ∷ ys) x z f (inl some) = inl (some-other (R y) ys x z (f y) some)
  pair-other R (y ∷ ys) x z f (inr pair) = inr (pair-other R ys x z f pair)

-- ---- a longer list of fragments

-- one fragment more
pub keeps-longer : (L : List Fragment) (f : Fragment) (e : MergeError) → KeepsNamespace L e → KeepsNamespace (L ++ f ∷ []) e
keeps-longer L f (DuplicateDeclaration kind namespace name) keeps = pair-longer _ L (f ∷ []) keeps
keeps-longer L f (AnnotationConflict namespace key) keeps = pair-longer _ L (f ∷ []) keeps

-- one namespace more of the last fragment
pub keeps-grown : (L : List Fragment) (done : List (Option Name × Definition)) (n : Option Name × Definition) (e : MergeError)
    → KeepsNamespace (L ++ record { 0 = done } ∷ []) e → KeepsNamespace (L ++ record { 0 = done ++ n ∷ [] } ∷ []) e
keeps-grown L done n (DuplicateDeclaration kind namespace name) keeps = pair-other _ L (record { 0 = done }) (record { 0 = done ++ n ∷ [] }) (λ f under. some-longer _ done (n ∷ []) under) keeps
keeps-grown L done n (AnnotationConflict namespace key) keeps = pair-other _ L (record { 0 = done }) (record { 0 = done ++ n ∷ [] }) (λ f under. some-longer _ done (n ∷ []) under) keeps

-- ---- what is kept

module _ {P : Type 0} where
  -- the lesser of two is one of them
  lesser-one : (cmp : P → P → Ordering) (o p : Option P) → (lesser cmp o p ≡ o) ⊎ (lesser cmp o p ≡ p)
  lesser-one cmp None p = inr refl
  lesser-one cmp (Some a) None = inl refl
  lesser-one cmp (Some a) (Some b) = by (cmp b a)
    where
      by : (o : Ordering) → (match_ordering o (Some b) (Some a) (Some a) ≡ Some a) ⊎ (match_ordering o (Some b) (Some a) (Some a) ≡ Some b)
      by Less = inr refl
      by Equal = inl refl
      by Greater = inl refl

  keeps-lesser : (cmp : P → P → Ordering) (IsNew : P → Type 0) (before now : Option P) (p : P) → now ≡ lesser cmp before (Some p) → IsNew p → Keeps IsNew before now
  keeps-lesser cmp IsNew before now p gives new = by (lesser-one cmp before (Some p))
    where
      by : (lesser cmp before (Some p) ≡ before) ⊎ (lesser cmp before (Some p) ≡ Some p) → Keeps IsNew before now
      by (inl is) = inl (gives ∙ is)
      by (inr is) = inr (p, gives ∙ is, new)

  pub keeps-same : (IsNew : P → Type 0) (before : Option P) → Keeps IsNew before before
  keeps-same IsNew before = inl refl

  keeps-weaker : {IsNew IsOther : P → Type 0} {before now : Option P} → ((p : P) → IsNew p → IsOther p) → Keeps IsNew before now → Keeps IsOther before now
  keeps-weaker f (inl is) = inl is
  keeps-weaker f (inr (p, is, new)) = inr (p, is, f p new)

  keeps-then : {IsNew : P → Type 0} {first second third : Option P} → Keeps IsNew first second → Keeps IsNew second third → Keeps IsNew first third
  keeps-then (inl is) (inl next) = inl (next ∙ is)
  keeps-then (inr (p, is, new)) (inl next) = inr (p, next ∙ is, new)
  keeps-then before (inr new) = inr new

-- the least of one kind in one namespace
pub kind_kept : (path : Option Name) (kind : DeclKind) (test : List ℕ → Bool) {K : Type 0} (word : K → List ℕ) (least : Option K) (key : K) → IsLeastOf word_cmp test (option_map word least) → least ≡ Some key
    → (clash now : Option ClashPlace) (place : ClashPlace) → clash_place place ≡ place_told kind path (word key) → place.namespace ≡ path
    → now ≡ lesser clash_order.ghosts.cmp clash (Some place) → Keeps (ClashesAt path (tested path kind test)) clash now
kind_kept path kind test word least key found there clash now place told same gives =
    let is : IsLeastOf word_cmp test (Some (word key)) = subst (λ o. IsLeastOf word_cmp test (option_map word o)) there found in
    keeps-lesser clash_order.ghosts.cmp (ClashesAt path (tested path kind test)) clash now place gives
    (same, subst (λ p. IsTrue (tested path kind test p)) (sym told) (least_told path kind test (word key) is).holds)

-- that of the three kinds
or_first : (a b : Bool) → a ≡ true → (a || b) ≡ true
or_first true b is = refl
or_first false b is = absurd (cc)

or_second : (a b : Bool) → b ≡ true → (a || b) ≡ true
or_second true b is = refl
or_second false b is = is

pub kept_declarations : (path : Option Name) (before more : Definition) (o p q r : Option ClashPlace) → Keeps (ClashesAt path (commons path before more)) o p → Keeps (ClashesAt path (entities path before more)) p q
    → Keeps (ClashesAt path (actions path before more)) q r → Keeps (ClashesAt path (again path before more)) o r
kept_declarations path before more o p q r first second third =
    keeps-then (keeps-weaker (λ x new. (new.0, any x (or_first _ _ (or_first _ _ new.1)))) first)
    (keeps-then (keeps-weaker (λ x new. (new.0, any x (or_first _ _ (or_second (commons path before more (clash_place x)) _ new.1)))) second)
    (keeps-weaker (λ x new. (new.0, any x (or_second (commons path before more (clash_place x) || entities path before more (clash_place x)) _ new.1))) third))
  where
    any : (x : ClashPlace) → ((commons path before more (clash_place x) || entities path before more (clash_place x)) || actions path before more (clash_place x)) ≡ true → again path before more (clash_place x) ≡ true
    any x is = sym (any_kind path before more (clash_place x)) ∙ is

-- the least annotation
pub note_kept : (name : Name) (test : List ℕ → Bool) (least : Option AnyId) (key : AnyId) → IsLeastOf word_cmp test (option_map any_word least) → least ≡ Some key
    → (conflict now : Option ConflictPlace) (place : ConflictPlace) → conflict_place place ≡ note_told name key → place.namespace ≡ name
    → now ≡ lesser conflict_order.ghosts.cmp conflict (Some place) → Keeps (ConflictsAt (Some name) (tested_note name test)) conflict now
note_kept name test least key found there conflict now place told same gives =
    let is : IsLeastOf word_cmp test (Some (any_word key)) = subst (λ o. IsLeastOf word_cmp test (option_map any_word o)) there found in
    keeps-lesser conflict_order.ghosts.cmp (ConflictsAt (Some name) (tested_note name test)) conflict now place gives
    (ap Some same, subst (λ p. IsTrue (tested_note name test p)) (sym told) (least_noted name test (any_word key) is).holds)

pub kept_notes : (name : Name) (before more : List (AnyId × Annotation)) (annotations : Annotations) → annotations_with more ≡ annotations → (o p : Option ConflictPlace)
    → Keeps (ConflictsAt (Some name) (tested_note name (λ key. opposed texts_differ (at_word any_word before key) (at_word any_word more key)))) o p
    → Keeps (ConflictsAt (Some name) (otherwise (Some name) before annotations)) o p
kept_notes name before more annotations are o p keeps = keeps-weaker (λ x new. (new.0, sym (same_note name before more annotations are (conflict_place x)) ∙ new.1)) keeps

-- where a namespace has a name
pub some_kept : (path : Option Name) (name : Name) (before : List (AnyId × Annotation)) (annotations : Annotations) → path ≡ Some name → (o p : Option ConflictPlace)
    → Keeps (ConflictsAt (Some name) (otherwise (Some name) before annotations)) o p → Keeps (ConflictsAt path (otherwise path before annotations)) o p
some_kept path name before annotations some o p keeps = subst (λ q. Keeps (ConflictsAt q (otherwise q before annotations)) o p) (sym some) keeps
