-- SPDX-License-Identifier: Apache-2.0
-- What is held of fragments while they are merged, one after another.
use Rattle.std.specs.Prelude.{◌≡◌, ◌⊎◌, ◌||◌, ◌&&◌, ℕ, Bool, true, false, cond, List, [], ◌∷◌, Option, Some, None, IsTrue, map, option_map, unwrap_or}
use Rattle.std.specs.BTreeMap.{is_at}
use Rattle.std.specs.Option.{option_and_then, option_or}
use Rattle.std.specs.Ordering.{match_ordering, is_eq, nat_cmp}
use Rattle.std.specs.declared.cmp.Ordering.{Ordering}
use Rattle.cedar_data.specs.Firsts.{IsLeast}
use Rattle.cedar_names.specs.Annotating.{annotation_entries}
use Rattle.cedar_names.specs.declared.annotation.Annotation.{Annotation}
use Rattle.cedar_names.specs.declared.annotation.Annotations.{Annotations}
use Rattle.cedar_names.specs.declared.any_id.AnyId.{AnyId}
use Rattle.cedar_names.specs.declared.name.Name.{Name}
use Rattle.cedar_merge.specs.KeptNames.{KeepsNamespace}
use Rattle.cedar_merge.specs.Lookups.{Definition, Fragment, Path, Place, annotated, at, declared, declared_in, path_cmp, path_of, text_at}
use Rattle.cedar_merge.specs.Merged.{NotePlace, differ, note_cmp, place_cmp, rank, unlike}
use Rattle.cedar_merge.specs.Pairs.{opposed, some_pair}
use Rattle.cedar_merge.specs.Texts.{note_told, place_told}
use Rattle.cedar_merge.specs.declared.errors.DeclKind.{DeclKind}
use Rattle.cedar_merge.specs.declared.errors.MergeError.{MergeError}
use Rattle.cedar_merge.specs.declared.errors.MergeError.TheVariants.{AnnotationConflict, DuplicateDeclaration}
use Rattle.cedar_merge.specs.declared.joined.Found.{Found}
use Rattle.cedar_merge.specs.declared.joined.Joined.{Joined}
use Rattle.cedar_merge.specs.declared.places.ClashPlace.{ClashPlace}
use Rattle.cedar_merge.specs.declared.places.ConflictPlace.{ConflictPlace}

-- ---- the least place

-- the least of those that pass the test, or none where none passes
abbrev pub IsLeastOf : {A : Type 0} → (A → A → Ordering) → (A → Bool) → Option A → Type 0
IsLeastOf {A} cmp test None = (x : A) → test x ≡ false
IsLeastOf cmp test (Some x) = IsLeast cmp (λ y. IsTrue (test y)) x

-- the lesser of two, or the one that is there
abbrev pub lesser : {A : Type 0} → (A → A → Ordering) → Option A → Option A → Option A
lesser cmp None b = b
lesser cmp (Some a) None = Some a
lesser cmp (Some a) (Some b) = match_ordering (cmp b a) (Some b) (Some a) (Some a)

-- the key itself, where it is opposed and none was kept before it
abbrev pub first_of : {K : Type 0} → Option K → Bool → K → Option K
first_of least is_opposed key = option_or least (cond is_opposed (Some key) None)

-- with the least of those that pass the test before, there is now the least of those that pass either
pub record Finds {A : Type 0} (cmp : A → A → Ordering) (test : A → Bool) (before now : Option A) : Type 0 where
  pub finds : (earlier : A → Bool) → IsLeastOf cmp earlier before → IsLeastOf cmp (λ x. earlier x || test x) now

-- the place that is kept
abbrev pub clash_place : ClashPlace → Place
clash_place p = place_told p.kind p.namespace p.name

abbrev pub conflict_place : ConflictPlace → NotePlace
conflict_place p = note_told p.namespace p.key

-- what is kept was kept before, or it is new
abbrev pub Keeps : {P : Type 0} → (P → Type 0) → Option P → Option P → Type 0
Keeps {P} IsNew before now = (now ≡ before) ⊎ ((p : P) × (now ≡ Some p) × IsNew p)

-- a place under this very name, which passes the test
abbrev pub ClashesAt : Option Name → (Place → Bool) → ClashPlace → Type 0
ClashesAt path test p = (p.namespace ≡ path) × IsTrue (test (clash_place p))

abbrev pub ConflictsAt : Option Name → (NotePlace → Bool) → ConflictPlace → Type 0
ConflictsAt path test p = (Some p.namespace ≡ path) × IsTrue (test (conflict_place p))

-- the errors that tell them
abbrev pub clash_error : ClashPlace → MergeError
clash_error p = DuplicateDeclaration p.kind p.namespace p.name

abbrev pub conflict_error : ConflictPlace → MergeError
conflict_error p = AnnotationConflict p.namespace p.key

-- ---- one namespace

-- the values of two annotations aren't the same
abbrev pub texts_differ : Annotation → Annotation → Bool
texts_differ a b = unlike a.val b.val

-- the annotations that a map holds
abbrev pub annotations_with : List (AnyId × Annotation) → Annotations
annotations_with notes = record { map = notes }

-- nothing is said of a namespace
abbrev pub nothing : Joined
nothing = record {
  definition = record { common_types = []; entity_types = []; actions = []; annotations = annotations_with [] };
  notes = [];
}

-- the definition with its annotations
abbrev pub finished : Joined → Definition
finished j = record {
  common_types = j.definition.common_types;
  entity_types = j.definition.entity_types;
  actions = j.definition.actions;
  annotations = annotations_with j.notes;
}

-- the place is one of this namespace, for this kind
abbrev pub is_place_of : Option Name → DeclKind → Place → Bool
is_place_of path kind p = is_eq (path_cmp (path_of path) p.namespace) && is_eq (nat_cmp (rank kind) (rank p.kind))

-- it is one of this namespace
abbrev pub is_in : Option Name → Path → Bool
is_in path ns = is_at (path_cmp (path_of path)) ns

-- two declarations are always opposed
abbrev pub always : {A : Type 0} → A → A → Bool
always a b = true

-- what counts of the annotations of a namespace: all, where it has a name
abbrev pub notes_under : Option Name → Annotations → List (AnyId × Annotation)
notes_under None annotations = []
notes_under (Some path) annotations = annotation_entries annotations

-- what a namespace declares, after what the second definition declares is added to what it declared before
abbrev pub AddsDeclarations : Definition → Definition → Definition → Type 0
AddsDeclarations before d now = (kind : DeclKind) (name : List ℕ) → declared_in kind name now ≡ option_or (declared_in kind name d) (declared_in kind name before)

-- what is said of it in all, after what the definition says is added
pub record Joins (path : Option Name) (before : Joined) (d : Definition) (now : Joined) : Type 0 where
  pub declarations : AddsDeclarations before.definition d now.definition
  pub notes : (key : List ℕ) → text_at now.notes key ≡ option_or (text_at (notes_under path d.annotations) key) (text_at before.notes key)

-- what the definition declares that was declared before
abbrev pub again : Option Name → Definition → Definition → Place → Bool
again path before d p = is_in path p.namespace && opposed always (declared_in p.kind p.name before) (declared_in p.kind p.name d)

-- what it annotates in another way
abbrev pub otherwise : Option Name → List (AnyId × Annotation) → Annotations → NotePlace → Bool
otherwise path before annotations p = is_in path (Some p.namespace) && differ (text_at before p.key) (text_at (notes_under path annotations) p.key)

-- ---- all namespaces

-- what a part of the namespace's value says
abbrev pub look : {V A : Type 0} → (V → Option A) → List (Option Name × V) → Path → Option A
look part es ns = option_and_then part (at path_cmp path_of es ns)

-- the last value that is there
abbrev pub last_some : {A : Type 0} → List (Option A) → Option A
last_some [] = None
last_some (o ∷ os) = option_or (last_some os) o

-- that the namespace is there
abbrev pub there : {V : Type 0} → V → Option (Unit {0})
there v = Some tt

-- what is said of all namespaces, and what stands against merging, after these fragments
pub record Holds (L : List Fragment) (all : List (Option Name × Joined)) (found : Found) : Type 0 where
  pub namespaces : (ns : Path) → look there all ns ≡ last_some (map (λ f. look there f.0 ns) L)
  pub declarations : (p : Place) → look (λ j. declared_in p.kind p.name j.definition) all p.namespace ≡ last_some (map (declared p) L)
  pub notes : (p : NotePlace) → look (λ j. text_at j.notes p.key) all (Some p.namespace) ≡ last_some (map (annotated (Some p.namespace) p.key) L)
  pub unnamed : (key : List ℕ) → look (λ j. text_at j.notes key) all None ≡ None
  pub clash : IsLeastOf place_cmp (λ p. some_pair (opposed always) (map (declared p) L)) (option_map clash_place found.clash)
  pub conflict : IsLeastOf note_cmp (λ p. some_pair differ (map (annotated (Some p.namespace) p.key) L)) (option_map conflict_place found.conflict)
  pub kept_clash : (p : ClashPlace) → found.clash ≡ Some p → KeepsNamespace L (clash_error p)
  pub kept_conflict : (p : ConflictPlace) → found.conflict ≡ Some p → KeepsNamespace L (conflict_error p)

-- what was said of a namespace
abbrev pub said_of : List (Option Name × Joined) → Path → Joined
said_of all ns = unwrap_or (at path_cmp path_of all ns) nothing

-- what the definition says is added to what is said of this namespace
pub record AddsNamespace (path : Option Name) (d : Definition) (before : List (Option Name × Joined)) (found : Found) (now : List (Option Name × Joined)) (finds : Found) : Type 0 where
  pub joined : Joined
  pub put : (ns : Path) → at path_cmp path_of now ns ≡ cond (is_in path ns) (Some joined) (at path_cmp path_of before ns)
  pub joins : Joins path (said_of before (path_of path)) d joined
  pub clash : Finds place_cmp (again path (said_of before (path_of path)).definition d) (option_map clash_place found.clash) (option_map clash_place finds.clash)
  pub conflict : Finds note_cmp (otherwise path (said_of before (path_of path)).notes d.annotations) (option_map conflict_place found.conflict) (option_map conflict_place finds.conflict)
  pub kept_clash : Keeps (ClashesAt path (again path (said_of before (path_of path)).definition d)) found.clash finds.clash
  pub kept_conflict : Keeps (ConflictsAt path (otherwise path (said_of before (path_of path)).notes d.annotations)) found.conflict finds.conflict

-- the error of what was found: of the clash, or else of the conflict
abbrev pub error_of : Found → Option MergeError
error_of found = option_or (option_map clash_error found.clash) (option_map conflict_error found.conflict)
