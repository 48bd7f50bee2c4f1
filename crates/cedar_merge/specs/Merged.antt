-- SPDX-License-Identifier: Apache-2.0
-- What a list of fragments is as one fragment, and what stands against it.
use Rattle.std.specs.Prelude.{◌≡◌, ◌↔◌, ◌&&◌, ℕ, Bool, not, List, Option, Some, None, is_some, IsTrue}
use Rattle.std.specs.List.{list_any}
use Rattle.std.specs.Ordering.{nat_cmp, ordering_then}
use Rattle.std.specs.Str.{bytes_eq}
use Rattle.std.specs.declared.cmp.Ordering.{Ordering}
use Rattle.cedar_data.specs.Firsts.{AllPass, IsLeast, SomePasses}
use Rattle.cedar_data.specs.Maps.{IsSortedMap}
use Rattle.cedar_names.specs.Annotating.{annotation_entries}
use Rattle.cedar_names.specs.Identifiers.{any_word, unreserved_word}
use Rattle.cedar_names.specs.Order.{word_cmp, words_cmp}
use Rattle.cedar_merge.specs.Lookups.{Declaration, Definition, Fragment, Path, Place, annotated, common_word, declared, has_namespace, path_cmp, path_of}
use Rattle.cedar_merge.specs.Pairs.{opposed, some_pair}
use Rattle.cedar_merge.specs.declared.errors.DeclKind.{DeclKind}
use Rattle.cedar_merge.specs.declared.errors.DeclKind.TheVariants.{Common, Entity, Action}

-- ---- order

-- the words of the keys ascend strictly
abbrev pub Ascends : {K V W : Type 0} → (W → W → Ordering) → (K → W) → List (K × V) → Type 0
Ascends cmp words es = IsSortedMap (λ a b. cmp (words a) (words b)) es

-- what a namespace declares stands in the order of its names, and its annotations in that of their keys
pub record DeclaresInOrder (d : Definition) : Type 0 where
  pub common_types : Ascends word_cmp common_word d.common_types
  pub entity_types : Ascends word_cmp unreserved_word d.entity_types
  pub actions : Ascends word_cmp (λ id. id) d.actions
  pub annotations : Ascends word_cmp any_word (annotation_entries d.annotations)

-- so do namespaces, and what each of them declares: nothing stands twice, and all that stands is found
pub record StandsInOrder (F : Fragment) : Type 0 where
  pub namespaces : Ascends path_cmp path_of F.0
  pub definitions : AllPass (λ n. DeclaresInOrder n.1) F.0

-- ---- the merged fragment

-- F is what the fragments of the list declare together
pub record Merged (L : List Fragment) (F : Fragment) : Type 0 where
  -- it has the namespaces of these fragments and no others
  pub namespaces : (ns : Path) → has_namespace ns F ≡ list_any (has_namespace ns) L
  -- in each it declares what some of them declares there
  pub declarations : (p : Place) (d : Declaration) → (declared p F ≡ Some d) ↔ SomePasses (λ f. declared p f ≡ Some d) L
  -- a named namespace has the annotations that it has in some of them
  pub annotations : (ns : List (List ℕ)) (key text : List ℕ) → (annotated (Some ns) key F ≡ Some text) ↔ SomePasses (λ f. annotated (Some ns) key f ≡ Some text) L
  -- and the unnamed one has none
  pub unnamed : (key : List ℕ) → annotated None key F ≡ None
  -- it stands in order, so that it has nothing else
  pub ordered : StandsInOrder F

-- two fragments say the same
pub record SayTheSame (F G : Fragment) : Type 0 where
  pub namespaces : (ns : Path) → has_namespace ns F ≡ has_namespace ns G
  pub declarations : (p : Place) → declared p F ≡ declared p G
  pub annotations : (ns : Path) (key : List ℕ) → annotated ns key F ≡ annotated ns key G

-- ---- clashes

-- the kinds in their order
abbrev pub rank : DeclKind → ℕ
rank Common = 0
rank Entity = 1
rank Action = 2

-- places are ordered by namespace, in it by kind, and then by name
abbrev pub place_cmp : Place → Place → Ordering
place_cmp p q = ordering_then (path_cmp p.namespace q.namespace) (ordering_then (nat_cmp (rank p.kind) (rank q.kind)) (word_cmp p.name q.name))

-- two fragments of the list declare something at the place
abbrev pub Clashes : List Fragment → Place → Type 0
Clashes L p = IsTrue (some_pair (λ f g. is_some (declared p f) && is_some (declared p g)) L)

abbrev pub NoClash : List Fragment → Type 0
NoClash L = (p : Place) → Clashes L p → ⊥

-- the least place of which this is so
abbrev pub IsClash : List Fragment → Place → Type 0
IsClash L p = IsLeast place_cmp (Clashes L) p

-- ---- conflicts

-- where a named namespace may have an annotation
pub record NotePlace : Type 0 where
  pub namespace : List (List ℕ)
  pub key : List ℕ

-- these are ordered by namespace, and then by key
abbrev pub note_cmp : NotePlace → NotePlace → Ordering
note_cmp p q = ordering_then (words_cmp p.namespace q.namespace) (word_cmp p.key q.key)

-- two texts that aren't the same
abbrev pub unlike : List ℕ → List ℕ → Bool
unlike s t = not (bytes_eq s t)

-- the same of two texts that may be there
abbrev pub differ : Option (List ℕ) → Option (List ℕ) → Bool
differ s t = opposed unlike s t

-- two fragments of the list give different texts there
abbrev pub Conflicts : List Fragment → NotePlace → Type 0
Conflicts L p = IsTrue (some_pair (λ f g. differ (annotated (Some p.namespace) p.key f) (annotated (Some p.namespace) p.key g)) L)

abbrev pub NoConflict : List Fragment → Type 0
NoConflict L = (p : NotePlace) → Conflicts L p → ⊥

-- the least place of which this is so
abbrev pub IsConflict : List Fragment → NotePlace → Type 0
IsConflict L p = IsLeast note_cmp (Conflicts L) p
