-- SPDX-License-Identifier: Apache-2.0
-- The three kinds of declarations of a namespace, and its annotations, put together.
use Rattle.std.proofs.Common.{◌≡◌, ◌||◌, ◌&&◌, ℕ, Bool, true, false, List, [], ◌∷◌, ◌++◌, Option, Some, None, option_map, refl, sym, ap, ◌∙◌, subst, append_assoc}
use Rattle.std.proofs.lemmas.List.{append-nil}
use Rattle.std.specs.BTreeMap.{insert_entry}
use Rattle.std.specs.Cmp.{IsTotalOrder, on_total}
use Rattle.std.specs.Option.{option_or}
use Rattle.std.specs.Ordering.{is_eq, nat_cmp}
use Rattle.cedar_data.proofs.Rebuild.{insert_entry-last, sorted_next}
use Rattle.cedar_data.specs.Maps.{IsSortedMap}
use Rattle.cedar_names.specs.Annotating.{annotation_entries, any_cmp}
use Rattle.cedar_names.specs.Identifiers.{any_word, unreserved_word}
use Rattle.cedar_names.specs.declared.annotation.Annotation.{Annotation}
use Rattle.cedar_names.specs.declared.annotation.Annotations.{Annotations}
use Rattle.cedar_names.specs.declared.any_id.AnyId.{AnyId}
use Rattle.cedar_names.specs.declared.name.Name.{Name}
use Rattle.cedar_merge.specs.Joining.{AddsDeclarations, Finds, again, always, annotations_with, is_in, is_place_of, notes_under, otherwise, texts_differ}
use Rattle.cedar_merge.specs.Lookups.{Definition, Place, at_word, common_word, declared_in, path_cmp, path_of, text_at}
use Rattle.cedar_merge.specs.Merged.{NotePlace, differ, note_cmp, place_cmp, rank}
use Rattle.cedar_merge.specs.Pairs.{opposed}
use Rattle.cedar_merge.specs.declared.errors.DeclKind.{DeclKind}
use Rattle.cedar_merge.specs.declared.errors.DeclKind.TheVariants.{Common, Entity, Action}
use Rattle.cedar_merge.proofs.Leasts.{finds-both, finds-none, finds-same}
use Rattle.cedar_merge.proofs.Found.{tested_note}
use Rattle.cedar_merge.proofs.Orders.{words_exact}

map-or : {A B : Type 0} (f : A → B) (o p : Option A) → option_map f (option_or o p) ≡ option_or (option_map f o) (option_map f p)
map-or f None p = refl
map-or f (Some a) p = refl

always-map : {A B : Type 0} (f : A → B) (o p : Option A) → opposed always (option_map f o) (option_map f p) ≡ opposed always o p
always-map f None p = refl
always-map f (Some a) None = refl
always-map f (Some a) (Some b) = refl

differ-map : (o p : Option Annotation) → opposed texts_differ o p ≡ differ (option_map (λ a. a.val) o) (option_map (λ a. a.val) p)
differ-map None p = refl
differ-map (Some a) None = refl
differ-map (Some a) (Some b) = refl

-- all three kinds are added
pub adds : (before more now : Definition)
    → ((name : List ℕ) → at_word common_word now.common_types name ≡ option_or (at_word common_word more.common_types name) (at_word common_word before.common_types name))
    → ((name : List ℕ) → at_word unreserved_word now.entity_types name ≡ option_or (at_word unreserved_word more.entity_types name) (at_word unreserved_word before.entity_types name))
    → ((name : List ℕ) → at_word (λ id. id) now.actions name ≡ option_or (at_word (λ id. id) more.actions name) (at_word (λ id. id) before.actions name))
    → AddsDeclarations before more now
adds before more now commons entities actions kind name = by kind
  where
    by : (kind : DeclKind) → declared_in kind name now ≡ option_or (declared_in kind name more) (declared_in kind name before)
    by Common = ap (option_map _) (commons name) ∙ map-or _ (at_word common_word more.common_types name) (at_word common_word before.common_types name)
    by Entity = ap (option_map _) (entities name) ∙ map-or _ (at_word unreserved_word more.entity_types name) (at_word unreserved_word before.entity_types name)
    by Action = ap (option_map _) (actions name) ∙ map-or _ (at_word (λ id. id) more.actions name) (at_word (λ id. id) before.actions name)

only_first : (a x y z : Bool) → ((((a && true) && x) || ((a && false) && y)) || ((a && false) && z)) ≡ (a && x)
only_first true true y z = refl
only_first true false y z = refl
only_first false x y z = refl

only_second : (a x y z : Bool) → ((((a && false) && x) || ((a && true) && y)) || ((a && false) && z)) ≡ (a && y)
only_second true x true z = refl
only_second true x false z = refl
only_second false x y z = refl

only_third : (a x y z : Bool) → ((((a && false) && x) || ((a && false) && y)) || ((a && true) && z)) ≡ (a && z)
only_third true x y z = refl
only_third false x y z = refl

module _ (path : Option Name) (before more : Definition) where
  abbrev pub commons : Place → Bool
  commons p = is_place_of path Common p && opposed always (at_word common_word before.common_types p.name) (at_word common_word more.common_types p.name)

  abbrev pub entities : Place → Bool
  entities p = is_place_of path Entity p && opposed always (at_word unreserved_word before.entity_types p.name) (at_word unreserved_word more.entity_types p.name)

  abbrev pub actions : Place → Bool
  actions p = is_place_of path Action p && opposed always (at_word (λ id. id) before.actions p.name) (at_word (λ id. id) more.actions p.name)

  pub any_kind : (p : Place) → ((commons p || entities p) || actions p) ≡ again path before more p
  any_kind p = by p.kind
    where
      a : Bool
      a = is_eq (path_cmp (path_of path) p.namespace)

      x : Bool
      x = opposed always (at_word common_word before.common_types p.name) (at_word common_word more.common_types p.name)

      y : Bool
      y = opposed always (at_word unreserved_word before.entity_types p.name) (at_word unreserved_word more.entity_types p.name)

      z : Bool
      z = opposed always (at_word (λ id. id) before.actions p.name) (at_word (λ id. id) more.actions p.name)

      by : (kind : DeclKind) → ((((a && is_eq (nat_cmp (rank Common) (rank kind))) && x) || ((a && is_eq (nat_cmp (rank Entity) (rank kind))) && y)) || ((a && is_eq (nat_cmp (rank Action) (rank kind))) && z))
          ≡ (a && opposed always (declared_in kind p.name before) (declared_in kind p.name more))
      by Common = only_first a x y z ∙ ap (λ b. a && b) (sym (always-map _ (at_word common_word before.common_types p.name) (at_word common_word more.common_types p.name)))
      by Entity = only_second a x y z ∙ ap (λ b. a && b) (sym (always-map _ (at_word unreserved_word before.entity_types p.name) (at_word unreserved_word more.entity_types p.name)))
      by Action = only_third a x y z ∙ ap (λ b. a && b) (sym (always-map _ (at_word (λ id. id) before.actions p.name) (at_word (λ id. id) more.actions p.name)))

  -- what is found among the three kinds in turn
  pub finds_declarations : (o p q r : Option Place) → Finds place_cmp commons o p → Finds place_cmp entities p q → Finds place_cmp actions q r → Finds place_cmp (again path before more) o r
  finds_declarations o p q r f g h =
      finds-same place_cmp (λ x. (commons x || entities x) || actions x) (again path before more) any_kind o r
      (finds-both place_cmp (λ x. commons x || entities x) actions o q r (finds-both place_cmp commons entities o p q f g) h)

-- ---- annotations

-- annotations are added
pub adds_notes : (before now more : List (AnyId × Annotation)) (annotations : Annotations) → annotations_with more ≡ annotations
    → ((key : List ℕ) → at_word any_word now key ≡ option_or (at_word any_word more key) (at_word any_word before key)) → (key : List ℕ)
    → text_at now key ≡ option_or (text_at (annotation_entries annotations) key) (text_at before key)
adds_notes before now more annotations are values key =
    ap (option_map _) (values key) ∙ map-or _ (at_word any_word more key) (at_word any_word before key)
    ∙ ap (λ a. option_or (text_at (annotation_entries a) key) (text_at before key)) are

-- an annotation stands against another where its text does
pub same_note : (name : Name) (before more : List (AnyId × Annotation)) (annotations : Annotations) → annotations_with more ≡ annotations → (x : NotePlace)
    → tested_note name (λ key. opposed texts_differ (at_word any_word before key) (at_word any_word more key)) x ≡ otherwise (Some name) before annotations x
same_note name before more annotations are x =
    ap (λ b. is_in (Some name) (Some x.namespace) && b) (differ-map (at_word any_word before x.key) (at_word any_word more x.key) ∙ ap (λ a. differ (text_at before x.key) (text_at (annotation_entries a) x.key)) are)

-- what is found among them
pub finds_notes : (name : Name) (before more : List (AnyId × Annotation)) (annotations : Annotations) → annotations_with more ≡ annotations → (o p : Option NotePlace)
    → Finds note_cmp (tested_note name (λ key. opposed texts_differ (at_word any_word before key) (at_word any_word more key))) o p → Finds note_cmp (otherwise (Some name) before annotations) o p
finds_notes name before more annotations are o p f =
    finds-same note_cmp (tested_note name (λ key. opposed texts_differ (at_word any_word before key) (at_word any_word more key))) (otherwise (Some name) before annotations)
    (same_note name before more annotations are) o p f

-- where a namespace has no name, nothing is added
pub none_noted : (path : Option Name) (before : List (AnyId × Annotation)) (annotations : Annotations) → path ≡ None → (key : List ℕ) → text_at before key ≡ option_or (text_at (notes_under path annotations) key) (text_at before key)
none_noted path before annotations none key = ap (λ p. option_or (text_at (notes_under p annotations) key) (text_at before key)) (sym none)

-- and nothing is found
pub none_otherwise : (path : Option Name) (before : List (AnyId × Annotation)) (annotations : Annotations) → path ≡ None → (o : Option NotePlace) → Finds note_cmp (otherwise path before annotations) o o
none_otherwise path before annotations none o =
    subst (λ p. Finds note_cmp (otherwise p before annotations) o o) (sym none) (finds-none note_cmp (otherwise None before annotations) o (λ p. refl))

-- where it has one, what is added and found is that of its name
pub some_noted : (path : Option Name) (name : Name) (before now : List (AnyId × Annotation)) (annotations : Annotations) → path ≡ Some name
    → ((key : List ℕ) → text_at now key ≡ option_or (text_at (annotation_entries annotations) key) (text_at before key)) → (key : List ℕ) → text_at now key ≡ option_or (text_at (notes_under path annotations) key) (text_at before key)
some_noted path name before now annotations some notes key = notes key ∙ ap (λ p. option_or (text_at (notes_under p annotations) key) (text_at before key)) (sym some)

pub some_otherwise : (path : Option Name) (name : Name) (before : List (AnyId × Annotation)) (annotations : Annotations) → path ≡ Some name → (o p : Option NotePlace)
    → Finds note_cmp (otherwise (Some name) before annotations) o p → Finds note_cmp (otherwise path before annotations) o p
some_otherwise path name before annotations some o p f = subst (λ q. Finds note_cmp (otherwise q before annotations) o p) (sym some) f

-- ---- maps of annotations

any_total : IsTotalOrder any_cmp
any_total = on_total any_word words_exact.total

-- one more annotation, behind all others
pub put_last : (es : List (AnyId × Annotation)) {left rest whole new : List (AnyId × Annotation)} (key : AnyId) (note : Annotation) → es ++ left ≡ whole → IsSortedMap any_cmp whole → left ≡ (key, note) ∷ rest
    → new ≡ insert_entry any_cmp es key note → new ++ rest ≡ whole
put_last es {left} {rest} {whole} {new} key note split sorted first put =
    let last : new ≡ es ++ (key, note) ∷ [] = put ∙ insert_entry-last any_total es key note (sorted_next any_cmp es split first refl sorted) in
    ap (λ l. l ++ rest) last ∙ append_assoc es ((key, note) ∷ []) rest ∙ ap (λ l. es ++ l) (sym first) ∙ split

all_there : (es left whole : List (AnyId × Annotation)) → es ++ left ≡ whole → left ≡ [] → es ≡ whole
all_there es left whole split none = sym (append-nil es) ∙ ap (λ l. es ++ l) (sym none) ∙ split

-- all of them are put in
pub all_put : (annotations : Annotations) {left whole : List (AnyId × Annotation)} → annotation_entries annotations ++ left ≡ whole → left ≡ [] → annotations ≡ annotations_with whole
all_put annotations {left} {whole} split none = λ i. record { map = all_there (annotation_entries annotations) left whole split none i }

-- all of them are copied
pub all_copied : (notes : List (AnyId × Annotation)) {left : List (AnyId × Annotation)} (annotations : Annotations) → notes ++ left ≡ annotation_entries annotations → left ≡ [] → annotations_with notes ≡ annotations
all_copied notes {left} annotations split none = λ i. record { map = all_there notes left (annotation_entries annotations) split none i }
