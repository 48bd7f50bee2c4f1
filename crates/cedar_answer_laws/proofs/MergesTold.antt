-- SPDX-License-Identifier: Apache-2.0
-- What is told of schemas that can't be merged is one text.
use Rattle.std.proofs.Common.{arith, ◌≡◌, ◌||◌, ◌&&◌, ℕ, Bool, List, [], ◌∷◌, ◌++◌, codes, map, Option, Some, None, is_some, option_map, refl, sym, ap, ◌∙◌}
use Rattle.std.proofs.lemmas.Map.Lookups.{exact_unsigned}
use Rattle.std.specs.List.{list_any}
use Rattle.std.specs.Ordering.{nat_cmp, ordering_then}
use Rattle.std.specs.declared.cmp.Ordering.{Ordering}
use Rattle.std.specs.declared.cmp.Ordering.TheVariants.{Less, Equal, Greater}
use Rattle.cedar_data.proofs.Exact.{IsExact}
use Rattle.cedar_data.proofs.Judging.{one_least}
use Rattle.cedar_text.specs.Escapes.{escaped}
use Rattle.cedar_text.specs.Joining.{joined}
use Rattle.cedar_names.specs.Order.{word_cmp, words_cmp}
use Rattle.cedar_names.specs.declared.any_id.AnyId.{AnyId}
use Rattle.cedar_names.specs.declared.name.Name.{Name}
use Rattle.cedar_convert_fragment.specs.Views.{fragment_seen}
use Rattle.cedar_merge.proofs.Found.{notes_total, places_total}
use Rattle.cedar_merge.proofs.Orders.{names_exact, paths_exact, words_exact}
use Rattle.cedar_merge.specs.Lookups.{Declaration, Path, Place, annotated, declared, path_cmp, path_of}
use Rattle.cedar_merge.specs.Merged.{Clashes, Conflicts, IsClash, IsConflict, NotePlace, differ, note_cmp, place_cmp, rank}
use Rattle.cedar_merge.specs.Pairs.{some_pair}
use Rattle.cedar_merge.specs.Texts.{conflict_text, duplicate_text, error_text, full_text, TellsClash, TellsConflict, note_told, place_told, within_text}
use Rattle.cedar_merge.specs.declared.errors.DeclKind.{DeclKind}
use Rattle.cedar_merge.specs.declared.errors.DeclKind.TheVariants.{Common, Entity, Action}
use Rattle.cedar_merge.specs.declared.errors.MergeError.{MergeError}
use Rattle.cedar_merge.specs.declared.errors.MergeError.TheVariants.{AnnotationConflict, DuplicateDeclaration}
use Rattle.cedar_merge_laws.proofs.SeenLookups.{declaration_seen, first_alike, rest_alike, seen_alike}
use Rattle.cedar_reviews.specs.Merging.{Agree, Held, TellsMerge}
use Rattle.cedar_reviews.specs.Refusal.{error_line}

-- ---- places that tie are the same

then_equal : (a b : Ordering) → ordering_then a b ≡ Equal → (a ≡ Equal) × (b ≡ Equal)
then_equal Less b is = absurd (cc)
then_equal Equal b is = (refl, is)
then_equal Greater b is = absurd (cc)

one_kind : (a b : DeclKind) → rank a ≡ rank b → a ≡ b
one_kind Common Common same = refl
one_kind Common Entity same = absurd (omega (arith, same))
one_kind Common Action same = absurd (omega (arith, same))
one_kind Entity Common same = absurd (omega (arith, same))
one_kind Entity Entity same = refl
one_kind Entity Action same = absurd (omega (arith, same))
one_kind Action Common same = absurd (omega (arith, same))
one_kind Action Entity same = absurd (omega (arith, same))
one_kind Action Action same = refl

places_exact : IsExact place_cmp
places_exact = record {
  total = places_total;
  exact = λ p q tie.
      let first = then_equal (path_cmp p.namespace q.namespace) (ordering_then (nat_cmp (rank p.kind) (rank q.kind)) (word_cmp p.name q.name)) tie in
      let others = then_equal (nat_cmp (rank p.kind) (rank q.kind)) (word_cmp p.name q.name) first.1 in
      let paths = paths_exact.exact p.namespace q.namespace first.0 in
      let kinds = one_kind p.kind q.kind (exact_unsigned (rank p.kind) (rank q.kind) others.0) in
      let names = words_exact.exact p.name q.name others.1 in
      λ i. record { namespace = paths i; kind = kinds i; name = names i };
}

notes_exact : IsExact note_cmp
notes_exact = record {
  total = notes_total;
  exact = λ p q tie.
      let both = then_equal (words_cmp p.namespace q.namespace) (word_cmp p.key q.key) tie in
      let paths = names_exact.exact p.namespace q.namespace both.0 in
      let keys = words_exact.exact p.key q.key both.1 in
      λ i. record { namespace = paths i; key = keys i };
}

-- ---- fragments that are seen alike have the same against each other

seen_there : (p : Place) (f g : Held) → fragment_seen f ≡ fragment_seen g → is_some (declared p f) ≡ is_some (declared p g)
seen_there p f g same = by (declared p f) ∙ ap is_some ((seen_alike f g same).declarations p) ∙ sym (by (declared p g))
  where
    by : (o : Option Declaration) → is_some o ≡ is_some (option_map declaration_seen o)
    by None = refl
    by (Some d) = refl

-- a test of two that goes by what is seen of each
module _ (against : Held → Held → Bool) (alike : (f g x y : Held) → fragment_seen f ≡ fragment_seen g → fragment_seen x ≡ fragment_seen y → against f x ≡ against g y) where
  any_alike : (f g : Held) → fragment_seen f ≡ fragment_seen g → (L M : List Held) → map fragment_seen L ≡ map fragment_seen M → list_any (against f) L ≡ list_any (against g) M
  any_alike f g same [] [] lists = refl
  any_alike f g same [] (y ∷ M) lists = absurd (cc)
  any_alike f g same (x ∷ L) [] lists = absurd (cc)
  any_alike f g same (x ∷ L) (y ∷ M) lists = λ i. alike f g x y same (first_alike x y L M lists) i || any_alike f g same L M (rest_alike x y L M lists) i

  pair_alike : (L M : List Held) → map fragment_seen L ≡ map fragment_seen M → some_pair against L ≡ some_pair against M
  pair_alike [] [] lists = refl
  pair_alike [] (y ∷ M) lists = absurd (cc)
  pair_alike (x ∷ L) [] lists = absurd (cc)
  pair_alike (x ∷ L) (y ∷ M) lists =
      let rest = rest_alike x y L M lists in
      λ i. any_alike x y (first_alike x y L M lists) L M rest i || pair_alike L M rest i

module _ (L M : List Held) (lists : map fragment_seen L ≡ map fragment_seen M) where
  clashes_alike : (p : Place) → some_pair (λ f g. is_some (declared p f) && is_some (declared p g)) L ≡ some_pair (λ f g. is_some (declared p f) && is_some (declared p g)) M
  clashes_alike p = pair_alike (λ f g. is_some (declared p f) && is_some (declared p g)) (λ f g x y same other i. seen_there p f g same i && seen_there p x y other i) L M lists

  conflicts_alike : (p : NotePlace) → some_pair (λ f g. differ (annotated (Some p.namespace) p.key f) (annotated (Some p.namespace) p.key g)) L ≡ some_pair (λ f g. differ (annotated (Some p.namespace) p.key f) (annotated (Some p.namespace) p.key g)) M
  conflicts_alike p =
      pair_alike (λ f g. differ (annotated (Some p.namespace) p.key f) (annotated (Some p.namespace) p.key g))
      (λ f g x y same other i. differ ((seen_alike f g same).annotations (Some p.namespace) p.key i) ((seen_alike x y other).annotations (Some p.namespace) p.key i)) L M lists

  clash_alike : (p : Place) → IsClash L p → IsClash M p
  clash_alike p is = record { holds = sym (clashes_alike p) ∙ is.holds; least = λ q clashes. is.least q (clashes_alike q ∙ clashes) }

  conflict_alike : (p : NotePlace) → IsConflict L p → IsConflict M p
  conflict_alike p is = record { holds = sym (conflicts_alike p) ∙ is.holds; least = λ q conflicts. is.least q (conflicts_alike q ∙ conflicts) }

  -- what agrees has no clash and no conflict
  clash_or_agree : (p : Place) → IsClash L p → Agree M → ⊥
  clash_or_agree p is agree = agree.0 p ((clash_alike p is).holds)

  conflict_or_agree : (p : NotePlace) → IsConflict L p → Agree M → ⊥
  conflict_or_agree p is agree = agree.1 p ((conflict_alike p is).holds)

-- ---- what is told of what they have against each other

abbrev within_said : Path → List ℕ
within_said None = []
within_said (Some words) = joined words ++ codes "::"

abbrev name_said : DeclKind → Path → List ℕ → List ℕ
name_said Common ns name = within_said ns ++ name
name_said Entity ns name = within_said ns ++ name
name_said Action ns name = within_said ns ++ codes "Action::\"" ++ escaped name ++ codes "\""

abbrev clash_said : Place → List ℕ
clash_said p = codes "`" ++ (name_said p.kind p.namespace p.name ++ codes "` is declared in more than one fragment")

within_same : (ns : Option Name) → within_text ns ≡ within_said (path_of ns)
within_same None = refl
within_same (Some path) = refl

name_same : (kind : DeclKind) (ns : Option Name) (name : List ℕ) → full_text kind ns name ≡ name_said kind (path_of ns) name
name_same Common ns name = ap (λ within. within ++ name) (within_same ns)
name_same Entity ns name = ap (λ within. within ++ name) (within_same ns)
name_same Action ns name = ap (λ within. within ++ codes "Action::\"" ++ escaped name ++ codes "\"") (within_same ns)

clash_same : (kind : DeclKind) (ns : Option Name) (name : List ℕ) → duplicate_text kind ns name ≡ clash_said (place_told kind ns name)
clash_same kind ns name = ap (λ said. codes "`" ++ (said ++ codes "` is declared in more than one fragment")) (name_same kind ns name)

abbrev conflict_said : NotePlace → List ℕ
conflict_said p = codes "annotation `" ++ p.key ++ codes "` of namespace `" ++ joined p.namespace ++ codes "` differs"

conflict_same : (ns : Name) (key : AnyId) → conflict_text ns key ≡ conflict_said (note_told ns key)
conflict_same ns key = refl

module _ (L M : List Held) (lists : map fragment_seen L ≡ map fragment_seen M) where
  one_error : (e e' : MergeError) → TellsClash L e → TellsConflict L e → TellsClash M e' → TellsConflict M e' → error_text e ≡ error_text e'
  one_error (DuplicateDeclaration kind ns name) (DuplicateDeclaration kind' ns' name') clash conflict clash' conflict' =
      clash_same kind ns name
      ∙ ap clash_said (one_least places_exact (Clashes M) (place_told kind ns name) (place_told kind' ns' name') (clash_alike L M lists (place_told kind ns name) clash) clash')
      ∙ sym (clash_same kind' ns' name')
  one_error (DuplicateDeclaration kind ns name) (AnnotationConflict ns' key') clash conflict clash' conflict' =
      absurd (conflict'.0 (place_told kind ns name) (clash_alike L M lists (place_told kind ns name) clash).holds)
  one_error (AnnotationConflict ns key) (DuplicateDeclaration kind' ns' name') clash conflict clash' conflict' =
      absurd (conflict.0 (place_told kind' ns' name') (clash_alike M L (sym lists) (place_told kind' ns' name') clash').holds)
  one_error (AnnotationConflict ns key) (AnnotationConflict ns' key') clash conflict clash' conflict' =
      conflict_same ns key
      ∙ ap conflict_said (one_least notes_exact (Conflicts M) (note_told ns key) (note_told ns' key') (conflict_alike L M lists (note_told ns key) conflict.1) conflict'.1)
      ∙ sym (conflict_same ns' key')

  pub one_merge_error : (due due' : List ℕ) → TellsMerge L due → TellsMerge M due' → due ≡ due'
  one_merge_error due due' (e, clash, conflict, is) (e', clash', conflict', is') = is ∙ ap error_line (one_error e e' clash conflict clash' conflict') ∙ sym is'

  error_or_agree : (e : MergeError) → TellsClash L e → TellsConflict L e → Agree M → ⊥
  error_or_agree (DuplicateDeclaration kind ns name) clash conflict agree = clash_or_agree L M lists (place_told kind ns name) clash agree
  error_or_agree (AnnotationConflict ns key) clash conflict agree = conflict_or_agree L M lists (note_told ns key) conflict.1 agree

  pub merge_error_or_agree : (due : List ℕ) → TellsMerge L due → Agree M → ⊥
  merge_error_or_agree due (e, clash, conflict, is) agree = error_or_agree e clash conflict agree
