-- SPDX-License-Identifier: Apache-2.0
-- Laws of the text of pieces.
use Rattle.std.proofs.Common.{◌≡◌, ℕ, List, [], ◌∷◌, ◌++◌, refl, sym, ap, ◌∙◌, append_assoc, Option, Some, None}
use Rattle.std.specs.Prelude.{codes}
use Rattle.std.proofs.Output.{then_text_assoc}
use Rattle.std.proofs.lemmas.List.{append-nil}
use Rattle.std.specs.Fmt.{◌++?◌}
use Rattle.std.specs.List.{flat_map}
use Rattle.cedar_names.specs.Maps.{map_values}
use Rattle.cedar_names.specs.Joining.{joined}
use Rattle.cedar_names.specs.Annotating.{annotation_entries, annotation_line, annotation_lines}
use Rattle.cedar_names.specs.Escapes.{escaped}
use Rattle.cedar_names.specs.declared.annotation.Annotation.{Annotation}
use Rattle.cedar_names.specs.declared.annotation.Annotations.{Annotations}
use Rattle.cedar_names.specs.declared.any_id.AnyId.{AnyId}
use Rattle.cedar_names.specs.Identifiers.{any_word}
use Rattle.cedar_print.specs.Annotations.{annotation_pieces, annotations_pieces, nameless}
use Rattle.cedar_print.specs.Pieces.{Pieces, mark, comma, piece_text, text_of, following, separated, bracketed, word, name_pieces}

-- an empty text before or behind
pub nothing_before : (o : Option (List ℕ)) → Some [] ++? o ≡ o
nothing_before None = refl
nothing_before (Some bs) = refl

pub nothing_behind : (o : Option (List ℕ)) → o ++? Some [] ≡ o
nothing_behind None = refl
nothing_behind (Some bs) = ap Some (append-nil bs)

module _ {N : Type 0} (shown : N → Option (List ℕ)) where
  pub text_of-append : (xs ys : Pieces N) → text_of shown (xs ++ ys) ≡ text_of shown xs ++? text_of shown ys
  text_of-append [] ys = sym (nothing_before (text_of shown ys))
  text_of-append (p ∷ xs) ys = ap (λ o. piece_text shown p ++? o) (text_of-append xs ys) ∙ sym (then_text_assoc (piece_text shown p) (text_of shown xs) (text_of shown ys))

module _ {N M T : Type 0} (shown : N → Option (List ℕ)) (shown' : M → Option (List ℕ)) (f : T → Pieces N) (g : T → Pieces M) (same : (t : T) → text_of shown (f t) ≡ text_of shown' (g t)) where
  -- items whose pieces show the same text do so in a row
  pub text_of-flat_map : (ts : List T) → text_of shown (flat_map f ts) ≡ text_of shown' (flat_map g ts)
  text_of-flat_map [] = refl
  text_of-flat_map (t ∷ ts) =
      text_of-append shown (f t) (flat_map f ts) ∙ (λ i. same t i ++? text_of-flat_map ts i) ∙ sym (text_of-append shown' (g t) (flat_map g ts))

  text_of-comma : (ps : Pieces N) (qs : Pieces M) → text_of shown ps ≡ text_of shown' qs → text_of shown (comma ++ ps) ≡ text_of shown' (comma ++ qs)
  text_of-comma ps qs is = ap (λ o. Some (codes ",") ++? (Some (codes " ") ++? o)) is

module _ {N M T : Type 0} (shown : N → Option (List ℕ)) (shown' : M → Option (List ℕ)) (f : T → Pieces N) (g : T → Pieces M) (same : (t : T) → text_of shown (f t) ≡ text_of shown' (g t)) where
  text_of-commas : (ts : List T) → text_of shown (following comma f ts) ≡ text_of shown' (following comma g ts)
  text_of-commas = text_of-flat_map shown shown' (λ t. comma ++ f t) (λ t. comma ++ g t) (λ t. text_of-comma shown shown' f g same (f t) (g t) (same t))

  text_of-items : (ts : List T) → text_of shown (separated comma f ts) ≡ text_of shown' (separated comma g ts)
  text_of-items [] = refl
  text_of-items (t ∷ ts) = text_of-append shown (f t) (following comma f ts) ∙ (λ i. same t i ++? text_of-commas ts i) ∙ sym (text_of-append shown' (g t) (following comma g ts))

  -- a list in brackets, as far as its items show the same
  pub text_of-bracketed : (ts : List T) → text_of shown (bracketed f ts) ≡ text_of shown' (bracketed g ts)
  text_of-bracketed ts =
      ap (λ o. Some (codes "[") ++? o) (text_of-append shown (separated comma f ts) (mark (codes "]") ∷ []) ∙ ap (λ o. o ++? text_of shown (mark (codes "]") ∷ [])) (text_of-items ts) ∙ sym (text_of-append shown' (separated comma g ts) (mark (codes "]") ∷ [])))

-- annotations hold no names
pub text_of-annotations : {N : Type 0} (shown : N → Option (List ℕ)) (a : Annotations) → text_of nameless (annotations_pieces a) ≡ text_of shown (annotations_pieces a)
text_of-annotations shown a = text_of-flat_map nameless shown annotation_pieces annotation_pieces (λ e. refl) (annotation_entries a)

together : (key value : List ℕ) → codes "@" ++ (key ++ (codes "(" ++ ((codes "\"" ++ (value ++ codes "\"")) ++ (codes ")" ++ (codes "\n" ++ []))))) ≡ codes "@" ++ key ++ codes "(\"" ++ value ++ codes "\")\n"
together key value = simp append_assoc

-- and their text is a line for each
module _ {N : Type 0} (shown : N → Option (List ℕ)) where
  text_of-annotation : (e : AnyId × Annotation) → text_of shown (annotation_pieces e) ≡ Some (annotation_line e)
  text_of-annotation e = ap Some (together (any_word e.0) (escaped e.1.val))

  text_of-entries : (es : List (AnyId × Annotation)) → text_of shown (flat_map annotation_pieces es) ≡ Some (flat_map annotation_line es)
  text_of-entries [] = refl
  text_of-entries (e ∷ es) = text_of-append shown (annotation_pieces e) (flat_map annotation_pieces es) ∙ (λ i. text_of-annotation e i ++? text_of-entries es i)

  pub text_of-annotation_lines : (a : Annotations) → text_of shown (annotations_pieces a) ≡ Some (annotation_lines a)
  text_of-annotation_lines a = text_of-entries (annotation_entries a)

-- what each value of a map becomes, before or behind
pub following-values : {K V W A : Type 0} (separator : List A) (parts : K × W → List A) (g : V → W) (es : List (K × V)) → following separator parts (map_values g es) ≡ following separator (λ e. parts (e.0, g e.1)) es
following-values separator parts g [] = refl
following-values separator parts g (e ∷ es) = ap (λ l. (separator ++ parts (e.0, g e.1)) ++ l) (following-values separator parts g es)

pub separated-values : {K V W A : Type 0} (separator : List A) (parts : K × W → List A) (g : V → W) (es : List (K × V)) → separated separator parts (map_values g es) ≡ separated separator (λ e. parts (e.0, g e.1)) es
separated-values separator parts g [] = refl
separated-values separator parts g (e ∷ es) = ap (λ l. parts (e.0, g e.1) ++ l) (following-values separator parts g es)

module _ {N : Type 0} (shown : N → Option (List ℕ)) where
  text_of-components : (ws : List (List ℕ)) → text_of shown (following (mark (codes "::") ∷ []) (λ w. word w ∷ []) ws) ≡ Some (flat_map (λ v. codes "::" ++ v) ws)
  text_of-components [] = refl
  text_of-components (w ∷ ws) = ap (λ o. Some (codes "::") ++? (Some w ++? o)) (text_of-components ws)

  -- a name is its words with `::` between them
  pub text_of-name : (ws : List (List ℕ)) → text_of shown (name_pieces ws) ≡ Some (joined ws)
  text_of-name [] = refl
  text_of-name (w ∷ ws) = ap (λ o. Some w ++? o) (text_of-components ws)
