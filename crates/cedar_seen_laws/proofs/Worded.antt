-- SPDX-License-Identifier: Apache-2.0
-- The words of pieces that are put together.
use Rattle.std.proofs.Common.{◌≡◌, ℕ, List, [], ◌∷◌, ◌++◌, codes, map, Option, refl, ap, ap₂, ◌∙◌}
use Rattle.std.proofs.lemmas.List.{map-append}
use Rattle.std.specs.Fmt.{◌++?◌}
use Rattle.std.specs.List.{flat_map}
use Rattle.cedar_names.specs.Annotating.{annotation_entries}
use Rattle.cedar_names.specs.Components.{components}
use Rattle.cedar_names.specs.declared.annotation.Annotation.{Annotation}
use Rattle.cedar_names.specs.declared.annotation.Annotations.{Annotations}
use Rattle.cedar_names.specs.declared.any_id.AnyId.{AnyId}
use Rattle.cedar_print.specs.Annotations.{annotation_pieces, annotations_pieces}
use Rattle.cedar_print.specs.Pieces.{Piece, Pieces, blank, bracketed, comma, following, mark, name, name_pieces, piece_text, quoted, separated, space, text_of, word}
use Rattle.cedar_tree.specs.Meanings.{annotation_tree, annotations_tree}
use Rattle.cedar_written.specs.Possibilities.{written}
use Rattle.cedar_written.specs.declared.raw_name.RawName.{RawName}
use Rattle.cedar_fragment.specs.Printed.{print_parents}
use Rattle.cedar_seen_laws.proofs.SeenPieces.{Words, note_pieces, notes_pieces, piece_worded, texts, worded}

-- pieces before others
pub worded_before : (ps qs : Pieces RawName) (ts us : Pieces Words) → worded ps ≡ ts → worded qs ≡ us → worded (ps ++ qs) ≡ ts ++ us
worded_before ps qs ts us first others = map-append piece_worded ps qs ∙ ap₂ (λ (a b : Pieces Words). a ++ b) first others

-- ---- lists

module _ {T A : Type 0} (parts : T → Pieces RawName) (said : A → Pieces Words) (see : T → A) (same : (t : T) → worded (parts t) ≡ said (see t)) where
  more_worded : (items : List T) → worded (following comma parts items) ≡ following comma said (map see items)
  more_worded [] = refl
  more_worded (item ∷ items) =
      ap (λ (ps : Pieces Words). mark (codes ",") ∷ space ∷ ps) (worded_before (parts item) (following comma parts items) (said (see item)) (following comma said (map see items)) (same item) (more_worded items))

  items_worded : (items : List T) → worded (separated comma parts items) ≡ separated comma said (map see items)
  items_worded [] = refl
  items_worded (item ∷ items) = worded_before (parts item) (following comma parts items) (said (see item)) (following comma said (map see items)) (same item) (more_worded items)

  -- in brackets
  pub list_worded : (items : List T) → worded (bracketed parts items) ≡ bracketed said (map see items)
  list_worded items =
      ap (λ (ps : Pieces Words). mark (codes "[") ∷ ps)
      (worded_before (separated comma parts items) (mark (codes "]") ∷ []) (separated comma said (map see items)) (mark (codes "]") ∷ []) (items_worded items) refl)

  -- behind `in`, where there are some
  pub parents_worded : (items : List T) → worded (print_parents parts items) ≡ print_parents said (map see items)
  parents_worded [] = refl
  parents_worded (item ∷ items) = ap (λ (ps : Pieces Words). space ∷ word (codes "in") ∷ space ∷ ps) (list_worded (item ∷ items))

  -- one behind another
  pub each_worded : (items : List T) → worded (flat_map parts items) ≡ flat_map said (map see items)
  each_worded [] = refl
  each_worded (item ∷ items) = worded_before (parts item) (flat_map parts items) (said (see item)) (flat_map said (map see items)) (same item) (each_worded items)

-- ---- names and annotations

further_words : (ws : List (List ℕ)) → worded (following (mark (codes "::") ∷ []) (λ w. word w ∷ []) ws) ≡ following (mark (codes "::") ∷ []) (λ w. word w ∷ []) ws
further_words [] = refl
further_words (w ∷ ws) = ap (λ (ps : Pieces Words). mark (codes "::") ∷ word w ∷ ps) (further_words ws)

-- the words of a name
pub path_worded : (ws : List (List ℕ)) → worded (name_pieces ws) ≡ name_pieces ws
path_worded [] = refl
path_worded (w ∷ ws) = ap (λ (ps : Pieces Words). word w ∷ ps) (further_words ws)

each_note : (es : List (AnyId × Annotation)) → worded (flat_map annotation_pieces es) ≡ flat_map note_pieces (texts (map annotation_tree es))
each_note [] = refl
each_note (e ∷ es) = ap (λ (ps : Pieces Words). note_pieces ((annotation_tree e).0, e.1.val) ++ ps) (each_note es)

pub notes_worded : (a : Annotations) → worded (annotations_pieces a) ≡ notes_pieces (annotations_tree a)
notes_worded a = each_note (annotation_entries a)

-- ---- texts

module _ (text : Words → Option (List ℕ)) where
  -- a name that shows itself by its words
  abbrev pub by_words : RawName → Option (List ℕ)
  by_words n = text (components (written n))

  piece_text_worded : (p : Piece RawName) → piece_text by_words p ≡ piece_text text (piece_worded p)
  piece_text_worded (word t) = refl
  piece_text_worded (mark t) = refl
  piece_text_worded (quoted t) = refl
  piece_text_worded (name n) = refl
  piece_text_worded (blank t) = refl

  -- the text of pieces is that of their words
  pub text_worded : (ps : Pieces RawName) → text_of by_words ps ≡ text_of text (worded ps)
  text_worded [] = refl
  text_worded (p ∷ ps) = λ i. piece_text_worded p i ++? text_worded ps i
