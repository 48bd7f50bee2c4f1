-- SPDX-License-Identifier: Apache-2.0
-- The tokens of pieces that are put together.
use Rattle.std.proofs.Common.{◌≡◌, ℕ, List, [], ◌∷◌, ◌++◌, codes, map, refl, ap, ap₂, ◌∙◌, append-nil}
use Rattle.std.proofs.lemmas.List.{map-append}
use Rattle.std.proofs.lemmas.List.Concat.{flat_map-append}
use Rattle.std.specs.List.{flat_map}
use Rattle.cedar_names.specs.Annotating.{annotation_entries}
use Rattle.cedar_names.specs.declared.annotation.Annotation.{Annotation}
use Rattle.cedar_names.specs.declared.annotation.Annotations.{Annotations}
use Rattle.cedar_names.specs.declared.any_id.AnyId.{AnyId}
use Rattle.cedar_print.specs.Annotations.{annotation_pieces, annotations_pieces}
use Rattle.cedar_print.specs.Pieces.{Pieces, word, mark, comma, named, separated, following, bracketed, name_pieces}
use Rattle.cedar_print_laws.specs.Tokens.{said_by, said_name, said_behind, tokens_of}
use Rattle.cedar_tree.specs.Meanings.{annotation_tree, annotations_tree}
use Rattle.cedar_written.specs.declared.raw_name.RawName.{RawName}
use Rattle.cedar_reread.specs.Said.{Tokens, behind_colons, mark_token, said_annotation, said_annotations, said_items, said_list, said_more, said_path, word_token}
use Rattle.cedar_reread_print.specs.Spoken.{say, spoken, words}

pub say_append : (ps qs : Pieces RawName) → say (ps ++ qs) ≡ say ps ++ say qs
say_append ps qs = ap (map spoken) (flat_map-append (said_by words) ps qs) ∙ map-append spoken (tokens_of words ps) (tokens_of words qs)

-- pieces of these tokens before others
pub said_before : (ps qs : Pieces RawName) (ts us : Tokens) → say ps ≡ ts → say qs ≡ us → say (ps ++ qs) ≡ ts ++ us
said_before ps qs ts us first others = say_append ps qs ∙ ap₂ (λ (a b : Tokens). a ++ b) first others

-- ---- names

behind_spoken : (ws : List (List ℕ)) → map spoken (flat_map said_behind ws) ≡ flat_map behind_colons ws
behind_spoken [] = refl
behind_spoken (w ∷ ws) = ap (λ (ts : Tokens). behind_colons w ++ ts) (behind_spoken ws)

path_spoken : (ws : List (List ℕ)) → map spoken (said_name ws) ≡ said_path ws
path_spoken [] = refl
path_spoken (w ∷ ws) = ap (λ (ts : Tokens). word_token w ∷ ts) (behind_spoken ws)

-- a name
pub named_said : (n : RawName) → say (named n) ≡ said_path (words n)
named_said n = ap (map spoken) (append-nil (said_name (words n))) ∙ path_spoken (words n)

each_word : (ws : List (List ℕ)) → say (following (mark (codes "::") ∷ []) (λ w. word w ∷ []) ws) ≡ flat_map behind_colons ws
each_word [] = refl
each_word (w ∷ ws) = ap (λ (ts : Tokens). behind_colons w ++ ts) (each_word ws)

-- the words of a name
pub words_said : (ws : List (List ℕ)) → say (name_pieces ws) ≡ said_path ws
words_said [] = refl
words_said (w ∷ ws) = ap (λ (ts : Tokens). word_token w ∷ ts) (each_word ws)

-- ---- annotations

each_annotation : (es : List (AnyId × Annotation)) → say (flat_map annotation_pieces es) ≡ said_annotations (map annotation_tree es)
each_annotation [] = refl
each_annotation (e ∷ es) = ap (λ (ts : Tokens). said_annotation (annotation_tree e) ++ ts) (each_annotation es)

pub annotations_said : (a : Annotations) → say (annotations_pieces a) ≡ said_annotations (annotations_tree a)
annotations_said a = each_annotation (annotation_entries a)

-- ---- lists

module _ {T A : Type 0} (parts : T → Pieces RawName) (said : A → Tokens) (value : T → A) (same : (t : T) → say (parts t) ≡ said (value t)) where
  more_said : (items : List T) → say (following comma parts items) ≡ said_more said (map value items)
  more_said [] = refl
  more_said (item ∷ items) = ap (λ (ts : Tokens). mark_token (codes ",") ∷ ts) (said_before (parts item) (following comma parts items) (said (value item)) (said_more said (map value items)) (same item) (more_said items))

  items_said : (items : List T) → say (separated comma parts items) ≡ said_items said (map value items)
  items_said [] = refl
  items_said (item ∷ items) = said_before (parts item) (following comma parts items) (said (value item)) (said_more said (map value items)) (same item) (more_said items)

  -- in brackets
  pub list_said : (items : List T) → say (bracketed parts items) ≡ said_list said (map value items)
  list_said items = ap (λ (ts : Tokens). mark_token (codes "[") ∷ ts) (said_before (separated comma parts items) (mark (codes "]") ∷ []) (said_items said (map value items)) (mark_token (codes "]") ∷ []) (items_said items) refl)

  -- one behind another
  pub each_said : (items : List T) → say (flat_map parts items) ≡ flat_map said (map value items)
  each_said [] = refl
  each_said (item ∷ items) = said_before (parts item) (flat_map parts items) (said (value item)) (flat_map said (map value items)) (same item) (each_said items)
