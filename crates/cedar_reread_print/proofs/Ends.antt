-- SPDX-License-Identifier: Apache-2.0
-- Pieces that are put together stand apart.
use Rattle.std.proofs.Common.{◌≡◌, ℕ, true, List, [], ◌∷◌, ◌++◌, codes, refl, sym, subst, inl, inr, append_assoc}
use Rattle.std.proofs.lemmas.Bool.{and_parts}
use Rattle.std.specs.List.{AllByRecursion, flat_map, list_all}
use Rattle.cedar_text.specs.Words.{is_word}
use Rattle.cedar_names.specs.Annotating.{annotation_entries}
use Rattle.cedar_names.specs.declared.annotation.Annotation.{Annotation}
use Rattle.cedar_names.specs.declared.annotation.Annotations.{Annotations}
use Rattle.cedar_names.specs.declared.any_id.AnyId.{AnyId}
use Rattle.cedar_print.specs.Annotations.{annotation_pieces, annotations_pieces}
use Rattle.cedar_print.specs.Pieces.{Pieces, word, mark, quoted, name, blank, comma, named, quoted_alone, separated, following, bracketed, name_pieces}
use Rattle.cedar_print_laws.specs.Apart.{a_word, other, Apart, AreWords, IsBlank}
use Rattle.cedar_tokens.specs.Forms.{IsPunct}
use Rattle.cedar_written.specs.Possibilities.{written as name_written}
use Rattle.cedar_written.specs.declared.raw_name.RawName.{RawName}
use Rattle.cedar_reread_print.specs.Spoken.{words}
use Rattle.cedar_reread_print.proofs.Names.{components_are_words, key_is_word}

-- pieces that stand anywhere but behind a word or a colon, before what may stand behind a word
abbrev pub Ends : Pieces RawName → Type 0
Ends ps = (rest : Pieces RawName) → Apart words a_word rest → Apart words other (ps ++ rest)

-- pieces that stand where they may stand behind a word, before the same
abbrev pub Passes : Pieces RawName → Type 0
Passes ps = (rest : Pieces RawName) → Apart words a_word rest → Apart words a_word (ps ++ rest)

-- whole lines
abbrev pub Lines : Pieces RawName → Type 0
Lines ps = (rest : Pieces RawName) → Apart words other rest → Apart words other (ps ++ rest)

-- what may stand behind a word may stand behind another piece
pub loosen : (rest : Pieces RawName) → Apart words a_word rest → Apart words other rest
loosen [] apart = tt
loosen (word w ∷ ps) apart = absurd apart.0
loosen (mark m ∷ ps) apart = apart
loosen (quoted t ∷ ps) apart = apart
loosen (name n ∷ ps) apart = absurd apart.0
loosen (blank b ∷ ps) apart = apart

-- pieces before others
pub ends_before : (ps qs : Pieces RawName) → Ends ps → Passes qs → Ends (ps ++ qs)
ends_before ps qs first others rest apart = subst (λ l. Apart words other l) (sym (append_assoc ps qs rest)) (first (qs ++ rest) (others rest apart))

pub passes_before : (ps qs : Pieces RawName) → Passes ps → Passes qs → Passes (ps ++ qs)
passes_before ps qs first others rest apart = subst (λ l. Apart words a_word l) (sym (append_assoc ps qs rest)) (first (qs ++ rest) (others rest apart))

pub lines_before : (ps qs : Pieces RawName) → Lines ps → Ends qs → Ends (ps ++ qs)
lines_before ps qs first others rest apart = subst (λ l. Apart words other l) (sym (append_assoc ps qs rest)) (first (qs ++ rest) (others rest apart))

pub more_lines : (ps qs : Pieces RawName) → Lines ps → Lines qs → Lines (ps ++ qs)
more_lines ps qs first others rest apart = subst (λ l. Apart words other l) (sym (append_assoc ps qs rest)) (first (qs ++ rest) (others rest apart))

-- several lines
pub each_line : {T : Type 0} (parts : T → Pieces RawName) → ((t : T) → Lines (parts t)) → (ts : List T) → Lines (flat_map parts ts)
each_line parts lines [] rest apart = apart
each_line parts lines (t ∷ ts) rest apart = more_lines (parts t) (flat_map parts ts) (lines t) (each_line parts lines ts) rest apart

-- ---- forms

pub one_blank : IsBlank (codes " ")
one_blank = (λ e. cc, refl)

pub one_end : IsBlank (codes "\n")
one_end = (λ e. cc, refl)

pub colons : IsPunct (codes "::")
colons = inl refl

-- ---- names, texts

pub named_ends : (n : RawName) → Ends (named n)
named_ends n rest apart = (tt, components_are_words (name_written n), apart)

pub quoted_ends : (t : List ℕ) → Ends (quoted_alone t)
quoted_ends t rest apart = (tt, loosen rest apart)

each_word : (ws : List (List ℕ)) → list_all is_word ws ≡ true → Passes (following (mark (codes "::") ∷ []) (λ w. word w ∷ []) ws)
each_word [] are rest apart = apart
each_word (w ∷ ws) are rest apart =
    let parts = and_parts (is_word w) (list_all is_word ws) are in
    (tt, colons, (tt, parts.0, each_word ws parts.1 rest apart))

pub words_end : (ws : List (List ℕ)) → AreWords ws → Ends (name_pieces ws)
words_end [] are rest apart = absurd (are.0 refl)
words_end (w ∷ ws) are rest apart =
    let parts = and_parts (is_word w) (list_all is_word ws) are.1 in
    (tt, parts.0, each_word ws parts.1 rest apart)

-- ---- annotations

each_annotation : (es : List (AnyId × Annotation)) → Lines (flat_map annotation_pieces es)
each_annotation [] rest apart = apart
each_annotation (e ∷ es) rest apart =
    (tt, inr (64, refl, refl), (tt, key_is_word e.0, (tt, inr (40, refl, refl), (tt, (tt, inr (41, refl, refl), (one_end, each_annotation es rest apart))))))

pub annotations_lines : (a : Annotations) → Lines (annotations_pieces a)
annotations_lines a = each_annotation (annotation_entries a)

-- ---- lists

module _ {T : Type 0} (parts : T → Pieces RawName) (b : List ℕ) (is : IsBlank b) where
  abbrev between : Pieces RawName
  between = mark (codes ",") ∷ blank b ∷ []

  following_pass : (items : List T) → AllByRecursion (λ t. Ends (parts t)) items → Passes (following between parts items)
  following_pass [] all rest apart = apart
  following_pass (item ∷ items) all rest apart =
      (tt, inr (44, refl, refl), (is, ends_before (parts item) (following between parts items) all.0 (following_pass items all.1) rest apart))

  pub separated_end : (items : List T) → AllByRecursion (λ t. Ends (parts t)) items → Ends (separated between parts items)
  separated_end [] all rest apart = loosen rest apart
  separated_end (item ∷ items) all rest apart = ends_before (parts item) (following between parts items) all.0 (following_pass items all.1) rest apart

all_end : {T : Type 0} (parts : T → Pieces RawName) → ((t : T) → Ends (parts t)) → (items : List T) → AllByRecursion {X = T} (λ t. Ends (parts t)) items
all_end parts each [] = tt
all_end parts each (item ∷ items) = (each item, all_end parts each items)

-- in brackets
pub list_ends : {T : Type 0} (parts : T → Pieces RawName) → ((t : T) → Ends (parts t)) → (items : List T) → Ends (bracketed parts items)
list_ends parts each items rest apart =
    (tt, inr (91, refl, refl), ends_before (separated comma parts items) (mark (codes "]") ∷ []) (separated_end parts (codes " ") one_blank items (all_end parts each items)) (λ more apart. (tt, inr (93, refl, refl), loosen more apart)) rest apart)
