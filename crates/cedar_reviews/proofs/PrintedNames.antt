-- SPDX-License-Identifier: Apache-2.0
-- Names as they are written tell their text, and so does what is printed with them.
use Rattle.std.proofs.Common.{◌≡◌, ℕ, List, [], ◌∷◌, ◌++◌, Option, Some, IfSome, refl, subst}
use Rattle.cedar_print.specs.Pieces.{Piece, Pieces, word, mark, quoted, name, blank, piece_text, quoted_text, text_of}

module _ {N : Type 0} (shown : N → List ℕ) where
  piece-told : (p : Piece N) → (told : List ℕ) × (piece_text (λ n. Some (shown n)) p ≡ Some told)
  piece-told (word text) = (text, refl)
  piece-told (mark text) = (text, refl)
  piece-told (quoted text) = (quoted_text text, refl)
  piece-told (name n) = (shown n, refl)
  piece-told (blank text) = (text, refl)

  text_of-told : (ps : Pieces N) → (told : List ℕ) × (text_of (λ n. Some (shown n)) ps ≡ Some told)
  text_of-told [] = ([], refl)
  text_of-told (p ∷ ps) = let first = piece-told p in let rest = text_of-told ps in (first.0 ++ rest.0, rw (first.1, rest.1) refl)

  -- a text that is what is told, if anything is, is told
  pub told-is : (ps : Pieces N) (text : List ℕ) → IfSome (text_of (λ n. Some (shown n)) ps) (λ told. text ≡ told) → text_of (λ n. Some (shown n)) ps ≡ Some text
  told-is ps text is =
      let told = text_of-told ps in
      let same : text ≡ told.0 = subst (λ (o : Option (List ℕ)). IfSome o (λ t. text ≡ t)) told.1 is in
      rw same told.1
