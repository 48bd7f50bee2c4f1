-- SPDX-License-Identifier: Apache-2.0
-- Each piece over names as they are written tells its text, and so does each fragment.
use Rattle.std.proofs.Common.{◌≡◌, ℕ, List, [], ◌∷◌, ◌++◌, Some, refl}
use Rattle.cedar_fragment.specs.ActionUids.{over_raw}
use Rattle.cedar_fragment.specs.Printed.{print}
use Rattle.cedar_fragment.specs.declared.definitions.Fragment.{Fragment}
use Rattle.cedar_print.specs.Pieces.{Piece, Pieces, word, mark, quoted, name, blank, piece_text, quoted_text, text_of}
use Rattle.cedar_text.specs.Joining.{joined}
use Rattle.cedar_written.specs.declared.raw_name.RawName.{RawName}
use Rattle.cedar_reread_print.specs.Spoken.{words}
use Rattle.cedar_reread_laws.specs.Shown.{IsPrintOf, shown}

piece_told : (p : Piece RawName) → (told : List ℕ) × (piece_text shown p ≡ Some told)
piece_told (word text) = (text, refl)
piece_told (mark text) = (text, refl)
piece_told (quoted text) = (quoted_text text, refl)
piece_told (name n) = (joined (words n), refl)
piece_told (blank text) = (text, refl)

pieces_told : (ps : Pieces RawName) → (told : List ℕ) × (text_of shown ps ≡ Some told)
pieces_told [] = ([], refl)
pieces_told (p ∷ ps) = let first = piece_told p in let rest = pieces_told ps in (first.0 ++ rest.0, rw (first.1, rest.1) refl)

-- each fragment has a text
pub fragment_told : (F : Fragment RawName over_raw) → (source : List ℕ) × IsPrintOf source F
fragment_told F = pieces_told (print F)
