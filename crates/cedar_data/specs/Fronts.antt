-- SPDX-License-Identifier: Apache-2.0
-- The front of a text: a number that tells most texts apart, and their order, and the eight bytes of that number, which
-- hold a text of fewer than eight.
use Rattle.std.specs.Prelude.{◌≡◌, ℕ, zero, suc, ◌+◌, ◌*◌, ◌^◌, ◌<◌, List, [], ◌∷◌, length, min, slice_index, cond, take, nat_lt, IsUtf8}
use Rattle.std.specs.Int.{w64, to_be_bytes}

-- the first k bytes as the digits of a number, the first as the greatest, with zeros after the end of the text
unfoldable pub digits : ℕ → List ℕ → ℕ
digits zero text = 0
digits (suc k) [] = 0
digits (suc k) (byte ∷ rest) = byte * 256 ^ k + digits k rest

-- the first seven bytes, and then the length, or 8 for a longer text
unfoldable pub front_of : List ℕ → ℕ
front_of text = digits 7 text * 256 + min (length text) 8

-- the text that a front holds where it is short, else the shared one
abbrev pub held_text : List ℕ → List ℕ → List ℕ
held_text front shared = cond (nat_lt (slice_index front 7) 8) (take (slice_index front 7) front) shared

-- n is the front of the text, and the text is of bytes
pub record IsFrontNumber (n : ℕ) (text : List ℕ) : Type 0 where
  pub number : n ≡ front_of text
  pub bytes : (k : ℕ) → slice_index text k < 256

-- the bytes are those of the front of the text
pub record HasFront (front text : List ℕ) : Type 0 where
  pub number : front ≡ to_be_bytes w64 (front_of text)
  pub bytes : (k : ℕ) → slice_index text k < 256
  pub valid : IsUtf8 text

-- the same, kept closed: it stands beside each text that is given up
unfoldable pub IsFront : List ℕ → List ℕ → Type 0
IsFront front text = HasFront front text
