-- SPDX-License-Identifier: Apache-2.0
-- What stands at the front of a text: its end, a blank, a comment, a token, or none of these.
use Rattle.std.specs.Prelude.{ℕ, ◌+◌, ◌<◌, ◌==◌, nat_eq, Bool, false, not, ◌&&◌, if◌then◌else◌, List, drop, length, Option, Some, None, slice_get, codes, chars, encode_utf8, IsCharBoundary}
use Rattle.std.specs.Char.{is_whitespace}
use Rattle.std.specs.List.{starts_with, take_while, list_any}
use Rattle.cedar_text.specs.Words.{is_word_start, is_word_byte}
use Rattle.cedar_tokens.specs.Literals.{closed_len}
use Rattle.cedar_tokens.specs.declared.token.TokenKind.TheVariants as kind
use Rattle.cedar_tokens.specs.declared.piece.Piece.{Piece}
use Rattle.cedar_tokens.specs.declared.piece.Piece.TheVariants as piece

-- the characters that are tokens by themselves
abbrev pub is_mark : ℕ → Bool
is_mark c = list_any (λ mark. c == mark) (codes "{}[]()<>,;:=?@")

-- no line feed and no carriage return
abbrev pub is_not_line_end : ℕ → Bool
is_not_line_end b = not (b == 10) && not (b == 13)

-- a literal takes its opening quote, and what closes it
abbrev pub literal_piece : Option ℕ → Piece
literal_piece None = piece.Stray
literal_piece (Some len) = piece.Token kind.Str (1 + len)

-- two colons, or another mark, where the text bs begins with the character c
abbrev pub mark_from : ℕ → List ℕ → Piece
mark_from c bs =
    if starts_with nat_eq bs (codes "::") then piece.Token kind.Punct 2
    else (if is_mark c then piece.Token kind.Punct 1
    else piece.Stray)

-- the text bs begins with the character c: a blank; a word, as long as possible; a string literal; a comment, to the end of its line; or a mark
abbrev pub piece_from : ℕ → List ℕ → Piece
piece_from c bs =
    if is_whitespace c then piece.Gap (length (encode_utf8 c))
    else (if is_word_start c then piece.Token kind.Word (length (take_while is_word_byte bs))
    else (if c == 34 then literal_piece (closed_len 0 false (chars (drop 1 bs)))
    else (if starts_with nat_eq bs (codes "//") then piece.Gap (length (take_while is_not_line_end bs))
    else mark_from c bs)))

-- by the first character, if there is one
abbrev pub piece_of_first : Option ℕ → List ℕ → Piece
piece_of_first None bs = piece.End
piece_of_first (Some c) bs = piece_from c bs

-- what stands at the front of a text
unfoldable pub piece_at : List ℕ → Piece
piece_at bs = piece_of_first (slice_get (chars bs) 0) bs

-- a piece takes some bytes, and the text may be cut after it
abbrev pub CutsAt : Piece → List ℕ → Type 0
CutsAt (piece.Gap n) bs = (0 < n) × IsCharBoundary bs n
CutsAt (piece.Token k n) bs = (0 < n) × IsCharBoundary bs n
CutsAt _ bs = Unit {0}
