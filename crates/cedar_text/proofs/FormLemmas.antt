-- SPDX-License-Identifier: Apache-2.0
use Rattle.std.proofs.Common.{◌≡◌, ◌+◌, ◌<◌, ◌≤◌, ℕ, zero, suc, Bool, true, false, cond, List, [], ◌∷◌, ◌++◌, length, get_or, encode_utf8, refl, sym, subst, arith}
use Rattle.std.specs.Char.{len_utf8}
use Rattle.std.specs.List.{prefix_len, take_while}
use Rattle.std.specs.Str.{IsUtf8, IsCharBoundary}
use Rattle.std.proofs.lemmas.Bool.Decides.{nat_tests}
use Rattle.std.proofs.lemmas.List.Folds.{length-prefix_len}
use Rattle.std.proofs.lemmas.List.Sums.{prefix_len_passes, prefix_len-le-length}
use Rattle.std.proofs.lemmas.Str.{IsCharBoundary-start, IsCharBoundary-after_ascii, IsCharBoundary-past_char}
use Rattle.cedar_text.specs.Faults.{word_len}
use Rattle.cedar_text.specs.Words.{is_word_start, is_word_byte}

-- a text may be cut behind its first character
pub IsCharBoundary-first : (bs rest : List ℕ) (c n : ℕ) → IsUtf8 bs → bs ≡ encode_utf8 c ++ rest → n ≡ len_utf8 c → IsCharBoundary bs n
IsCharBoundary-first bs rest c n text front e =
    let cut = IsCharBoundary-past_char bs rest 0 c (omega arith) text front in
    let same : 0 + len_utf8 c ≡ n = omega arith in
    subst (IsCharBoundary bs) same cut

is_word_start-ascii : (b : ℕ) → is_word_start b ≡ true → b < 128
is_word_start-ascii b e = grind (arith, nat_tests, e)

is_word_byte-ascii : (b : ℕ) → is_word_byte b ≡ true → b < 128
is_word_byte-ascii b e = grind (arith, nat_tests, e)

-- a text that begins as a word may be cut behind n bytes that go on the word
cut_behind : (b : ℕ) (bs : List ℕ) (n : ℕ) → IsUtf8 (b ∷ bs) → b < 128 → n ≤ prefix_len is_word_byte bs → IsCharBoundary (b ∷ bs) (n + 1)
cut_behind b bs zero text low within = IsCharBoundary-after_ascii (b ∷ bs) 0 text (omega arith) low
cut_behind b bs (suc n) text low within =
    let room : n < length bs = omega (arith, prefix_len-le-length is_word_byte bs) in
    let passes = prefix_len_passes is_word_byte bs n 0 (omega arith) in
    IsCharBoundary-after_ascii (b ∷ bs) (suc n) text (omega arith) (is_word_byte-ascii (get_or bs n 0) passes)

-- a text may be cut behind the word at its front
pub IsCharBoundary-word_len : (s : List ℕ) (n : ℕ) → IsUtf8 s → n ≡ word_len s → IsCharBoundary s n
IsCharBoundary-word_len [] n text e = subst (IsCharBoundary []) (sym e) (IsCharBoundary-start [] text)
IsCharBoundary-word_len (b ∷ bs) n text e = by_start (is_word_start b) refl e
  where
    by_start : (starts : Bool) → is_word_start b ≡ starts → n ≡ cond starts (1 + length (take_while is_word_byte bs)) 0 → IsCharBoundary (b ∷ bs) n
    by_start true s is =
        let counted = length-prefix_len is_word_byte bs in
        let same : prefix_len is_word_byte bs + 1 ≡ n = omega arith in
        subst (IsCharBoundary (b ∷ bs)) same (cut_behind b bs (prefix_len is_word_byte bs) text (is_word_start-ascii b s) (omega arith))
    by_start false s is = subst (IsCharBoundary (b ∷ bs)) (sym is) (IsCharBoundary-start (b ∷ bs) text)
