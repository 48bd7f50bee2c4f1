-- SPDX-License-Identifier: Apache-2.0
-- A word that is longer than all words of a list is none of them.
use Rattle.std.proofs.Common.{◌≡◌, ◌<◌, ℕ, zero, suc, ◌+◌, Bool, true, false, ◌||◌, List, [], ◌∷◌, length, replicate, ap, refl, arith}
use Rattle.std.specs.List.{list_all}
use Rattle.std.specs.Str.{bytes_eq}
use Rattle.std.proofs.lemmas.List.{length-replicate}
use Rattle.std.proofs.lemmas.Slice.Eq.{bytes_eq-Decides}
use Rattle.cedar_tokens.specs.of_text.Words.{is_word, is_word_byte, has_word}

-- the length of some words together
total : List (List ℕ) → ℕ
total [] = 0
total (w ∷ ws) = length w + total ws

apart : (w v : List ℕ) (b : Bool) → bytes_eq w v ≡ b → length v < length w → b ≡ false
apart w v false e longer = refl
apart w v true e longer = absurd (omega (arith, ap length ((bytes_eq-Decides w v).0 e)))

neither : (a b : Bool) → a ≡ false → b ≡ false → (a || b) ≡ false
neither a b e f = rw (e, f) refl

longer_is_new : (ws : List (List ℕ)) (w : List ℕ) → total ws < length w → has_word ws w ≡ false
unfolding total
longer_is_new [] w longer = refl
longer_is_new (v ∷ ws) w longer = neither (bytes_eq w v) (has_word ws w) (apart w v (bytes_eq w v) refl (omega arith)) (longer_is_new ws w (omega arith))

-- a word that stands in no place of the list: so many letters `a`
pub fresh : List (List ℕ) → List ℕ
fresh ws = 97 ∷ replicate (total ws) 97

pub fresh_is_new : (ws : List (List ℕ)) → has_word ws (fresh ws) ≡ false
unfolding fresh
fresh_is_new ws = longer_is_new ws (97 ∷ replicate (total ws) 97) (omega (arith, length-replicate {A = ℕ} (total ws) 97))

word_bytes : (n : ℕ) → list_all is_word_byte (replicate n 97) ≡ true
word_bytes zero = refl
word_bytes (suc n) = word_bytes n

pub fresh_is_word : (ws : List (List ℕ)) → is_word (fresh ws) ≡ true
unfolding fresh
fresh_is_word ws = word_bytes (total ws)
