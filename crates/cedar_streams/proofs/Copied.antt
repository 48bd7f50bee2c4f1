-- SPDX-License-Identifier: Apache-2.0
-- What a read from memory gives.
use Rattle.std.proofs.Common.{◌≡◌, List, [], ◌++◌, ℕ, ◌+◌, ◌<◌, length, min, take, drop, slice_range, Some, ap, sym, ◌∙◌, arith, length-append}
use Rattle.std.proofs.lemmas.List.{take-append-drop, take_at, length-take, length-drop, drop_all, drop-drop}
use Rattle.std.proofs.lemmas.Slice.{between_to_end}

-- the front of `left` goes to the front of the buffer: it and then what is left after it are what was left before
copied-gives : (left after buf filled : List ℕ) (n most : ℕ) → n ≡ min most (min (length buf) (length left)) → 0 < most
    → filled ≡ take n left ++ drop n buf → after ≡ drop n left
    → (Some left ≡ Some (take n filled ++ after)) × (n ≡ 0 → 0 < length filled → after ≡ [])
copied-gives left after buf filled n most count some copied rest =
    let short : length (take n left) ≡ n = omega (arith, length-take n left) in
    let front : take n filled ≡ take n left = ap (take n) copied ∙ take_at (take n left) (drop n buf) n short in (
      ap (λ s. Some s) (sym (ap (λ s. s ++ after) front ∙ ap (λ s. take n left ++ s) rest ∙ take-append-drop n left)),
      λ none lent. rest ∙ drop_all n left (omega (arith, ap length copied, length-append (take n left) (drop n buf), length-drop n buf, length-take n left)),
    )

-- a read from the bytes past `start`
pub gives-past : (bytes slice left buf filled : List ℕ) (start n most : ℕ)
    → slice ≡ bytes → drop start bytes ≡ left
    → n ≡ min most (min (length buf) (length (slice_range slice start (length slice)))) → 0 < most
    → filled ≡ take n (slice_range slice start (length slice)) ++ drop n buf
    → (Some left ≡ Some (take n filled ++ drop (start + n) bytes)) × (n ≡ 0 → 0 < length filled → drop (start + n) bytes ≡ [])
gives-past bytes slice left buf filled start n most same is count some copied =
    let past : slice_range slice start (length slice) ≡ left = between_to_end slice start (length slice) (omega arith) ∙ ap (drop start) same ∙ is in
    copied-gives left (drop (start + n) bytes) buf filled n most (rw past at count) some (rw past at copied) (sym (drop-drop n start bytes) ∙ ap (drop n) is)
