-- SPDX-License-Identifier: Apache-2.0
-- Texts that aren't the same, and texts put together.
use Rattle.std.proofs.Common.{◌≡◌, ◌++◌, ℕ, Bool, true, false, not, List, refl, sym, ap, ◌∙◌, append_assoc}
use Rattle.std.proofs.lemmas.Map.Text.{is_eq-slice_cmp}
use Rattle.std.specs.Ordering.{is_eq}
use Rattle.std.specs.Str.{bytes_eq}
use Rattle.cedar_merge.specs.Merged.{unlike}
use Rattle.cedar_merge.proofs.Orders.{tied, words_exact}
use Rattle.cedar_merge.proofs.Words.{is_same}

not_false : (b : Bool) → not b ≡ false → b ≡ true
not_false true p = refl
not_false false p = absurd (cc)

-- texts that aren't unlike are the same
pub alike : (s t : List ℕ) → unlike s t ≡ false → s ≡ t
alike s t is = is_same words_exact s t (is_eq-slice_cmp s t ∙ not_false (bytes_eq s t) is)

pub itself_alike : (s : List ℕ) → unlike s s ≡ false
itself_alike s = ap not (sym (is_eq-slice_cmp s s) ∙ ap is_eq (tied words_exact.total s))

-- five texts in a row
pub in_a_row : (a b c d e : List ℕ) → a ++ (b ++ (c ++ (d ++ e))) ≡ a ++ b ++ c ++ d ++ e
in_a_row a b c d e = sym (append_assoc (a ++ b ++ c) d e ∙ append_assoc (a ++ b) c (d ++ e) ∙ append_assoc a b (c ++ (d ++ e)))
