-- SPDX-License-Identifier: Apache-2.0
-- A law of texts that aren't the same.
use Rattle.std.specs.Prelude.{◌≡◌, ℕ, Bool, true, false, not, List, refl}
use Rattle.std.specs.Cmp.Lexicographic.{nat_list_eq_equiv}
use Rattle.std.specs.Str.{bytes_eq}
use Rattle.std.proofs.Common.{ap, ◌∙◌}
use Rattle.cedar_merge.specs.Merged.{unlike}

not_false : (b : Bool) → not b ≡ false → b ≡ true
not_false true p = refl
not_false false p = absurd (cc)

-- of three, the outer are the same where the middle one is the same as both
pub unlike_joins : (a b c : List ℕ) → unlike a b ≡ false → unlike b c ≡ false → unlike a c ≡ false
unlike_joins a b c p q = ap not (nat_list_eq_equiv.congr a b c (not_false (bytes_eq a b) p)) ∙ q
