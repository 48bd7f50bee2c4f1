-- SPDX-License-Identifier: Apache-2.0
-- A text of which each byte stands for itself in quoted text.
use Rattle.std.proofs.Common.{◌≡◌, ◌==◌, ℕ, true, List, [], ◌∷◌, length, refl, ap, arith}
use Rattle.std.proofs.lemmas.Bool.Decides.{nat_tests}
use Rattle.std.specs.Cmp.{first_so, second_so}
use Rattle.std.specs.List.{list_all}
use Rattle.cedar_text.specs.Escapes.{escaped, escaped_byte}

plain_byte : (b : ℕ) → (length (escaped_byte b) == 1) ≡ true → escaped_byte b ≡ b ∷ []
plain_byte b one = grind (arith, nat_tests, one)

-- it is the same in quoted text
pub plain_text : (bs : List ℕ) → list_all (λ b. length (escaped_byte b) == 1) bs ≡ true → escaped bs ≡ bs
plain_text [] all = refl
plain_text (b ∷ bs) all =
    rw (plain_byte b (first_so (length (escaped_byte b) == 1) (list_all (λ b. length (escaped_byte b) == 1) bs) all))
    (ap (λ (l : List ℕ). b ∷ l) (plain_text bs (second_so (length (escaped_byte b) == 1) (list_all (λ b. length (escaped_byte b) == 1) bs) all)))
