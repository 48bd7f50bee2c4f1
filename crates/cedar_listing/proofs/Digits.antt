-- SPDX-License-Identifier: Apache-2.0
-- The decimal digits of a number: those before the last, and the last one.
use Rattle.std.proofs.Common.{◌≡◌, ℕ, ◌++◌, ◌^◌, ◌<◌, ◌≤◌, ◌/◌, ◌%◌, decimal, sym, ap, ◌∙◌, arith}
use Rattle.std.proofs.lemmas.Fmt.{decimal_digit, decimal_step_wide}

pub last_apart : (n : ℕ) → 10 ≤ n → n < 2 ^ 128 → decimal n ≡ decimal (n / 10) ++ decimal (n % 10)
last_apart n many small = decimal_step_wide n many (omega arith) ∙ ap (λ ds. decimal (n / 10) ++ ds) (sym (decimal_digit (n % 10) (omega arith)))
