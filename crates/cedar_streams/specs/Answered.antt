-- SPDX-License-Identifier: Apache-2.0
-- What a call of a stream of std answered.
use Rattle.std.specs.Prelude.{ℕ, Option, None, Some, Result, MatchResult}

-- the stream, from what it was to what it is, answered a count, or failed
abbrev pub Answered : {S E : Type 0} → (S → S → Option ℕ → Type 0) → S → S → Result ℕ E → Type 0
Answered answers old new result = MatchResult result (λ n. answers old new (Some n)) (λ _. answers old new None)
