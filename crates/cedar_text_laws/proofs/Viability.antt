-- SPDX-License-Identifier: Apache-2.0
-- Tokens are the beginning of a schema or not, as reading them finds.
use Rattle.std.proofs.Common.{◌⊎◌, inl, inr, ℕ, zero, suc, List, [], Result, Ok, Err, sym, subst, arith, eqb-true}
use Rattle.std.proofs.lemmas.List.{append-nil}
use Rattle.cedar_tokens.specs.Lexemes.{TextToken}
use Rattle.cedar_tree.specs.Trees.{Schema}
use Rattle.cedar_grammar.specs.Grammar.{Reads, Viable}
use Rattle.cedar_grammar.specs.Reading.{schema_at}
use Rattle.cedar_grammar.specs.Stops.{Finds}
use Rattle.cedar_grammar.proofs.Viability.{viable_as_completable}
use Rattle.cedar_grammar.proofs.Wholes.{schema_finds}
use Rattle.cedar_syntax.proofs.Completing.{follows}

-- a schema is viable
pub read_viable : (ts : List TextToken) (s : Schema) → Reads ts s → Viable ts
read_viable ts s reads = (viable_as_completable ts).1 ([], s, subst (λ (us : List TextToken). Reads us s) (sym (append-nil ts)) reads)

by_finding : (ts : List TextToken) (found : Result (Schema × List TextToken) ℕ) → Finds ts found → Viable ts ⊎ (Viable ts → ⊥)
by_finding ts (Ok p) reads = inl (read_viable ts p.0 reads.0)
by_finding ts (Err zero) ends = inl ends.viable
by_finding ts (Err (suc n)) strays = inr (λ viable. absurd (omega (arith, eqb-true (suc n) 0 ((follows viable_as_completable ts (suc n) strays).1 viable))))

-- tokens are viable, or they aren't
pub viable_or_not : (ts : List TextToken) → Viable ts ⊎ (Viable ts → ⊥)
viable_or_not ts = by_finding ts (schema_at ts) (schema_finds ts)
