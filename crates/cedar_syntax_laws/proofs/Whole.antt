-- SPDX-License-Identifier: Apache-2.0
-- The tokens of a schema open at most two brackets more at a time than its types nest, so that tokens that are a schema whose types nest well make a text.
use Rattle.std.proofs.Common.{◌≤◌, ◌+◌, ℕ, List, [], ◌∷◌, arith}
use Rattle.std.specs.List.{AllByRecursion}
use Rattle.std.specs.Prelude.{All}
use Rattle.std.proofs.lemmas.List.Elements.{recursion_from_All}
use Rattle.cedar_tokens.specs.Lexemes.{TextToken}
use Rattle.cedar_grammar.specs.Grammar.{OpensAtMost, Reads, type_upto}
use Rattle.cedar_tree.specs.Nesting.{NestsWell, nest, nest_at_most, outermost_types}
use Rattle.cedar_tree.specs.Trees.{Node, Schema, TypeTree}
use Rattle.cedar_syntax.specs.Texts.{HasTokens, ReadsText, open_at_most}
use Rattle.cedar_syntax_laws.proofs.Grammar.{deepest, schema_opens, types_open}
use Rattle.cedar_syntax_laws.proofs.Opening.{opens_within}

deepest_at_most : (k : ℕ) (ts : List (Node TypeTree)) → AllByRecursion (λ t. nest t.node ≤ k) ts → deepest ts ≤ k
deepest_at_most k [] all = omega arith
deepest_at_most k (t ∷ ts) all = let others = deepest_at_most k ts all.1 in omega (arith, all.0, others)

pub few_open : (k : ℕ) (ts : List TextToken) (s : Schema) → Reads ts s → All (λ t. nest t.node ≤ k) (outermost_types s) → OpensAtMost (k + 2) ts
few_open k ts s (n, r) all =
    let le = deepest_at_most k (outermost_types s) (recursion_from_All (λ t. nest t.node ≤ k) (outermost_types s) all) in
    opens_within (k + 2) ts ((schema_opens (type_upto n) (types_open n)).keeps ts s [] r (k + 2) 0 (omega (arith, le)) (omega arith))

pub few_open_well : (ts : List TextToken) (s : Schema) → Reads ts s → NestsWell s → OpensAtMost open_at_most ts
few_open_well ts s reads nests = few_open nest_at_most ts s reads nests

pub reads_text : (text : List ℕ) (ts : List TextToken) (s : Schema) → HasTokens text ts → Reads ts s → NestsWell s → ReadsText text s
reads_text text ts s lexed reads nests = record { tokens = ts; lexed = lexed; brackets = few_open_well ts s reads nests; reads = reads; nests = nests }
