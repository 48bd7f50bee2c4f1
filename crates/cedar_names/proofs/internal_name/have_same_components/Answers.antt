-- SPDX-License-Identifier: Apache-2.0
use Rattle.std.proofs.Common.{◌∙◌}
use Rattle.std.specs.Cmp.Lexicographic.{pointwise}
use Rattle.cedar_names.specs.HashLaws.{id_eq}
use Rattle.cedar_names.proofs.WordsLemmas.{words_eq-then, words_eq-else}
use Rattle.cedar_names.proofs.internal_name.have_same_components.Goals as goal

pub returns-then-eq : goal.returns-then-eq
returns-then-eq c = words_eq-then c.args.left.now c.args.right.now _ _ c.eq.ensures c.if-eq.true
    (c.eq-then-eq.ensures ∙ λ i. pointwise id_eq (c.as_slice.ensures i) (c.as_slice-then-eq.ensures i))

pub returns-else-eq : goal.returns-else-eq
returns-else-eq c = words_eq-else c.args.left.now c.args.right.now _ c.eq.ensures c.if-eq.false
