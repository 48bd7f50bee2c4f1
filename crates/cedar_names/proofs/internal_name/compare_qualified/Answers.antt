-- SPDX-License-Identifier: Apache-2.0
use Rattle.std.proofs.Common.{◌≡◌, length, rules, sym, ap, ◌∙◌}
use Rattle.std.specs.Cmp.Lexicographic.{slice_cmp}
use Rattle.std.specs.Ordering.{ordering_then}
use Rattle.cedar_names.proofs.WordsLemmas.{id_cmp, words_cmp-parts}
use Rattle.cedar_names.proofs.internal_name.compare_qualified.Goals as goal

pub returns-in-Equal : goal.returns-in-Equal
returns-in-Equal c =
    let lengths : length c.args.left.now.namespace ≡ length c.args.right.now.namespace = search rules in
    let outer : c.cmp.result ≡ slice_cmp id_cmp c.args.left.now.namespace c.args.right.now.namespace = search rules in
    let base : c.cmp-in-Equal.result ≡ id_cmp c.args.left.now.basename c.args.right.now.basename = search rules in
    base ∙ ap (λ o. ordering_then o (id_cmp c.args.left.now.basename c.args.right.now.basename)) (sym c.in-Equal.is ∙ outer) ∙ sym (words_cmp-parts c.args.left.now c.args.right.now lengths)

pub returns-in-Less : goal.returns-in-Less
returns-in-Less c =
    let lengths : length c.args.left.now.namespace ≡ length c.args.right.now.namespace = search rules in
    let outer : c.cmp.result ≡ slice_cmp id_cmp c.args.left.now.namespace c.args.right.now.namespace = search rules in
    ap (λ o. ordering_then o (id_cmp c.args.left.now.basename c.args.right.now.basename)) (sym c.in-Less.is ∙ outer) ∙ sym (words_cmp-parts c.args.left.now c.args.right.now lengths)

pub returns-in-Greater : goal.returns-in-Greater
returns-in-Greater c =
    let lengths : length c.args.left.now.namespace ≡ length c.args.right.now.namespace = search rules in
    let outer : c.cmp.result ≡ slice_cmp id_cmp c.args.left.now.namespace c.args.right.now.namespace = search rules in
    ap (λ o. ordering_then o (id_cmp c.args.left.now.basename c.args.right.now.basename)) (sym c.in-Greater.is ∙ outer) ∙ sym (words_cmp-parts c.args.left.now c.args.right.now lengths)
