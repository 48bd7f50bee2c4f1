-- SPDX-License-Identifier: Apache-2.0
use Rattle.std.proofs.Common.{◌&&◌, ap, sym, ◌∙◌}
use Rattle.std.specs.Cmp.Lexicographic.{pointwise}
use Rattle.cedar_names.specs.HashLaws.{id_eq, words_eq-parts}
use Rattle.cedar_tree.specs.Paths.{path_basename, path_namespace}
use Rattle.cedar_tree.proofs.path.have_same_ids.Goals as goal

pub returns-then-eq : goal.returns-then-eq
returns-then-eq c =
    let p = c.args.left.now in
    let q = c.args.right.now in
    c.eq-then-eq.ensures
    ∙ ap (λ b. b && pointwise id_eq (path_namespace p) (path_namespace q)) (sym c.if-eq.true ∙ c.eq.ensures)
    ∙ words_eq-parts (path_namespace p) (path_namespace q) (path_basename p) (path_basename q)

pub returns-else-eq : goal.returns-else-eq
returns-else-eq c =
    let p = c.args.left.now in
    let q = c.args.right.now in
    c.if-eq.false
    ∙ ap (λ b. b && pointwise id_eq (path_namespace p) (path_namespace q)) (sym c.if-eq.false ∙ c.eq.ensures)
    ∙ words_eq-parts (path_namespace p) (path_namespace q) (path_basename p) (path_basename q)
