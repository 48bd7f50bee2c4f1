-- SPDX-License-Identifier: Apache-2.0
use Rattle.std.proofs.Common.{◌≡◌, [], refl, rules, ap, sym, subst, ◌++◌, ◌∙◌}
use Rattle.std.proofs.lemmas.List.{append-nil}
use Rattle.std.proofs.lemmas.Result.{IfOk-weaker}
use Rattle.std.specs.List.Sorted.{IsStrictlySortedBy}
use Rattle.std.specs.Map.{keys_of}
use Rattle.cedar_closure.proofs.Naming.{keys_made}
use Rattle.cedar_closure.proofs.key_graph.keys_of_nodes.Goals as goal

pub returns-then-is_empty : goal.returns-then-is_empty
returns-then-is_empty g c =
    let none : c.in_ok-others.others ≡ [] = search rules in
    let nodes = keys_of c.args.nodes.now in
    keys_made c.in_ok-others.others c.in_ok-others.ensures.beside c.in_ok-others.ensures.edges_ordered
    (c.in_ok-keys.ensures.keys ∙ sym (append-nil nodes) ∙ ap (λ l. nodes ++ l) (sym none))
    (subst (IsStrictlySortedBy g.K.Ord.cmp) (sym c.in_ok-keys.ensures.keys) c.in_ok-keys.ensures.ordered) (λ key. refl)

pub returns : goal.returns
returns g c =
    IfOk-weaker c.in_order.result _ _
    (λ keys sorts.
    keys_made c.in_ok-others.others c.in_ok-others.ensures.beside c.in_ok-others.ensures.edges_ordered
    (c.in_ok-push_copies.ensures ∙ ap (λ l. l ++ c.in_ok-others.others) c.in_ok-keys.ensures.keys) sorts.ordered sorts.same)
    c.in_order.ensures
