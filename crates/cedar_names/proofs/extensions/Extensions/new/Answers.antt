-- SPDX-License-Identifier: Apache-2.0
use Rattle.std.proofs.Common.{Some, List, ℕ, ap, ◌∙◌, rules}
use Rattle.cedar_names.specs.declared.extensions.ExtensionsFault.TheVariants.{RepeatedName}
use Rattle.cedar_names.proofs.ExtensionLemmas.{Gathered-start, Gathered-next, Gathered-repeat, ascending_words, not_so, not_not_so}
use Rattle.cedar_names.proofs.extensions.Extensions.new.Goals as goal

pub loop-index-init : goal.loop-index-init
loop-index-init c = rw c.new-types.ensures (Gathered-start c.args.names.now)

pub loop-index-preserved : goal.loop-index-preserved
loop-index-preserved c =
    rw c.in_ok-insert.ensures.ok
    (Gathered-next c.args.names.now c.loop-index.index c.loop-index.types c.index-names-index.result c.in_ok-id.id c.loop-index.invariant (search rules) c.index-names-index.is
    (search rules) (search rules) (not_not_so _ _ c.in_ok-insert.ensures.added c.if-not-branch.false) (search rules))

pub returns-then-not-branch-clause-refused : goal.returns-then-not-branch-clause-refused
returns-then-not-branch-clause-refused c =
    Gathered-repeat c.args.names.now c.loop-index.index c.loop-index.types c.index-names-index.result c.in_ok-id.id c.loop-index.invariant (search rules) c.index-names-index.is
    (search rules) (search rules) (not_so _ _ c.in_ok-insert.ensures.added c.if-not-branch.true)
    ∙ ap (λ (name : List ℕ). Some (RepeatedName name)) (search rules)

pub returns-clause-ascending : goal.returns-clause-ascending
returns-clause-ascending c = ascending_words _ c.loop-index.invariant.ascending
