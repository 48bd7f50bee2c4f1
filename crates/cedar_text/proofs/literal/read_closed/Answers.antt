-- SPDX-License-Identifier: Apache-2.0
use Rattle.std.proofs.Common.{◌≡◌, ◌<◌, Some, Ok, length, take, sym, ap, ◌∙◌, rules}
use Rattle.cedar_text.specs.Unescaping.{unescaped}
use Rattle.cedar_text.specs.declared.fault.NameFault.{NameFault}
use Rattle.cedar_text.proofs.LiteralLemmas.{IsCharBoundary-closed, IsCharBoundary-quote, fault-trailing, fault-none, closes}
use Rattle.cedar_text.proofs.literal.read_closed.Goals as goal

pub split_at-requires : goal.split_at-requires
split_at-requires c = IsCharBoundary-closed c.args.inner.now c.args.n c.requires.closed

pub split_at-requires-2 : goal.split_at-requires-2
split_at-requires-2 c = rw c.split_at.ensures.back (IsCharBoundary-quote c.args.inner.now c.args.n c.requires.closed c.utf8.inner)

pub returns-then-not-is_empty-clause-refused : goal.returns-then-not-is_empty-clause-refused
returns-then-not-is_empty-clause-refused c =
    let good : unescaped (take c.args.n c.args.inner.now) ≡ Ok c.in_ok-text.text = search rules in
    let some : 0 < length c.split_at-2.result.1.now = search rules in
    fault-trailing c.args.inner.now c.args.n c.requires.closed c.args.at c.in_ok-text.text c.split_at-2.result.1.now good (search rules) some ∙ ap (λ (f : NameFault). Some f) (sym c.in_ok-fault.ensures)

pub returns-clause-ok : goal.returns-clause-ok
returns-clause-ok c =
    let good : unescaped (take c.args.n c.args.inner.now) ≡ Ok c.in_ok-text.text = search rules in
    let none : length c.split_at-2.result.1.now ≡ 0 = search rules in (
      fault-none c.args.inner.now c.args.n c.requires.closed c.args.at c.in_ok-text.text c.split_at-2.result.1.now good (search rules) none,
      closes c.args.inner.now c.args.n c.requires.closed c.args.at c.in_ok-text.text c.split_at-2.result.1.now good (search rules) none,
    )
