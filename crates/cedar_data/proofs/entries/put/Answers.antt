-- SPDX-License-Identifier: Apache-2.0
use Rattle.std.proofs.Common.{sym, ◌∙◌}
use Rattle.cedar_data.proofs.Rebuild.{insert_entry-last}
use Rattle.cedar_data.proofs.RunAppend.{get-behind_all}
use Rattle.cedar_data.specs.EntriesHeld.{entries_held}
use Rattle.cedar_data.proofs.entries.put.Goals as goal

pub returns-then-ends_before-clause-ok : goal.returns-then-ends_before-clause-ok
returns-then-ends_before-clause-ok g c =
    c.in_ok-append.ensures.ok ∙ sym (insert_entry-last g.met.K.Ord.total (entries_held c.args.held.now) c.args.key c.args.value (c.ends_before.ensures c.if-ends_before.true))

pub returns-then-ends_before-clause-old : goal.returns-then-ends_before-clause-old
returns-then-ends_before-clause-old g c =
    sym (get-behind_all g.met.K.Ord.total (entries_held c.args.held.now) c.args.key c.args.value (c.ends_before.ensures c.if-ends_before.true))
