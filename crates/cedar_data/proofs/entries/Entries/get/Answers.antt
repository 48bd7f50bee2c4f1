-- SPDX-License-Identifier: Apache-2.0
use Rattle.std.proofs.Common.{sym, ◌∙◌, ap}
use Rattle.cedar_data.proofs.RunEdits.{get-run, IsKnownRun-found}
use Rattle.cedar_data.specs.EntriesHeld.{entries_held}
use Rattle.cedar_data.specs.Maps.{get}
use Rattle.cedar_data.proofs.entries.Entries.get.Goals as goal

pub returns-in-Several : goal.returns-in-Several
returns-in-Several g c =
    let known = IsKnownRun-found c.as_slice.result.now c.in-Several.runs.items c.args.key.now c.run_of.result c.index.result.now c.as_slice.ensures.value c.run_of.ensures.within c.run_of.ensures.of c.index.ensures in
    c.get-in-Several.ensures
    ∙ get-run g.met.K.Ord.total c.args.key.now c.in-Several.runs.items c.run_of.result c.index.result.now known
    ∙ ap (λ es. get g.K.Ord.cmp es c.args.key.now) (sym (ap entries_held c.in-Several.is) ∙ c.self.view_is)
