-- SPDX-License-Identifier: Apache-2.0
use Rattle.std.proofs.Common.{◌≡◌, IfSome, IfNone, sym, subst}
use Rattle.cedar_data.proofs.RunEdits.{sorted-insert_entry}
use Rattle.cedar_data.proofs.entries.put_found.Goals as goal
use Rattle.cedar_data.proofs.entries.put_found.Goals.{in-Some+in-One-1, in-Some+in-Several-1, in_default}
use Rattle.cedar_data.specs.EntriesHeld.{IsOrderedHeld}
use Rattle.cedar_data.specs.Maps.{IsSortedMap}
use Rattle.cedar_data.specs.Runs.{all_runs, AreRuns}

pub returns-clause-ordered : goal.returns-clause-ordered
returns-clause-ordered g c =
    elim c.match-parts.branch [
      | in-Some+in-One-1 w ↦ (let parts = subst (λ r. IfSome r (λ runs. AreRuns g.K.Ord.cmp runs.items × (all_runs runs.items ≡ c.insert.new.self))) w.in-Some.is c.parted.ensures.parts in subst (IsOrderedHeld g.K.Ord.cmp) (sym w.held-is) parts.0)
      | in-Some+in-Several-1 w ↦ (let parts = subst (λ r. IfSome r (λ runs. AreRuns g.K.Ord.cmp runs.items × (all_runs runs.items ≡ c.insert.new.self))) w.in-Some.is c.parted.ensures.parts in subst (IsOrderedHeld g.K.Ord.cmp) (sym w.held-is) parts.0)
      | in_default w ↦
          let old : IsSortedMap g.K.Ord.cmp c.in-One.run' = subst (IsOrderedHeld g.K.Ord.cmp) c.in-One.is c.requires in
          let new = subst (IsSortedMap g.K.Ord.cmp) (sym c.in_ok-old-in-One.ensures.ok) (sorted-insert_entry g.met.K.Ord.total c.args.key c.args.value c.in-One.run' old) in
          let whole = subst (λ r. IfNone r (c.parted.new.run ≡ c.insert.new.self)) w.in_default.is c.parted.ensures.whole in
          subst (IsOrderedHeld g.K.Ord.cmp) (sym w.held-is) (subst (IsSortedMap g.K.Ord.cmp) (sym whole) new)
    ]
