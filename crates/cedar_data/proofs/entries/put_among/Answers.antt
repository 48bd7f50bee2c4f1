-- SPDX-License-Identifier: Apache-2.0
use Rattle.std.proofs.Common.{◌≡◌, ◌+◌, ◌<◌, set, sym, ◌∙◌, ap, subst}
use Rattle.std.proofs.lemmas.List.{length-set}
use Rattle.cedar_data.proofs.RunEdits.{get-run, IsKnownRun, IsKnownRun-found, PutsIn, PutsIn-start, PutsIn-kept, PutsIn-parted}
use Rattle.std.specs.List.{insert}
use Rattle.cedar_data.specs.Maps.{get}
use Rattle.cedar_data.specs.Runs.{all_runs}
use Rattle.cedar_data.proofs.entries.put_among.Given.{Over}
use Rattle.cedar_data.proofs.entries.put_among.Goals as goal
use Rattle.cedar_data.proofs.entries.put_among.Goals.{in-Some+in_ok-insert, in_default}

known : (g : Over) (c : goal.Joined-surplus g) → IsKnownRun g.K.Ord.cmp c.reserve.new.self.items c.args.key c.run_of-at.result c.index_mut.result.now
known g c = IsKnownRun-found c.as_slice.result.now c.reserve.new.self.items c.args.key c.run_of-at.result c.index_mut.result.now c.as_slice.ensures.value c.run_of-at.ensures.within c.run_of-at.ensures.of c.index_mut.ensures.value

put : (g : Over) (c : goal.Joined-surplus g) → PutsIn g.K.Ord.cmp c.args.runs.now.items c.args.key c.args.value c.match-surplus.runs.items
put g c =
    let room = c.reserve.new.self.items in
    let at = c.run_of-at.result in
    let start = PutsIn-start g.met.K.Ord.total c.args.key c.args.value c.args.runs.now.items room at c.index_mut.result.now c.insert.new.self c.requires c.reserve.ensures.items (known g c) c.in_ok-old.ensures.ok in
    let new = set room at c.insert.new.self in
    elim c.match-surplus.branch [
      | in-Some+in_ok-insert w ↦
          let parts = w.in-Some.ensures.parts in
          let inside = subst (λ n. at < n) (sym (length-set room at c.insert.new.self)) (known g c).inside in
          let last : c.match-surplus.runs.items ≡ insert (set new at c.surplus.new.run) (at + 1) w.in-Some.more = ap (λ v. v.items) w.runs-is ∙ w.in_ok-insert.ensures.items in
          PutsIn-parted new c.match-surplus.runs.items at c.index_mut-2.result.now c.surplus.new.run w.in-Some.more start inside c.index_mut-2.ensures.value parts.0 parts.1 parts.2 last
      | in_default w ↦
          PutsIn-kept new c.match-surplus.runs.items at c.index_mut-2.result.now c.surplus.new.run start c.index_mut-2.ensures.value w.in_default.ensures.whole (ap (λ v. v.items) w.runs-is)
    ]

pub returns-clause-ok : goal.returns-clause-ok
returns-clause-ok g c = (put g c).whole

pub returns-clause-old : goal.returns-clause-old
returns-clause-old g c =
    c.in_ok-old.ensures.old
    ∙ get-run g.met.K.Ord.total c.args.key c.reserve.new.self.items c.run_of-at.result c.index_mut.result.now (known g c)
    ∙ ap (λ runs. get g.K.Ord.cmp (all_runs runs) c.args.key) c.reserve.ensures.items

pub returns-clause-runs : goal.returns-clause-runs
returns-clause-runs g c = (put g c).runs
