-- SPDX-License-Identifier: Apache-2.0
use Rattle.std.proofs.Common.{◌≡◌, ◌<◌, ◌≤◌, ◌+◌, [], ◌≢◌, length, get_or, rules, sym, ◌∙◌, ap}
use Rattle.std.specs.Option.{option_map}
use Rattle.cedar_data.proofs.RunEdits.{IsKnownRun, after-run, after-last, after-next-first}
use Rattle.cedar_data.proofs.Passing.{AllPass-at}
use Rattle.cedar_data.proofs.near.after_among.Goals as goal

pub returns-in-Some : goal.returns-in-Some
returns-in-Some g c =
    let run = c.index-runs-run.result in
    let known : IsKnownRun g.K.Ord.cmp c.args.runs.now c.args.key.now c.run_near-run.result run = record { inside = c.run_near-run.ensures.within; of = c.run_near-run.ensures.of; is = c.index-runs-run.is } in
    after-run g.met.K.Ord.total c.args.key.now c.args.runs.now c.run_near-run.result run known (c.in-Some.entry.0.now, c.in-Some.entry.1.now) c.in-Some.ensures

pub returns-in_err-next : goal.returns-in_err-next
returns-in_err-next g c =
    let run = c.index-runs-run.result in
    let known : IsKnownRun g.K.Ord.cmp c.args.runs.now c.args.key.now c.run_near-run.result run = record { inside = c.run_near-run.ensures.within; of = c.run_near-run.ensures.of; is = c.index-runs-run.is } in
    let last : length c.args.runs.now ≤ c.run_near-run.result + 1 = search rules in
    ap (option_map (λ e. (e.0.now, e.1.now))) c.from_residual.ensures
    ∙ after-last g.met.K.Ord.total c.args.key.now c.args.runs.now c.run_near-run.result run known c.in_default.ensures last

pub returns : goal.returns
returns g c =
    let run = c.index-runs-run.result in
    let known : IsKnownRun g.K.Ord.cmp c.args.runs.now c.args.key.now c.run_near-run.result run = record { inside = c.run_near-run.ensures.within; of = c.run_near-run.ensures.of; is = c.index-runs-run.is } in
    let inside : c.run_near-run.result + 1 < length c.args.runs.now = search rules in
    let next : c.in_ok-next.next.now ≡ get_or c.args.runs.now (c.run_near-run.result + 1) c.in_ok-next.next.now = search rules in
    let some : c.in_ok-next.next.now ≢ [] = λ none. AllPass-at (λ run. run ≢ []) c.args.runs.now (c.run_near-run.result + 1) c.in_ok-next.next.now inside c.requires.filled (sym next ∙ none) in
    after-next-first g.met.K.Ord.total c.args.key.now c.args.runs.now c.run_near-run.result run known (option_map (λ e. (e.0.now, e.1.now)) c.entry_at.result) c.in_ok-next.next.now c.in_default.ensures inside next some c.entry_at.ensures
