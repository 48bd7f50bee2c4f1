-- SPDX-License-Identifier: Apache-2.0
use Rattle.std.proofs.Common.{[]}
use Rattle.cedar_merge.proofs.Answering.{apart, merged, tells_clash, tells_conflict, tells_kept}
use Rattle.cedar_merge.proofs.Holding.{Holds-start}
use Rattle.cedar_merge.proofs.merging.merge.Goals as goal

pub returns-in-Some-clause-clash : goal.returns-in-Some-clause-clash
returns-in-Some-clause-clash c =
    let held = c.in_ok-found.ensures [] (Holds-start _ _ c.new-all.ensures c.nothing-before.ensures.clash c.nothing-before.ensures.conflict) in
    tells_clash c.args.fragments.items _ c.in_ok-found.found held c.told.result c.in-Some.error c.told.ensures c.in-Some.is

pub returns-in-Some-clause-conflict : goal.returns-in-Some-clause-conflict
returns-in-Some-clause-conflict c =
    let held = c.in_ok-found.ensures [] (Holds-start _ _ c.new-all.ensures c.nothing-before.ensures.clash c.nothing-before.ensures.conflict) in
    tells_conflict c.args.fragments.items _ c.in_ok-found.found held c.told.result c.in-Some.error c.told.ensures c.in-Some.is

pub returns-in-Some-clause-kept : goal.returns-in-Some-clause-kept
returns-in-Some-clause-kept c =
    let held = c.in_ok-found.ensures [] (Holds-start _ _ c.new-all.ensures c.nothing-before.ensures.clash c.nothing-before.ensures.conflict) in
    tells_kept c.args.fragments.items _ c.in_ok-found.found held c.told.result c.in-Some.error c.told.ensures c.in-Some.is

pub returns-in_ok-merged-in-None-clause-apart : goal.returns-in_ok-merged-in-None-clause-apart
returns-in_ok-merged-in-None-clause-apart c =
    let held = c.in_ok-found.ensures [] (Holds-start _ _ c.new-all.ensures c.nothing-before.ensures.clash c.nothing-before.ensures.conflict) in
    apart c.args.fragments.items _ c.in_ok-found.found held c.told.result c.told.ensures c.in-None.is

pub returns-in_ok-merged-in-None-clause-merged : goal.returns-in_ok-merged-in-None-clause-merged
returns-in_ok-merged-in-None-clause-merged c =
    let held = c.in_ok-found.ensures [] (Holds-start _ _ c.new-all.ensures c.nothing-before.ensures.clash c.nothing-before.ensures.conflict) in
    merged c.args.fragments.items _ c.in_ok-found.found c.in_ok-merged-in-None.merged c.told.result held c.told.ensures c.in-None.is c.in_ok-merged-in-None.ensures c.fragment_in_order.ensures
