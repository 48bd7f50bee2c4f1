-- SPDX-License-Identifier: Apache-2.0
use Rattle.cedar_merge.proofs.Keeping.{kept_declarations}
use Rattle.cedar_merge.proofs.Parts.{adds, finds_declarations}
use Rattle.cedar_merge.proofs.joined.add_declarations.Goals as goal

pub returns-clause-declarations : goal.returns-clause-declarations
returns-clause-declarations c = adds c.args.all.now c.args.more _ c.in_ok-clash.ensures.values c.in_ok-clash-2.ensures.values c.in_ok-clash-3.ensures.values

pub returns-clause-clash : goal.returns-clause-clash
returns-clause-clash c =
    finds_declarations c.args.path.now c.args.all.now c.args.more _ _ _ _ c.in_ok-clash.ensures.clash c.in_ok-clash-2.ensures.clash c.in_ok-clash-3.ensures.clash

pub returns-clause-kept : goal.returns-clause-kept
returns-clause-kept c =
    kept_declarations c.args.path.now c.args.all.now c.args.more _ _ _ _ c.in_ok-clash.ensures.kept c.in_ok-clash-2.ensures.kept c.in_ok-clash-3.ensures.kept
