-- SPDX-License-Identifier: Apache-2.0
use Rattle.cedar_merge.proofs.Putting.{adds_namespace}
use Rattle.cedar_merge.proofs.merging.add_namespace.Goals as goal

pub returns : goal.returns
returns c =
    adds_namespace c.args.path c.args.definition c.args.all.now _ _ c.args.found c.in_ok-now.now c.in_ok-joined.joined _
    c.in_ok-joined.ensures.taken c.in_ok-joined.ensures.left
    c.in_ok-now.ensures.joins c.in_ok-now.ensures.clash c.in_ok-now.ensures.conflict c.in_ok-now.ensures.kept_clash c.in_ok-now.ensures.kept_conflict c.in_ok-put.ensures.ok
