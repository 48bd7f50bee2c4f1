-- SPDX-License-Identifier: Apache-2.0
use Rattle.cedar_resolved.proofs.NotedLemmas.{put_behind}
use Rattle.cedar_resolved.proofs.action_ancestors.note_ancestor.Goals as goal

pub returns : goal.returns
returns c =
    put_behind c.args.noted.now.entries c.take_ancestors-ancestors.new.noted.entries c.insert.new.self.entries
    c.args.uid c.args.ancestor c.take_ancestors-ancestors.result c.push.new.self
    c.take_ancestors-ancestors.ensures.taken c.in_ok-push.ensures.ok
    c.take_ancestors-ancestors.ensures.others c.in_ok-insert.ensures.updates.0
