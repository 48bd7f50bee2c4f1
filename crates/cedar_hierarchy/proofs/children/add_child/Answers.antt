-- SPDX-License-Identifier: Apache-2.0
use Rattle.cedar_hierarchy.proofs.ChildrenLemmas.{added}
use Rattle.cedar_hierarchy.proofs.children.add_child.Goals as goal

pub returns : goal.returns
returns g c = λ p x. added g.met.K.Ord.total c.args.children.now c.take_children.new.children c.put.new.self c.args.parent c.args.child c.in_ok-siblings.siblings c.insert.new.self
    c.in_ok-siblings.ensures.taken c.in_ok-siblings.ensures.others c.in_ok-insert.ensures.adds c.in_ok-put.ensures.puts p x
