-- SPDX-License-Identifier: Apache-2.0
use Rattle.std.proofs.Common.{sym, ap, ◌∙◌}
use Rattle.std.specs.Ordering.{is_lt}
use Rattle.std.specs.declared.cmp.Ordering.TheVariants.{Less, Equal, Greater}
use Rattle.cedar_shadowing.proofs.Shadowers.{cmp_by}
use Rattle.cedar_shadowing.proofs.types.precedes.Goals as goal

pub returns-in-Less : goal.returns-in-Less
returns-in-Less c =
    sym (ap is_lt (cmp_by c.args.name.now c.args.other.now _ _ Less c.basename-first.ensures c.basename-second.ensures (sym c.in-Less.is ∙ c.cmp.ensures)))

pub returns-in-Equal : goal.returns-in-Equal
returns-in-Equal c =
    c.comes_first.ensures
    ∙ sym (ap is_lt (cmp_by c.args.name.now c.args.other.now _ _ Equal c.basename-first.ensures c.basename-second.ensures (sym c.in-Equal.is ∙ c.cmp.ensures)))

pub returns-in-Greater : goal.returns-in-Greater
returns-in-Greater c =
    sym (ap is_lt (cmp_by c.args.name.now c.args.other.now _ _ Greater c.basename-first.ensures c.basename-second.ensures (sym c.in-Greater.is ∙ c.cmp.ensures)))
