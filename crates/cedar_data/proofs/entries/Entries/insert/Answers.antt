-- SPDX-License-Identifier: Apache-2.0
use Rattle.std.proofs.Common.{◌+◌, cond, sym, ap}
use Rattle.cedar_data.proofs.RunEdits.{IsHeld-put, held_opened, held_sorted}
use Rattle.cedar_data.specs.EntriesHeld.{entries_held}
use Rattle.cedar_data.proofs.entries.Entries.insert.Goals as goal

pub invariant_of-self-then-is_none : goal.invariant_of-self-then-is_none
invariant_of-self-then-is_none g c =
    let put = c.in_ok-old.ensures in
    IsHeld-put g.met.K.Ord.total c.args.key c.args.value (entries_held c.self.inside.held) c.self.inside.count _ c.in_ok-old.old c.put.new.held (held_sorted g.K.Ord.cmp c.self.inside.held (held_opened c.self.invariant).ordered) (held_opened c.self.invariant).counted put.old put.ok (ap (λ b. cond b c.self.inside.count (c.self.inside.count + 1)) (sym c.if-is_none.ensures)) put.ordered

pub invariant_of-self-else-is_none : goal.invariant_of-self-else-is_none
invariant_of-self-else-is_none g c =
    let put = c.in_ok-old.ensures in
    IsHeld-put g.met.K.Ord.total c.args.key c.args.value (entries_held c.self.inside.held) c.self.inside.count _ c.in_ok-old.old c.put.new.held (held_sorted g.K.Ord.cmp c.self.inside.held (held_opened c.self.invariant).ordered) (held_opened c.self.invariant).counted put.old put.ok (ap (λ b. cond b c.self.inside.count (c.self.inside.count + 1)) (sym c.if-is_none.ensures)) put.ordered
