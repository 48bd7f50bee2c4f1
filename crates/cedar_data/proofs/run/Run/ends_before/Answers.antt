-- SPDX-License-Identifier: Apache-2.0
use Rattle.std.proofs.Common.{◌<◌, length, arith, sym, ap, ◌∙◌}
use Rattle.std.specs.Ordering.{is_lt}
use Rattle.cedar_data.proofs.RunAppend.{ends_there}
use Rattle.cedar_data.proofs.run.Run.ends_before.Goals as goal

pub returns-in-Some : goal.returns-in-Some
returns-in-Some g c less =
    let some : 0 < length c.as_slice.result.now = search arith in
    ends_there g.K.Ord.cmp c.in-Some.entry.now c.as_slice.result.now c.args.self.now c.args.key.now (c.as_slice.ensures.value ∙ c.self.view_is) some c.in-Some.ensures.item.1 (ap is_lt (sym c.cmp.ensures) ∙ sym c.is_lt.ensures ∙ less)
