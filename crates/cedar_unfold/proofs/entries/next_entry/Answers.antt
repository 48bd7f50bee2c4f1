-- SPDX-License-Identifier: Apache-2.0
use Rattle.std.proofs.Common.{sym, ap, ◌∙◌}
use Rattle.std.specs.Option.{option_copied}
use Rattle.cedar_unfold.specs.Following.{next_entry}
use Rattle.cedar_unfold.proofs.NextEntry.{first_after-next}
use Rattle.cedar_unfold.proofs.entries.next_entry.Goals as goal

pub returns-in-Some-clause-next : goal.returns-in-Some-clause-next
returns-in-Some-clause-next g c =
    c.after_near.ensures ∙ first_after-next c.in-Some.key.now c.args.map.now
    ∙ ap (λ after. next_entry (option_copied after) c.args.map.now) (sym c.in-Some.is)
