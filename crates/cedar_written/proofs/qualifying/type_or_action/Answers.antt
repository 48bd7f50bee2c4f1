-- SPDX-License-Identifier: Apache-2.0
use Rattle.std.proofs.Common.{unwrap_or, ap, sym, ◌∙◌}
use Rattle.cedar_written.specs.Qualifying.{action_name}
use Rattle.cedar_written.proofs.Names.{is_action_name}
use Rattle.cedar_written.proofs.qualifying.type_or_action.Goals as goal

pub returns-in_ok-id-in-None : goal.returns-in_ok-id-in-None
returns-in_ok-id-in-None c =
    is_action_name _ _ c.new_from_unreserved.ensures c.in_ok-id-in-None.ensures ∙ sym (ap (λ ty. unwrap_or ty action_name) c.in-None.is)
