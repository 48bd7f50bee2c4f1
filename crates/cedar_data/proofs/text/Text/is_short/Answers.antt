-- SPDX-License-Identifier: Apache-2.0
use Rattle.std.proofs.Common.{ap, ◌∙◌, length, nat_lt}
use Rattle.cedar_data.proofs.Fronts.{opened, HasFront-is_short}
use Rattle.cedar_data.proofs.text.Text.is_short.Goals as goal

pub returns : goal.returns
returns c = HasFront-is_short (opened c.self.invariant) ∙ ap (λ text. nat_lt (length text) 8) c.self.view_is
