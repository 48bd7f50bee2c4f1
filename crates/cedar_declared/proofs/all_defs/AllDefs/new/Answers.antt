-- SPDX-License-Identifier: Apache-2.0
use Rattle.std.proofs.Common.{◌∙◌}
use Rattle.cedar_declared.proofs.Gains.{gathers_all}
use Rattle.cedar_declared.proofs.HeldPlaces.{holds_declared}
use Rattle.cedar_declared.proofs.all_defs.AllDefs.new.Goals as goal

pub returns-clause-names : goal.returns-clause-names
returns-clause-names g c = gathers_all c.in_ok-all.all c.args.alloc c.args.fragments.now (c.in_ok-all.ensures ∙ c.in_ok-names.ensures)

pub returns-clause-held : goal.returns-clause-held
returns-clause-held g c = holds_declared c.in_ok-all.all c.args.alloc c.args.fragments.now (c.in_ok-all.ensures ∙ c.in_ok-names.ensures)
