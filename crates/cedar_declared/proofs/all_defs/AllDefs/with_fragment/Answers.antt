-- SPDX-License-Identifier: Apache-2.0
use Rattle.std.proofs.Common.{ap, ◌∙◌}
use Rattle.cedar_declared.specs.Gathering.{with_fragment}
use Rattle.cedar_declared.proofs.all_defs.AllDefs.with_fragment.Goals as goal

pub returns : goal.returns
returns g c =
    c.in_ok-all.ensures ∙ c.in_ok-insert_fragment.ensures
    ∙ ap (λ us. with_fragment (record { alloc = c.args.self.alloc; entity_types = c.args.self.entity_types; common_types = c.args.self.common_types; actions = us }) c.args.fragment.now) c.into_uids.ensures
