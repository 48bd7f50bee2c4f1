-- SPDX-License-Identifier: Apache-2.0
use Rattle.std.proofs.Common.{ap, ◌∙◌}
use Rattle.std.specs.BTreeMap.{is_at}
use Rattle.std.specs.Option.{is_some}
use Rattle.cedar_data.specs.Sets.{contains}
use Rattle.cedar_data.proofs.SetKeys.{is_some-lookup}
use Rattle.cedar_data.proofs.Puts.{is_some-copied}
use Rattle.cedar_data.proofs.set.Set.contains_near.Goals as goal

pub returns : goal.returns
returns g c =
    let cmp = g.K.Ord.cmp in
    let key = c.args.key.now in
    c.is_some.ensures ∙ is_some-copied c.get_near.result ∙ ap is_some c.get_near.ensures ∙ is_some-lookup (is_at (cmp key)) c.self.inside.keys
    ∙ ap (λ keys. contains cmp keys key) c.self.view_is
