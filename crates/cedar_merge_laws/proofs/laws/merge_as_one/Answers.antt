-- SPDX-License-Identifier: Apache-2.0
use Rattle.std.proofs.Common.{subst}
use Rattle.cedar_convert_fragment.specs.Views.{fragment_seen}
use Rattle.cedar_data.specs.Firsts.{AllPass}
use Rattle.cedar_merge_laws.specs.Together.{InOrder}
use Rattle.cedar_merge_laws.proofs.Meaning.{merged-together}
use Rattle.cedar_merge_laws.proofs.laws.merge_as_one.Goals as goal

pub returns-clause-together : goal.returns-clause-together
returns-clause-together c =
    merged-together c.args.fragments.items c.merge.result
    (subst (AllPass (λ f. InOrder (fragment_seen f))) c.as_slice.ensures.value c.fragments_in_order.ensures)
    c.merge.ensures.merged c.merge.ensures.apart
