-- SPDX-License-Identifier: Apache-2.0
use Rattle.std.proofs.Common.{◌≡◌, ap, refl, ◌∙◌}
use Rattle.std.proofs.lemmas.Iterator.Consumers.{YieldsList-from_first}
use Rattle.std.proofs.lemmas.Iterator.Search.{cmp_from_yields_List}
use Rattle.cedar_names.specs.Identifiers.{ids_left}
use Rattle.cedar_names.proofs.WordsLemmas.{id_cmp, slice_cmp-components}
use Rattle.cedar_names.proofs.internal_name.compare_components.Goals as goal

pub returns : goal.returns
returns c =
    cmp_from_yields_List (λ x y. y ≡ x) _ id_cmp _ c.cmp.ensures.ran
    (YieldsList-from_first (λ x. x.now) ids_left _ c.components.ensures)
    (λ it e. YieldsList-from_first (λ x. x.now) ids_left _ (ap ids_left e ∙ c.components-2.ensures))
    (λ x y. refl)
    ∙ slice_cmp-components c.args.left.now c.args.right.now
