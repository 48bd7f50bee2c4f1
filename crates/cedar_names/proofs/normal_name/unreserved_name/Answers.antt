-- SPDX-License-Identifier: Apache-2.0
use Rattle.std.proofs.Common.{false, refl, ap, ◌∙◌}
use Rattle.cedar_names.specs.Components.{has_cedar}
use Rattle.cedar_names.proofs.NormalNameLemmas.{no_cedar_where}
use Rattle.cedar_names.proofs.normal_name.unreserved_name.Goals as goal

pub returns-clause-unreserved : goal.returns-clause-unreserved
returns-clause-unreserved c = ap has_cedar (c.name_of_ids.ensures.words ∙ c.in_ok-ids.ensures.ok.1) ∙ no_cedar_where false c.args.words.items c.in_ok-ids.ensures.ok.0 refl
