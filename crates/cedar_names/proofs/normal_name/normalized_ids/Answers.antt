-- SPDX-License-Identifier: Apache-2.0
use Rattle.std.proofs.Common.{ap, ◌∙◌, arith}
use Rattle.std.specs.List.{list_all}
use Rattle.cedar_names.specs.Components.{has_cedar}
use Rattle.cedar_text.specs.Joining.{joined}
use Rattle.cedar_text.specs.NormalNames.{parts}
use Rattle.cedar_text.specs.Words.{is_word}
use Rattle.cedar_names.proofs.NormalNameLemmas.{all_words, some_ids, no_cedar_where, joined-parts}
use Rattle.cedar_names.proofs.normal_name.normalized_ids.Goals as goal

pub ids_of-requires : goal.ids_of-requires
ids_of-requires c = ap (list_all is_word) c.in_ok-words.ensures.ok.1 ∙ all_words c.args.s.now 0 (parts c.args.s.now) c.in_ok-words.ensures.ok.0

pub returns-clause-some : goal.returns-clause-some
returns-clause-some c = let some = some_ids c.in_ok-ids.ids.items c.args.s.now (c.in_ok-ids.ensures.ok.1 ∙ c.in_ok-words.ensures.ok.1) in omega (arith, c.in_ok-ids.ids.ok.0)

pub returns-clause-text : goal.returns-clause-text
returns-clause-text c = ap joined (c.in_ok-ids.ensures.ok.1 ∙ c.in_ok-words.ensures.ok.1) ∙ joined-parts c.args.s.now

pub returns-clause-unreserved : goal.returns-clause-unreserved
returns-clause-unreserved c = λ forbidden.
    ap has_cedar c.in_ok-ids.ensures.ok.1 ∙ no_cedar_where c.args.cedar_allowed c.in_ok-words.words.items c.in_ok-ids.ensures.ok.0 forbidden
