-- SPDX-License-Identifier: Apache-2.0
use Rattle.std.proofs.Common.{◌∙◌, rules, tests}
use Rattle.std.specs.Str.{bytes_eq}
use Rattle.std.proofs.lemmas.Iterator.Consumers.{YieldsList-from_rest}
use Rattle.std.proofs.lemmas.Iterator.Search.{any_from_yields_List}
use Rattle.cedar_names.specs.Identifiers.{unreserved_word}
use Rattle.cedar_names.proofs.ExtensionLemmas.{list_any-words}
use Rattle.cedar_names.proofs.extensions.Extensions.contains.Goals as goal

pub returns : goal.returns
returns c =
    any_from_yields_List (λ id. bytes_eq c.args.name.now (unreserved_word id)) _ _ _ c.any.ensures.ran
    (YieldsList-from_rest c.args.self.now.types c.iter.ensures.rest)
    (λ x b q k. search (rules, tests))
    ∙ list_any-words (bytes_eq c.args.name.now) c.args.self.now.types
