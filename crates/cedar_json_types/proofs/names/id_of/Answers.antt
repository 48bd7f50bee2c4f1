-- SPDX-License-Identifier: Apache-2.0
use Rattle.std.proofs.Common.{rules}
use Rattle.cedar_json_types.proofs.NameLemmas.{clean_unreserved_id, no_word_fault}
use Rattle.cedar_json_types.proofs.names.id_of.Goals as goal

pub returns-then-is_capitalized_word-clause-shape : goal.returns-then-is_capitalized_word-clause-shape
returns-then-is_capitalized_word-clause-shape c =
    (no_word_fault c.args.text.now (c.is_capitalized_word.ensures c.if-is_capitalized_word.true), search rules)

pub returns-then-is_capitalized_word-clause-clean : goal.returns-then-is_capitalized_word-clause-clean
returns-then-is_capitalized_word-clause-clean c =
    clean_unreserved_id c.args.what c.args.text.now (c.is_capitalized_word.ensures c.if-is_capitalized_word.true)
