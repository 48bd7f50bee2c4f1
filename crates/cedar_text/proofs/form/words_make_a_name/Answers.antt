-- SPDX-License-Identifier: Apache-2.0
use Rattle.cedar_text.proofs.WritingLemmas.{parts-joined, name_fault-joined}
use Rattle.cedar_text.proofs.form.words_make_a_name.Goals as goal

pub returns-clause-fault : goal.returns-clause-fault
returns-clause-fault c = name_fault-joined

pub returns-clause-words : goal.returns-clause-words
returns-clause-words c = parts-joined
