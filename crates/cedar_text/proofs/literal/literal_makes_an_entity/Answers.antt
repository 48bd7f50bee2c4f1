-- SPDX-License-Identifier: Apache-2.0
use Rattle.cedar_text.proofs.WritingLemmas.{uid_fault-with, uid_fault-printed, uid_written_once}
use Rattle.cedar_text.proofs.literal.literal_makes_an_entity.Goals as goal

pub returns-clause-fault : goal.returns-clause-fault
returns-clause-fault c = uid_fault-with

pub returns-clause-printed : goal.returns-clause-printed
returns-clause-printed c = uid_fault-printed

pub returns-clause-once : goal.returns-clause-once
returns-clause-once c = uid_written_once
