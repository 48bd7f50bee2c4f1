-- SPDX-License-Identifier: Apache-2.0
use Rattle.cedar_declared.specs.Held.{names_of}
use Rattle.cedar_complete.proofs.NothingMissed.{only_refusal, whole_action}
use Rattle.cedar_complete.proofs.qualifying.ActionFragmentConditionalNameConditionalNameFullyQualifyDefinitions.fully_qualify_type_references.Goals as goal

pub returns-clause-refused : goal.returns-clause-refused
returns-clause-refused c = only_refusal _ c.complete_or_refuse.result _ _ (whole_action (names_of c.args.all_defs.now) c.args.self) c.complete_or_refuse.ensures
