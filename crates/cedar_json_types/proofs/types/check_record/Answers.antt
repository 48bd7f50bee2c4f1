-- SPDX-License-Identifier: Apache-2.0
use Rattle.serde_json.specs.View.{view}
use Rattle.cedar_json_fault.specs.declared.json_fault.JsonShape.TheVariants as shape
use Rattle.cedar_json_types.specs.Types.{not_record}
use Rattle.cedar_json_types.proofs.PairLemmas.{lacks_record, none_excess}
use Rattle.cedar_json_types.proofs.types.check_record.Goals as goal

pub returns-then-has_only-clause-shape : goal.returns-then-has_only-clause-shape
returns-then-has_only-clause-shape c = lacks_record _ (c.has_only.ensures c.if-has_only.true)

pub returns-then-has_only-clause-clean : goal.returns-then-has_only-clause-clean
returns-then-has_only-clause-clean c =
    none_excess shape.RecordType not_record (view c.args.value.now) (lacks_record (view c.args.value.now) (c.has_only.ensures c.if-has_only.true))
