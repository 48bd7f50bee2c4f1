-- SPDX-License-Identifier: Apache-2.0
use Rattle.serde_json.specs.View.{view}
use Rattle.cedar_json_fault.specs.declared.json_fault.JsonShape.TheVariants as shape
use Rattle.cedar_json_types.specs.Types.{not_plain}
use Rattle.cedar_json_types.proofs.PairLemmas.{lacks_plain, none_excess}
use Rattle.cedar_json_types.proofs.types.check_plain.Goals as goal

pub returns-then-has_type_alone-clause-shape : goal.returns-then-has_type_alone-clause-shape
returns-then-has_type_alone-clause-shape c = lacks_plain _ (c.has_type_alone.ensures c.if-has_type_alone.true)

pub returns-then-has_type_alone-clause-clean : goal.returns-then-has_type_alone-clause-clean
returns-then-has_type_alone-clause-clean c =
    none_excess shape.NoFields not_plain (view c.args.value.now) (lacks_plain (view c.args.value.now) (c.has_type_alone.ensures c.if-has_type_alone.true))
