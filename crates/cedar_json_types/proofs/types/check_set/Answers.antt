-- SPDX-License-Identifier: Apache-2.0
use Rattle.serde_json.specs.View.{view}
use Rattle.cedar_json_fault.specs.declared.json_fault.JsonShape.TheVariants as shape
use Rattle.cedar_json_types.specs.Types.{not_set}
use Rattle.cedar_json_types.proofs.PairLemmas.{lacks_set, none_excess}
use Rattle.cedar_json_types.proofs.types.check_set.Goals as goal

pub returns-then-has_only-clause-shape : goal.returns-then-has_only-clause-shape
returns-then-has_only-clause-shape c = lacks_set _ (c.has_only.ensures c.if-has_only.true)

pub returns-then-has_only-clause-clean : goal.returns-then-has_only-clause-clean
returns-then-has_only-clause-clean c =
    none_excess shape.SetType not_set (view c.args.value.now) (lacks_set (view c.args.value.now) (c.has_only.ensures c.if-has_only.true))
