-- SPDX-License-Identifier: Apache-2.0
use Rattle.std.proofs.Common.{ap, rules}
use Rattle.serde_json.specs.View.{view}
use Rattle.cedar_checks.specs.SchemaViews.{schema_in}
use Rattle.cedar_conform.specs.Checks.{passed}
use Rattle.cedar_conform.specs.ValueChecks.{value_check}
use Rattle.cedar_checks.proofs.Layers.{resolved-rows}
use Rattle.cedar_conform.proofs.Rows.{PassesRows-refused}
use Rattle.cedar_conform.proofs.Told.{Tells-at}
use Rattle.cedar_conform.proofs.values.+values.Goals as goal

pub check_value-returns-in-Record : goal.check_value-returns-in-Record
check_value-returns-in-Record t c =
    Tells-at (passed {T = Unit {0}}) c.check_record.result
    (ap (λ T. value_check (schema_in c.args.schema.now) T (view c.args.value.now)) (resolved-rows c.args.ty.now c.in-Record.attributes.now c.in-Record.field-1 c.in-Record.ensures))
    c.check_record.ensures

pub check_attributes-returns-in_err-check_attribute : goal.check_attributes-returns-in_err-check_attribute
check_attributes-returns-in_err-check_attribute t c =
    let told = PassesRows-refused (schema_in c.args.schema.now) c.in_err-check_attribute.field-0.0 c.loop-name.invariant.passed c.in-Some.ensures.steps c.in_err-check_attribute.ensures in
    search (rules, told)
