-- SPDX-License-Identifier: Apache-2.0
use Rattle.std.proofs.Common.{Some, None, sym, ap, ◌∙◌}
use Rattle.cedar_unfold.specs.Tables.{found_type}
use Rattle.cedar_unfold.proofs.NameTables.{common_is}
use Rattle.cedar_unfold.proofs.all.found_type.Goals as goal

pub returns-in-Some-Some : goal.returns-in-Some-Some
returns-in-Some-Some c = ap found_type (sym c.in-Some-Some.field-0-is) ∙ common_is c.args.table.now c.args.name.now (Some c.in-Some-Some.field-0.now) c.in-Some-Some.ensures

pub returns-in-Some-None : goal.returns-in-Some-None
returns-in-Some-None c = ap found_type (sym c.in-Some-None.field-0-is) ∙ common_is c.args.table.now c.args.name.now (Some c.in-Some-None.field-0.now) c.in-Some-None.ensures

pub returns-in-None : goal.returns-in-None
returns-in-None c = common_is c.args.table.now c.args.name.now None c.in-None.ensures
