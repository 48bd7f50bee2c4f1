-- SPDX-License-Identifier: Apache-2.0
use Rattle.std.proofs.Common.{refl, sym, ◌∙◌}
use Rattle.cedar_conform.specs.Checks.{passed}
use Rattle.cedar_request.proofs.Actions.{type-allowed, type-refused}
use Rattle.cedar_request.proofs.Said.{Says-at}
use Rattle.cedar_request.proofs.entering.check_principal_type.Goals as goal

pub returns-then-is_applicable_principal_type : goal.returns-then-is_applicable_principal_type
returns-then-is_applicable_principal_type c = type-allowed c.args.ty.now c.args.found.now.principals _ (sym c.is_applicable_principal_type.ensures ∙ c.if-is_applicable_principal_type.true)

pub returns : goal.returns
returns c = Says-at passed c.refuse.result (type-refused c.args.ty.now c.args.found.now.principals _ (sym c.is_applicable_principal_type.ensures ∙ c.if-is_applicable_principal_type.false)) (rw (c.refuse.ensures, c.in_ok-action.ensures.0, c.in_ok-action.ensures.1) refl)
