-- SPDX-License-Identifier: Apache-2.0
use Rattle.cedar_declared.specs.Held.{names_of}
use Rattle.cedar_missing.proofs.ParentsFound.{parent_found, parent_refused}
use Rattle.cedar_missing.proofs.found.find_parent.Goals as goal

pub returns-in-Ok : goal.returns-in-Ok
returns-in-Ok c = parent_found (names_of c.args.all_defs.now) c.args.parent.now _ _ _ c.ty.ensures c.in_ok-ty.ensures c.in-Ok.ensures

pub returns-in-Err-Refused : goal.returns-in-Err-Refused
returns-in-Err-Refused c =
    parent_refused (names_of c.args.all_defs.now) c.args.parent.now _ _ c.in-Err-Refused.field-0 c.in-Err-Refused.field-0-0 c.ty.ensures c.in_ok-ty.ensures c.in-Err-Refused.ensures c.in-Err-Refused.field-0-is
