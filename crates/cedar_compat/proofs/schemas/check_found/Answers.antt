-- SPDX-License-Identifier: Apache-2.0
use Rattle.std.proofs.Common.{rules}
use Rattle.cedar_checks.specs.SchemaViews.{entity_of}
use Rattle.cedar_compat.proofs.Keeping.{kind-kept}
use Rattle.cedar_compat.proofs.schemas.check_found.Goals as goal

pub returns-in_err-check_kind-clause-kept : goal.returns-in_err-check_kind-clause-kept
returns-in_err-check_kind-clause-kept c =
    let old = c.args.old.now in
    let kept = kind-kept old (entity_of old).kind (entity_of c.args.found.now).kind c.in_err-check_kind.field-0.0 c.in_err-check_kind.ensures in
    search (rules, kept)
