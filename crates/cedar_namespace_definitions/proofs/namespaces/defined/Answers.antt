-- SPDX-License-Identifier: Apache-2.0
use Rattle.std.proofs.Common.{rules}
use Rattle.std.specs.Option.{option_copied}
use Rattle.cedar_schema_error.specs.Told.{told}
use Rattle.cedar_namespace_definitions.specs.Faults.{declaration_faults, each_fault}
use Rattle.cedar_namespace_definitions.proofs.Faultless.{refused_before}
use Rattle.cedar_namespace_definitions.proofs.namespaces.defined.Goals as goal

pub returns-in_err-check_declarations-clause-refused : goal.returns-in_err-check_declarations-clause-refused
returns-in_err-check_declarations-clause-refused c =
    refused_before told (declaration_faults c.args.action_behavior c.args.namespace_def) (each_fault (option_copied c.args.namespace) c.args.namespace_def) c.from_residual.result (search rules)
