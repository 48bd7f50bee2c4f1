-- SPDX-License-Identifier: Apache-2.0
use Rattle.std.specs.Option.{option_copied}
use Rattle.cedar_written.specs.Qualifying.{qualifying}
use Rattle.cedar_written.specs.Through.{through_type}
use Rattle.cedar_written.proofs.Made.{made_in}
use Rattle.cedar_written.proofs.Same.{type_same_if}
use Rattle.cedar_written.proofs.qualifying.SchemaType+RawName.conditionally_qualify_type_references.Goals as goal

pub returns-clause-answer : goal.returns-clause-answer
returns-clause-answer c = made_in (λ s. option_copied s.namespace) (λ ns. through_type (qualifying ns) c.args.self) (option_copied c.args.ns) c.qualify_names.result c.qualify_names.ensures

pub returns-clause-same : goal.returns-clause-same
returns-clause-same c = type_same_if (qualifying (option_copied c.args.ns)) c.args.self c.qualify_names.result (made_in (λ s. option_copied s.namespace) (λ ns. through_type (qualifying ns) c.args.self) (option_copied c.args.ns) c.qualify_names.result c.qualify_names.ensures)
