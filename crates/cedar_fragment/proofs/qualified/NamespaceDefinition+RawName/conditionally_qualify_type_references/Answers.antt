-- SPDX-License-Identifier: Apache-2.0
use Rattle.std.specs.Option.{option_copied}
use Rattle.cedar_written.specs.Qualifying.{qualifying}
use Rattle.cedar_written.proofs.Made.{made_in}
use Rattle.cedar_fragment.specs.ActionUids.{over_conditional, over_raw}
use Rattle.cedar_fragment.specs.Definitions.{through_namespace}
use Rattle.cedar_fragment.proofs.Same.{namespace_same_made}
use Rattle.cedar_fragment.proofs.qualified.NamespaceDefinition+RawName.conditionally_qualify_type_references.Goals as goal

pub returns-clause-answer : goal.returns-clause-answer
returns-clause-answer c = made_in (λ s. option_copied s.namespace) (λ ns. through_namespace over_raw over_conditional (qualifying ns) c.args.self) (option_copied c.args.ns) c.qualify_names.result c.qualify_names.ensures

pub returns-clause-same : goal.returns-clause-same
returns-clause-same c = namespace_same_made over_raw over_conditional (qualifying (option_copied c.args.ns)) c.args.self c.qualify_names.result (made_in (λ s. option_copied s.namespace) (λ ns. through_namespace over_raw over_conditional (qualifying ns) c.args.self) (option_copied c.args.ns) c.qualify_names.result c.qualify_names.ensures)
