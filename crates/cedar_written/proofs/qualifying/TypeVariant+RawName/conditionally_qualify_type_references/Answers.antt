-- SPDX-License-Identifier: Apache-2.0
use Rattle.std.specs.Option.{option_copied}
use Rattle.cedar_written.specs.Qualifying.{qualifying}
use Rattle.cedar_written.specs.Through.{through_variant}
use Rattle.cedar_written.proofs.Made.{made_in}
use Rattle.cedar_written.proofs.qualifying.TypeVariant+RawName.conditionally_qualify_type_references.Goals as goal

pub returns : goal.returns
returns c = made_in (λ s. option_copied s.namespace) (λ ns. through_variant (qualifying ns) c.args.self) (option_copied c.args.ns) c.qualify_names.result c.qualify_names.ensures
