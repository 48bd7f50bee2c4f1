-- SPDX-License-Identifier: Apache-2.0
use Rattle.std.proofs.Common.{map, ap, ◌∙◌}
use Rattle.cedar_names.specs.Components.{components}
use Rattle.cedar_undeclared.specs.Undeclared.{undeclared_refusal}
use Rattle.cedar_undeclared.proofs.EntityTypes.{none_left_out}
use Rattle.cedar_undeclared.proofs.error.undeclared_error.Goals as goal

pub returns-clause-all : goal.returns-clause-all
returns-clause-all c none = c.refusal.ensures ∙ ap undeclared_refusal (c.in_ok-types.ensures ∙ none_left_out (map components c.args.names.now) none)
