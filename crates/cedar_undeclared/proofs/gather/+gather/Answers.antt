-- SPDX-License-Identifier: Apache-2.0
use Rattle.cedar_missing.specs.of_declared.Held.{names_of}
use Rattle.cedar_written.specs.References.{references_of_attribute}
use Rattle.cedar_undeclared.proofs.Gathers.{Gathers-next}
use Rattle.cedar_undeclared.proofs.gather.+gather.Goals as goal

pub gather_in_attributes-loop-attribute-preserved : goal.gather_in_attributes-loop-attribute-preserved
gather_in_attributes-loop-attribute-preserved t c =
    Gathers-next (names_of c.args.all_defs.now) references_of_attribute c.loop-attribute.invariant c.in-Some.ensures.steps c.in_ok-gather_in_attribute.ensures
