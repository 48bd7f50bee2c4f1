-- SPDX-License-Identifier: Apache-2.0
use Rattle.cedar_declared.specs.Held.{names_of}
use Rattle.cedar_missing.proofs.FirstUndefined.{Looks-found, Looks-next}
use Rattle.cedar_missing.proofs.undefined.+look.Goals as goal

pub undefined_in_attributes-returns-in-Some-undefined_in_attribute : goal.undefined_in_attributes-returns-in-Some-undefined_in_attribute
undefined_in_attributes-returns-in-Some-undefined_in_attribute t c =
    Looks-found (names_of c.args.all_defs.now) c.loop-attribute.invariant c.in-Some.ensures.steps c.in-Some-undefined_in_attribute.ensures

pub undefined_in_attributes-loop-attribute-preserved : goal.undefined_in_attributes-loop-attribute-preserved
undefined_in_attributes-loop-attribute-preserved t c =
    Looks-next (names_of c.args.all_defs.now) c.loop-attribute.invariant c.in-Some.ensures.steps c.in_default.ensures
