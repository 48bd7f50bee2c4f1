-- SPDX-License-Identifier: Apache-2.0
use Rattle.cedar_declared.specs.Held.{names_of}
use Rattle.cedar_missing.proofs.FirstUndefined.{Looks}
use Rattle.cedar_missing.proofs.undefined.+look.Given as goal

-- nothing was found so far
abbrev pub invariant-undefined_in_attributes-loop-attribute : goal.invariant-undefined_in_attributes-loop-attribute
invariant-undefined_in_attributes-loop-attribute l = Looks (names_of l.fn.all_defs) l.fn.attributes l.attribute-iterator
