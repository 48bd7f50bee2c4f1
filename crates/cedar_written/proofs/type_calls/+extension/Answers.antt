-- SPDX-License-Identifier: Apache-2.0
use Rattle.std.proofs.Common.{sym, rules}
use Rattle.cedar_written.proofs.Found.{Finds-next, ors}
use Rattle.cedar_written.proofs.type_calls.+extension.Goals as goal

pub some_are_extensions-loop-attribute-preserved-then-found : goal.some_are_extensions-loop-attribute-preserved-then-found
some_are_extensions-loop-attribute-preserved-then-found g t c =
    Finds-next c.in_ok-is_one.is_one c.loop-attribute.invariant c.in-Some.ensures.steps (sym c.in_ok-is_one.ensures) (search (rules, ors))

pub some_are_extensions-loop-attribute-preserved : goal.some_are_extensions-loop-attribute-preserved
some_are_extensions-loop-attribute-preserved g t c =
    Finds-next c.in_ok-is_one.is_one c.loop-attribute.invariant c.in-Some.ensures.steps (sym c.in_ok-is_one.ensures) (search (rules, ors))
