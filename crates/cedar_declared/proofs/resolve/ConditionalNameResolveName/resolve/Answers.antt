-- SPDX-License-Identifier: Apache-2.0
use Rattle.std.proofs.Common.{ap}
use Rattle.cedar_declared.specs.Held.{names_of}
use Rattle.cedar_declared.proofs.Targeted.{resolved_other, some_other}
use Rattle.cedar_declared.proofs.resolve.ConditionalNameResolveName.resolve.Goals as goal

pub first_declared-requires : goal.first_declared-requires
first_declared-requires c =
    some_other (names_of c.args.all_defs.now) c.args.self _ _ _ c.reference_type-kind.ensures (ap (λ p. p.tail) c.into_possibilities-tail.ensures) c.is_other_declared.ensures c.if-is_other_declared.true

pub returns-then-is_other_declared : goal.returns-then-is_other_declared
returns-then-is_other_declared c =
    resolved_other (names_of c.args.all_defs.now) c.args.self _ _ _ _ c.reference_type-kind.ensures (ap (λ p. p.tail) c.into_possibilities-tail.ensures) c.first_declared.ensures c.is_first_declared.ensures c.if-is_first_declared.false
