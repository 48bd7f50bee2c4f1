-- SPDX-License-Identifier: Apache-2.0
use Rattle.std.proofs.Common.{arith}
use Rattle.std.proofs.lemmas.Grind.{common_steps}
use Rattle.cedar_streams.proofs.Front.{WritesFront-stopped, WritesFront-end}
use Rattle.cedar_streams.proofs.writing.write_all.Goals as goal

pub returns-in_err-taken : goal.returns-in_err-taken
returns-in_err-taken g c =
    WritesFront-stopped c.from_residual.result c.from_residual.ensures.0 c.loop-rest.invariant c.in_err-taken.ensures.bytes c.in_err-taken.ensures.cause

pub returns : goal.returns
returns g c = WritesFront-end tt (grind (arith, common_steps)) c.loop-rest.invariant
