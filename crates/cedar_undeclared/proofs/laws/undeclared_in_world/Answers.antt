-- SPDX-License-Identifier: Apache-2.0
use Rattle.cedar_undeclared.proofs.FreeTargets.{undeclared_free}
use Rattle.cedar_undeclared.proofs.WorldTargets.{undeclared_there}
use Rattle.cedar_undeclared.proofs.laws.undeclared_in_world.Goals as goal

pub returns-clause-is : goal.returns-clause-is
returns-clause-is c w a commons uses others ks alike qualify mean set = undeclared_there w a commons uses others alike qualify mean ks set

pub returns-clause-free : goal.returns-clause-free
returns-clause-free c w ks done none set = undeclared_free w done none ks set
