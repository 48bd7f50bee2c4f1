-- SPDX-License-Identifier: Apache-2.0
use Rattle.cedar_fragment_world.proofs.FaultsSeen.{faults_alike}
use Rattle.cedar_fragment_world.proofs.laws.faults_of_fragments.Goals as goal

pub returns : goal.returns
returns c = λ behavior f. faults_alike behavior f.0
