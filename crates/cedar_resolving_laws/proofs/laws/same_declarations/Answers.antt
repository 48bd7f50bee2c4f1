-- SPDX-License-Identifier: Apache-2.0
use Rattle.cedar_resolving_laws.proofs.WorldsReordered.{denotes_alike}
use Rattle.cedar_resolving_laws.proofs.laws.same_declarations.Goals as goal

pub returns-clause-denotes : goal.returns-clause-denotes
returns-clause-denotes c = denotes_alike
