-- SPDX-License-Identifier: Apache-2.0
use Rattle.cedar_resolving_laws.proofs.FragmentsReordered.{denotes_reordered, fragments_denote}
use Rattle.cedar_resolving_laws.proofs.laws.orders_of_fragments.Goals as goal

pub returns-clause-denotes : goal.returns-clause-denotes
returns-clause-denotes c = denotes_reordered

pub returns-clause-fragments_denote : goal.returns-clause-fragments_denote
returns-clause-fragments_denote c = fragments_denote
