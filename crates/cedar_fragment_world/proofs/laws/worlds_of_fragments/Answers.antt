-- SPDX-License-Identifier: Apache-2.0
use Rattle.cedar_fragment_world.proofs.NamespacesSeen.{namespaces_are}
use Rattle.cedar_fragment_world.proofs.laws.worlds_of_fragments.Goals as goal

pub returns : goal.returns
returns c = λ f ds are. namespaces_are f.0 ds are
