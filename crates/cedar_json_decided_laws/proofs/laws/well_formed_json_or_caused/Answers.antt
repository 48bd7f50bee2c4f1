-- SPDX-License-Identifier: Apache-2.0
use Rattle.cedar_json.specs.TextFaults.{IsFragmentText, advised_fault}
use Rattle.cedar_json_decided_laws.proofs.Deciding.{well_formed_or_caused}
use Rattle.cedar_json_decided_laws.proofs.laws.well_formed_json_or_caused.Goals as goal
use Rattle.cedar_json_namespaces.specs.Namespaces.{IsFragment, fragment_fault}
use Rattle.cedar_json_shape_laws.proofs.Namespaces.{fragment_shaped}
use Rattle.cedar_json_shape_laws.proofs.Texts.{text_shaped}

pub returns-clause-value : goal.returns-clause-value
returns-clause-value c d extensions = well_formed_or_caused (IsFragment d) (fragment_fault d) extensions (fragment_shaped d)

pub returns-clause-text : goal.returns-clause-text
returns-clause-text c text extensions = well_formed_or_caused (IsFragmentText text) (advised_fault text) extensions (text_shaped text)
