-- SPDX-License-Identifier: Apache-2.0
use Rattle.cedar_json.specs.TextFaults.{IsFragmentText, advised_fault}
use Rattle.cedar_json_decided_laws.proofs.Telling.{told_is_cause}
use Rattle.cedar_json_decided_laws.proofs.laws.refusals_told_are_causes.Goals as goal
use Rattle.cedar_json_namespaces.specs.Namespaces.{IsFragment, fragment_fault}

pub returns-clause-value : goal.returns-clause-value
returns-clause-value c d extensions e = told_is_cause (IsFragment d) (fragment_fault d) extensions e

pub returns-clause-text : goal.returns-clause-text
returns-clause-text c text extensions e = told_is_cause (IsFragmentText text) (advised_fault text) extensions e
