-- SPDX-License-Identifier: Apache-2.0
use Rattle.cedar_json.specs.TextFaults.{IsFragmentText, advised_fault}
use Rattle.cedar_json_laws.proofs.CleanDeclarations.{fragment_clean}
use Rattle.cedar_json_laws.proofs.OnceDeclarations.{fragment_once}
use Rattle.cedar_json_laws.specs.of_json_namespaces.Namespaces.{IsFragment, fragment_fault}
use Rattle.cedar_schema_json.proofs.OneShape.{text_clean, text_once}
use Rattle.cedar_schema_json.proofs.Reading.{one_cause}
use Rattle.cedar_schema_json.proofs.laws.one_json_cause.Goals as goal

pub returns-clause-value : goal.returns-clause-value
returns-clause-value c = λ d extensions. one_cause (IsFragment d) (fragment_fault d) extensions (fragment_once d) (fragment_clean d)

pub returns-clause-text : goal.returns-clause-text
returns-clause-text c = λ text extensions. one_cause (IsFragmentText text) (advised_fault text) extensions (text_once text) (text_clean text)
