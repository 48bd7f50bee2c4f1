-- SPDX-License-Identifier: Apache-2.0
use Rattle.cedar_json.specs.TextFaults.{IsFragmentText}
use Rattle.cedar_json_laws.specs.of_json_namespaces.Namespaces.{IsFragment}
use Rattle.cedar_schema_json.proofs.Reading.{some_schema}
use Rattle.cedar_schema_json.proofs.laws.some_json_schema.Goals as goal

pub returns-clause-value : goal.returns-clause-value
returns-clause-value c = λ d extensions. some_schema (IsFragment d) extensions

pub returns-clause-text : goal.returns-clause-text
returns-clause-text c = λ text extensions. some_schema (IsFragmentText text) extensions
