-- SPDX-License-Identifier: Apache-2.0
use Rattle.std.proofs.Common.{◌≡◌, IfOk, map, subst}
use Rattle.cedar_data.specs.Answers.{IfRefused}
use Rattle.cedar_names.specs.Extensions.{extension_words}
use Rattle.cedar_tree.specs.Meanings.{schema_tree}
use Rattle.cedar_convert_errors.specs.Texts.{fault_list}
use Rattle.cedar_convert_faults.specs.Faults.{faults_of}
use Rattle.cedar_convert_faults.specs.Gathering.{gathered_tree}
use Rattle.cedar_convert_warnings.specs.Shadowing.{shadows}
use Rattle.cedar_convert_namespaces.specs.of_convert_fragment.Views.{fragment_seen}
use Rattle.cedar_convert.proofs.Wholes.{accepts_from, declares_from}
use Rattle.cedar_convert.proofs.converting.cedar_schema_to_json_schema.Goals as goal

pub returns-clause-declares : goal.returns-clause-declares
returns-clause-declares c =
    let gathered = c.convert_gathered in
    declares_from (λ made. fragment_seen made.0) (schema_tree c.args.schema) (map gathered_tree c.in_ok-all.all) c.in_ok-all.ensures gathered.result gathered.ensures.fragment gathered.ensures.declared

pub returns-clause-warnings : goal.returns-clause-warnings
returns-clause-warnings c =
    subst (λ gs. IfOk c.convert_gathered.result (λ made. made.1.items ≡ shadows (extension_words c.args.extensions.now) gs)) c.in_ok-all.ensures c.convert_gathered.ensures.warnings

pub returns-clause-refused : goal.returns-clause-refused
returns-clause-refused c =
    subst (λ gs. IfRefused c.convert_gathered.result (λ errors. fault_list errors ≡ faults_of gs)) c.in_ok-all.ensures c.convert_gathered.ensures.refused

pub returns-clause-accepts : goal.returns-clause-accepts
returns-clause-accepts c =
    let gathered = c.convert_gathered in
    accepts_from (λ made. fragment_seen made.0) (schema_tree c.args.schema) (map gathered_tree c.in_ok-all.all) c.in_ok-all.ensures gathered.result gathered.ensures.fragment gathered.ensures.accepts
