-- SPDX-License-Identifier: Apache-2.0
use Rattle.std.proofs.Common.{sym, subst}
use Rattle.std.specs.Prelude.{IfOk}
use Rattle.cedar_data.specs.Answers.{Accepts, IfRefused}
use Rattle.cedar_json_namespaces.specs.Namespaces.{IsFragment, fragment_fault}
use Rattle.cedar_json_written_laws.specs.Unplaced.{fragment_unplaced}
use Rattle.cedar_names.specs.Extensions.{extension_words}
use Rattle.cedar_schema_json.specs.SchemaViews.{schema_in}
use Rattle.cedar_resolved.specs.declared.schema.ValidatorSchema.{ValidatorSchema}
use Rattle.cedar_schema_json.specs.JsonSchemas.{DenotesSchema, IsWellFormed, JsonCause}
use Rattle.cedar_world.specs.Denotes.{Denotes}
use Rattle.cedar_json_schema_laws.proofs.read_back.written_and_read_back.Goals as goal

pub returns-clause-same : goal.returns-clause-same
returns-clause-same c = λ writable sound.
    let F = c.args.fragment.now in
    let extensions = extension_words c.args.extensions.now in
    let well_formed = subst (λ d. IsWellFormed (IsFragment d) extensions (fragment_unplaced F)) (sym c.in_ok-json.ensures) (c.what_is_written_denotes_the_same.ensures.well_formed F extensions writable sound) in
    subst (λ W. Accepts {T = ValidatorSchema} (λ schema. Denotes W (schema_in schema)) c.from_json_value.result) (c.places_denote_nothing.ensures.world F extensions) (c.from_json_value.ensures.accepts (fragment_unplaced F) well_formed)

pub returns-clause-denotes : goal.returns-clause-denotes
returns-clause-denotes c =
    subst (λ d. IfOk c.from_json_value.result (λ schema. DenotesSchema (IsFragment d) (extension_words c.args.extensions.now) (schema_in schema)))
    c.in_ok-json.ensures c.from_json_value.ensures.denotes

pub returns-clause-refused : goal.returns-clause-refused
returns-clause-refused c =
    subst (λ d. IfRefused c.from_json_value.result (JsonCause (IsFragment d) (fragment_fault d) (extension_words c.args.extensions.now)))
    c.in_ok-json.ensures c.from_json_value.ensures.refused
