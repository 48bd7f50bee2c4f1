-- SPDX-License-Identifier: Apache-2.0
use Rattle.std.proofs.Common.{◌≡◌, Global, Vec}
use Rattle.cedar_fragment.specs.ActionUids.{over_raw}
use Rattle.cedar_fragment.specs.declared.definitions.Fragment.{Fragment}
use Rattle.cedar_written.specs.declared.raw_name.RawName.{RawName}
use Rattle.cedar_convert.specs.of_convert_warnings.declared.warnings.SchemaWarning.{SchemaWarning}
use Rattle.cedar_names.specs.Extensions.{extension_words}
use Rattle.cedar_tree.specs.Meanings.{schema_tree}
use Rattle.cedar_convert.specs.of_convert_fragment.Views.{fragment_seen}
use Rattle.cedar_convert.specs.of_convert_faults.Faults.{schema_faults}
use Rattle.cedar_convert_text.specs.Texts.{AreFaults}
use Rattle.cedar_convert_text.proofs.Wholes.{also_accepted, declared_too, declares_text, faults_too, no_refusal, tells_text}
use Rattle.cedar_convert_text.proofs.parsing.parse_cedar_schema_fragment.Goals as goal

pub returns-in-Ok-clause-declares : goal.returns-in-Ok-clause-declares
returns-in-Ok-clause-declares c =
    declares_text (λ made. fragment_seen made.0) (λ made. made.1.items) c.args.src.now (extension_words c.args.extensions.now) (schema_tree c.in-Ok.schema) c.converted.result c.in-Ok.ensures.reads c.converted.ensures.declares c.converted.ensures.warnings

pub returns-in-Ok-clause-refused : goal.returns-in-Ok-clause-refused
returns-in-Ok-clause-refused c =
    tells_text (λ made. fragment_seen made.0) (λ made. made.1.items) c.args.src.now (extension_words c.args.extensions.now) (schema_tree c.in-Ok.schema) c.converted.result c.in-Ok.ensures.reads c.converted.ensures.refused

pub returns-in-Ok-clause-faults : goal.returns-in-Ok-clause-faults
returns-in-Ok-clause-faults c =
    λ tree reads. faults_too (λ made. fragment_seen made.0) (λ made. made.1.items) c.args.src.now (extension_words c.args.extensions.now) (schema_tree c.in-Ok.schema) c.converted.result tree (c.in-Ok.ensures.accepts tree reads) c.converted.ensures.refused

pub returns-in-Ok-clause-accepts : goal.returns-in-Ok-clause-accepts
returns-in-Ok-clause-accepts c =
    λ tree reads fragment declares. c.converted.ensures.accepts fragment (declared_too (schema_tree c.in-Ok.schema) tree fragment (c.in-Ok.ensures.accepts tree reads) declares)

-- what is made of a text
abbrev Made : Type 0
Made = Fragment RawName over_raw × Vec SchemaWarning Global

pub returns-in-Err-clause-faults : goal.returns-in-Err-clause-faults
returns-in-Err-clause-faults c = λ tree reads. no_refusal Made c.in-Err.failure (λ schema. schema_tree schema ≡ tree) (λ errors. AreFaults errors (schema_faults tree)) (c.in-Err.ensures.accepts tree reads)

pub returns-in-Err-clause-accepts : goal.returns-in-Err-clause-accepts
returns-in-Err-clause-accepts c =
    λ tree reads fragment declares. also_accepted Made c.in-Err.failure (λ schema. schema_tree schema ≡ tree) (λ made. fragment_seen made.0 ≡ fragment) (c.in-Err.ensures.accepts tree reads)
