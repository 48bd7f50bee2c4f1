-- SPDX-License-Identifier: Apache-2.0
use Rattle.std.proofs.Common.{◌≡◌, Global, Vec}
use Rattle.cedar_fragment_world.specs.of_convert_fragment.Views.{fragment_seen}
use Rattle.cedar_schema_errors.specs.of_convert_warnings.declared.warnings.SchemaWarning.{SchemaWarning}
use Rattle.cedar_fragment.specs.ActionUids.{over_raw}
use Rattle.cedar_fragment.specs.declared.definitions.Fragment.{Fragment}
use Rattle.cedar_fragment_world.specs.FragmentWorlds.{world_of_fragment}
use Rattle.cedar_names.specs.Extensions.{extension_words}
use Rattle.cedar_phases.specs.SchemaViews.{schema_in}
use Rattle.cedar_phases.specs.of_resolved.declared.schema.ValidatorSchema.{ValidatorSchema}
use Rattle.cedar_schema.proofs.Composing.{accepts_text, denotes_text, parsing_refused, placed_text, refused_accepts, refused_text}
use Rattle.cedar_fragment_world.specs.of_world.Denotes.{Denotes}
use Rattle.cedar_written.specs.declared.raw_name.RawName.{RawName}
use Rattle.cedar_schema.proofs.texts.ValidatorSchemaFromCedarSchema.from_cedarschema_str.Goals as goal

-- what is made of a text: a fragment or a schema, with warnings
abbrev Declared : Type 0
Declared = Fragment RawName over_raw × Vec SchemaWarning Global

abbrev Made : Type 0
Made = ValidatorSchema × Vec SchemaWarning Global

pub returns-in-Ok-clause-accepts : goal.returns-in-Ok-clause-accepts
returns-in-Ok-clause-accepts c =
    let extensions = extension_words c.args.extensions.now in
    let f = fragment_seen c.in-Ok.declared.0 in
    let warned = c.in-Ok.declared.1.items in
    accepts_text {M = Made} (λ made. schema_in made.0) (λ made. made.1.items) c.args.src.now extensions c.with_schema.result
    (denotes_text {M = Made} (λ made. schema_in made.0) (λ made. made.1.items) c.args.src.now extensions f warned c.in-Ok.ensures.declares c.with_schema.result c.with_schema.ensures.sound c.with_schema.ensures.denotes c.with_schema.ensures.warnings)
    (refused_text {M = Made} (λ made. schema_in made.0) (λ made. made.1.items) c.args.src.now extensions f warned c.in-Ok.ensures.declares c.with_schema.result c.with_schema.ensures.refused)

pub returns-in-Ok-clause-placed : goal.returns-in-Ok-clause-placed
returns-in-Ok-clause-placed c =
    placed_text {M = Made} (λ made. made.0) c.args.src.now (extension_words c.args.extensions.now) (fragment_seen c.in-Ok.declared.0) c.in-Ok.declared.1.items c.in-Ok.ensures.declares
    c.with_schema.result c.with_schema.ensures.placed

pub returns-in-Err-clause-accepts : goal.returns-in-Err-clause-accepts
returns-in-Err-clause-accepts c =
    let extensions = extension_words c.args.extensions.now in
    λ F warned well. refused_accepts Declared Made (λ made. Denotes (world_of_fragment F extensions) (schema_in made.0) × (made.1.items ≡ warned)) c.args.src.now extensions c.in-Err.failure
    (parsing_refused Declared Declared c.args.src.now extensions c.in-Err.failure c.in-Err.ensures.refused) F warned well
