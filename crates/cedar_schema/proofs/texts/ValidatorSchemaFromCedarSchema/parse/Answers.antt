-- SPDX-License-Identifier: Apache-2.0
use Rattle.std.proofs.Common.{Global, Vec, subst}
use Rattle.cedar_schema_errors.specs.of_convert_warnings.declared.warnings.SchemaWarning.{SchemaWarning}
use Rattle.cedar_fragment_world.specs.FragmentWorlds.{world_of_fragment}
use Rattle.cedar_names.specs.Extensions.{extension_words}
use Rattle.cedar_phases.specs.SchemaViews.{schema_in}
use Rattle.cedar_phases.specs.of_resolved.declared.schema.ValidatorSchema.{ValidatorSchema}
use Rattle.cedar_schema.proofs.Composing.{refused_accepts, well_formed_with}
use Rattle.cedar_schema.specs.DeclaredPlaces.{IsPlacedBy}
use Rattle.cedar_schema.specs.Fragments.{all_extensions}
use Rattle.cedar_fragment_world.specs.of_world.Denotes.{Denotes}
use Rattle.cedar_schema.proofs.texts.ValidatorSchemaFromCedarSchema.parse.Goals as goal

-- what is made of a text: a schema with warnings
abbrev Made : Type 0
Made = ValidatorSchema × Vec SchemaWarning Global

pub returns-in-Ok-clause-accepts : goal.returns-in-Ok-clause-accepts
returns-in-Ok-clause-accepts c =
    let extensions = extension_words c.in_ok-extensions.extensions in
    λ F warned well. subst (λ words. Denotes (world_of_fragment F words) (schema_in c.in-Ok.schema)) c.in_ok-extensions.ensures
    (c.in-Ok.ensures.accepts F warned (well_formed_with c.args.src.now extensions all_extensions c.in_ok-extensions.ensures F warned well)).0

pub returns-in-Ok-clause-placed : goal.returns-in-Ok-clause-placed
returns-in-Ok-clause-placed c = subst (λ words. IsPlacedBy c.args.src.now words c.in-Ok.schema) c.in_ok-extensions.ensures c.in-Ok.ensures.placed

pub returns-clause-accepts : goal.returns-clause-accepts
returns-clause-accepts c =
    let extensions = extension_words c.in_ok-extensions.extensions in
    λ F warned well. refused_accepts Made ValidatorSchema (λ schema. Denotes (world_of_fragment F all_extensions) (schema_in schema)) c.args.src.now extensions c.in-Err.failure c.in-Err.ensures.refused F warned
    (well_formed_with c.args.src.now extensions all_extensions c.in_ok-extensions.ensures F warned well)
