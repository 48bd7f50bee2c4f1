-- SPDX-License-Identifier: Apache-2.0
use Rattle.std.proofs.Common.{Err, Global, Vec, subst}
use Rattle.cedar_fragment_world.specs.of_convert_fragment.Views.{fragment_seen}
use Rattle.cedar_schema_errors.specs.of_convert_text.Texts.{TellsText}
use Rattle.cedar_schema_errors.specs.of_convert_warnings.declared.warnings.SchemaWarning.{SchemaWarning}
use Rattle.cedar_data.specs.Answers.{IfRefused}
use Rattle.cedar_fragment.specs.ActionUids.{over_raw}
use Rattle.cedar_fragment.specs.declared.definitions.Fragment.{Fragment}
use Rattle.cedar_names.specs.Extensions.{extension_words}
use Rattle.cedar_schema.proofs.Declaring.{declared_or_not, one_declared}
use Rattle.cedar_written.specs.declared.raw_name.RawName.{RawName}
use Rattle.cedar_schema.proofs.texts.FragmentRawNameFragmentText.from_cedarschema_str.Goals as goal

-- what is made of a text: a fragment, with warnings
abbrev Made : Type 0
Made = Fragment RawName over_raw × Vec SchemaWarning Global

pub returns-in-Ok-clause-accepts : goal.returns-in-Ok-clause-accepts
returns-in-Ok-clause-accepts c =
    λ F warned declares. one_declared c.args.src.now (extension_words c.args.extensions.now) (fragment_seen c.in-Ok.made.0) F c.in-Ok.made.1.items warned c.in-Ok.ensures.declares declares

pub returns-in-Err-Refused-clause-accepts : goal.returns-in-Err-Refused-clause-accepts
returns-in-Err-Refused-clause-accepts c =
    λ F warned declares. declared_or_not c.args.src.now (extension_words c.args.extensions.now) F warned c.in-Err-Refused.errors declares
    (subst (λ failure. IfRefused {T = Made} (Err failure) (TellsText c.args.src.now)) c.in-Err-Refused.field-0-is c.in-Err-Refused.ensures.refused)
