-- SPDX-License-Identifier: Apache-2.0
-- What is told of a fragment whose names collide.
use Rattle.std.proofs.Common.{◌≡◌, Result, Ok, Err, String, Global}
use Rattle.std.specs.String.{string_bytes}
use Rattle.cedar_data.specs.Answers.{IfRefused}
use Rattle.cedar_data.specs.declared.memory.Failure.{Failure}
use Rattle.cedar_data.specs.declared.memory.Failure.TheVariants.{Refused, NoMemory}
use Rattle.cedar_fmt.specs.Collisions.{collisions}
use Rattle.cedar_fmt.specs.Texts.{kept_names}
use Rattle.cedar_fmt.specs.declared.errors.ToCedarSchemaSyntaxError.{ToCedarSchemaSyntaxError}
use Rattle.cedar_fragment.specs.ActionUids.{over_raw}
use Rattle.cedar_fragment.specs.declared.definitions.Fragment.{Fragment}
use Rattle.cedar_written.specs.declared.raw_name.RawName.{RawName}
use Rattle.cedar_reviews.specs.Printing.{TellsCollisionsOf}
use Rattle.cedar_reviews.specs.Refusal.{collisions_refusal}

-- what is told of a fragment whose names collide
pub collisions-told : (F : Fragment RawName over_raw) (e : ToCedarSchemaSyntaxError) → kept_names e ≡ collisions F → {T : Type 0} (r : Result T (Failure (String Global)))
    → IfRefused r (λ told. string_bytes told ≡ collisions_refusal e) → IfRefused r (λ told. TellsCollisionsOf F (string_bytes told))
collisions-told F e kept (Ok value) is = tt
collisions-told F e kept (Err (Refused told)) is = (e, kept, is)
collisions-told F e kept (Err NoMemory) is = tt
