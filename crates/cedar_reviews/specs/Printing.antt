-- SPDX-License-Identifier: Apache-2.0
-- What is made of a fragment that is to be written in the human syntax, or told of it.
use Rattle.std.specs.Prelude.{◌≡◌, ℕ, List, [], Some}
use Rattle.cedar_fmt.specs.Collisions.{collisions}
use Rattle.cedar_fmt.specs.Texts.{kept_names}
use Rattle.cedar_fmt.specs.declared.errors.ToCedarSchemaSyntaxError.{ToCedarSchemaSyntaxError}
use Rattle.cedar_fragment.specs.ActionUids.{over_raw}
use Rattle.cedar_fragment.specs.Printed.{print}
use Rattle.cedar_fragment.specs.declared.definitions.Fragment.{Fragment}
use Rattle.cedar_print.specs.Pieces.{text_of}
use Rattle.cedar_written.specs.declared.raw_name.RawName.{RawName}
use Rattle.cedar_reviews.specs.RawNames.{raw_text}
use Rattle.cedar_reviews.specs.Refusal.{collisions_refusal}

-- the fragment can be written in the human syntax, and its text is this
abbrev pub IsPrintedAs : Fragment RawName over_raw → List ℕ → Type 0
IsPrintedAs F due = (collisions F ≡ []) × (text_of raw_text (print F) ≡ Some due)

-- this is told of the names of the fragment that are both an entity type and a common type
abbrev pub TellsCollisionsOf : Fragment RawName over_raw → List ℕ → Type 0
TellsCollisionsOf F told = (e : ToCedarSchemaSyntaxError) × (kept_names e ≡ collisions F) × (told ≡ collisions_refusal e)
