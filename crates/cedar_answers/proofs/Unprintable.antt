-- SPDX-License-Identifier: Apache-2.0
-- What is told of schemas in JSON that can't be written in the human syntax, and that the others can.
use Rattle.std.proofs.Common.{◌≡◌, ℕ, List, [], Some, Result, Ok, Err, String, Global, inr, subst}
use Rattle.std.specs.String.{string_bytes}
use Rattle.cedar_data.specs.Answers.{IfRefused}
use Rattle.cedar_data.specs.declared.memory.Failure.{Failure}
use Rattle.cedar_data.specs.declared.memory.Failure.TheVariants.{Refused, NoMemory}
use Rattle.cedar_fmt.specs.Collisions.{collisions}
use Rattle.cedar_fragment.specs.ActionUids.{over_raw}
use Rattle.cedar_fragment.specs.declared.definitions.Fragment.{Fragment}
use Rattle.cedar_json.specs.TextFaults.{IsFragmentText, advised_fault}
use Rattle.cedar_json_fault.specs.declared.json_error.JsonDeserializationError.{JsonDeserializationError}
use Rattle.cedar_schema_json.proofs.OneShape.{text_clean, text_once}
use Rattle.cedar_written.specs.declared.raw_name.RawName.{RawName}
use Rattle.cedar_answers.specs.Making.{CanBePrinted}
use Rattle.cedar_answers.specs.Printing.{TellsUnprintable}
use Rattle.cedar_reviews.specs.Printing.{TellsCollisionsOf}

-- what is told of a fragment whose names collide is told of a text that has its shape
pub unprintable-told : (text : List ℕ) (F : Fragment RawName over_raw) → IsFragmentText text F → {T : Type 0} (r : Result T (Failure (String Global)))
    → IfRefused r (λ told. TellsCollisionsOf F (string_bytes told)) → IfRefused r (λ told. TellsUnprintable text (string_bytes told))
unprintable-told text F shape (Ok value) is = tt
unprintable-told text F shape (Err (Refused told)) is = inr (F, is.0, shape, is.1, is.2)
unprintable-told text F shape (Err NoMemory) is = tt

module _ (text : List ℕ) (F : Fragment RawName over_raw) (printable : CanBePrinted text F) where
  -- a text whose fragment can be printed has no fault
  pub no_fault : (e : JsonDeserializationError) → advised_fault text ≡ Some e → ⊥
  no_fault e fault = let none = text_clean text F printable.shape in cc

  -- and no other fragment has names that collide
  pub no_collisions : (G : Fragment RawName over_raw) → IsFragmentText text G → collisions G ≡ []
  no_collisions G shape = subst (λ H. collisions H ≡ []) (text_once text F G printable.shape shape) printable.apart
