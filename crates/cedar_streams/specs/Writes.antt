-- SPDX-License-Identifier: Apache-2.0
-- What writing a whole text does to a sink.
use Rattle.std.specs.Prelude.{◌≡◌, ℕ, ◌≤◌, List, Option, Result, Ok, Err}
use Rattle.cedar_streams.specs.Bytes.{Takes, TakesFront}
use Rattle.cedar_streams.specs.Faults.{Rose}

-- Ok: the sink took exactly the text, and never failed. Err: it took a front of the text, and its count of faults rose, which never falls.
pub data Writes {K T E : Type 0} (written : K → Option (List ℕ)) (faults : K → ℕ) (old new : K) (text : List ℕ) : Result T E → Type 0 where
  whole : {x : T} → Takes (written old) (written new) text → faults new ≡ faults old → Writes written faults old new text (Ok x)
  part : {e : E} → TakesFront (written old) (written new) text → faults old ≤ faults new → Rose (faults old) (faults new) → Writes written faults old new text (Err e)
