-- SPDX-License-Identifier: Apache-2.0
-- The text that is printed of a fragment over names as they are written.
use Rattle.std.specs.Prelude.{◌≡◌, ℕ, List, Option, Some}
use Rattle.cedar_text.specs.Joining.{joined}
use Rattle.cedar_print.specs.Pieces.{text_of}
use Rattle.cedar_written.specs.declared.raw_name.RawName.{RawName}
use Rattle.cedar_fragment.specs.ActionUids.{over_raw}
use Rattle.cedar_fragment.specs.Printed.{print}
use Rattle.cedar_fragment.specs.declared.definitions.Fragment.{Fragment}
use Rattle.cedar_reread_print.specs.Spoken.{words}

-- a name is shown as its words with `::` between them
abbrev pub shown : RawName → Option (List ℕ)
shown n = Some (joined (words n))

-- the text is what is printed of the fragment
abbrev pub IsPrintOf : List ℕ → Fragment RawName over_raw → Type 0
IsPrintOf text F = text_of shown (print F) ≡ Some text
