-- SPDX-License-Identifier: Apache-2.0
-- What names are written as.
use Rattle.std.specs.Prelude.{ℕ, List, Option, Some}
use Rattle.cedar_names.specs.Components.{components}
use Rattle.cedar_text.specs.Joining.{joined}
use Rattle.cedar_written.specs.Possibilities.{written}
use Rattle.cedar_written.specs.declared.raw_name.RawName.{RawName}

-- the text of a name as it is written
abbrev pub raw_text : RawName → Option (List ℕ)
raw_text n = Some (joined (components (written n)))
