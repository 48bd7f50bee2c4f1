-- SPDX-License-Identifier: Apache-2.0
-- What an object has at its keys.
use Rattle.std.specs.Prelude.{ℕ, List, Bool, is_some, option_and_then}
use Rattle.serde_json.specs.Data.{Data}
use Rattle.serde_json.specs.Find.{as_str, get}

-- the object has a text at the key
abbrev pub has_text : Data → List ℕ → Bool
has_text d k = is_some (option_and_then as_str (get k d))

-- the object has a member at the key
abbrev pub has_member : Data → List ℕ → Bool
has_member d k = is_some (get k d)
