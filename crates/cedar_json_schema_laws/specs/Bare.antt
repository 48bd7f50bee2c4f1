-- SPDX-License-Identifier: Apache-2.0
-- What JSON has no room for: annotations of the namespace without a name.
use Rattle.std.specs.Prelude.{◌≡◌, ⊤, List, [], Option, Some, None}
use Rattle.cedar_tree.specs.Trees.{ByKey, Text}

-- the unnamed namespace has no annotations
abbrev pub IsBare : Option (List Text) → ByKey → Type 0
IsBare None annotations = annotations ≡ []
IsBare (Some name) annotations = ⊤
