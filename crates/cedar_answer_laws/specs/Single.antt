-- SPDX-License-Identifier: Apache-2.0
-- What is one text.
use Rattle.std.specs.Prelude.{◌≡◌, ℕ, List}

-- at most one text is due
abbrev pub AtMostOne : (List ℕ → Type 0) → Type 0
AtMostOne Due = (due due' : List ℕ) → Due due → Due due' → due ≡ due'
