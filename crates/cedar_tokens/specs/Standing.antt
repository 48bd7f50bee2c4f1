-- SPDX-License-Identifier: Apache-2.0
-- Where tokens stand in a text.
use Rattle.std.specs.Prelude.{ℕ, ◌<◌, ◌≤◌, List, [], ◌∷◌, length, slice_range, All, IsCharBoundary}
use Rattle.cedar_tokens.specs.declared.token.Token.{Token}

-- the token takes some bytes of the text, and whole characters
pub record StandsIn (text : List ℕ) (t : Token) : Type 0 where
  pub some : t.start < t.end
  pub within : t.end ≤ length text
  pub starts : IsCharBoundary text t.start
  pub ends : IsCharBoundary text t.end

-- each token begins where the one before it ended, or later; the first at this place or later
abbrev pub InOrder : ℕ → List Token → Type 0
InOrder at [] = Unit {0}
InOrder at (t ∷ ts) = (at ≤ t.start) × InOrder t.end ts

-- the tokens stand in the text, one after another
pub record ArePlaced (text : List ℕ) (ts : List Token) : Type 0 where
  pub stand : All (StandsIn text) ts
  pub ordered : InOrder 0 ts

-- the part of the text that the token takes
abbrev pub own_text : List ℕ → Token → List ℕ
own_text text t = slice_range text t.start t.end

-- a character of the text begins at this place
pub record IsPlaceIn (text : List ℕ) (place : ℕ) : Type 0 where
  pub within : place < length text
  pub begins : IsCharBoundary text place
