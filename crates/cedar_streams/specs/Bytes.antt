-- SPDX-License-Identifier: Apache-2.0
-- What a read and a write do to the bytes that a source has left and a sink has written, where those are told.
use Rattle.std.specs.Prelude.{◌≡◌, ℕ, ◌<◌, ◌≤◌, List, ◌++◌, length, take, Option, Result, MatchResult}
use Rattle.std.specs.Io.KnownBytes.{append_known, prepend_known, IsAtEnd}

-- the source gave these bytes, which were at the front of what it had left; whether it tells them has not changed
abbrev pub Gives : Option (List ℕ) → Option (List ℕ) → List ℕ → Type 0
Gives old new bytes = old ≡ prepend_known bytes new

-- the source gave so many bytes at most
pub record GivesAtMost (limit : ℕ) (old new : Option (List ℕ)) : Type 0 where
  pub bytes : List ℕ
  pub gives : Gives old new bytes
  pub within : length bytes ≤ limit

-- the source gave more bytes than so many
pub record GivesMoreThan (limit : ℕ) (old new : Option (List ℕ)) : Type 0 where
  pub bytes : List ℕ
  pub gives : Gives old new bytes
  pub beyond : limit < length bytes

-- the source gave all that it had left, this text, and so many bytes at most
pub record GivesAll (limit : ℕ) (old new : Option (List ℕ)) (text : List ℕ) : Type 0 where
  pub gives : Gives old new text
  pub end : IsAtEnd new
  pub within : length text ≤ limit

-- the sink took these bytes, behind what it had written; whether it tells them has not changed
abbrev pub Takes : Option (List ℕ) → Option (List ℕ) → List ℕ → Type 0
Takes old new bytes = new ≡ append_known old bytes

-- the sink took a front of the text, maybe nothing, maybe all
pub record TakesFront (old new : Option (List ℕ)) (text : List ℕ) : Type 0 where
  pub front : List ℕ
  pub back : List ℕ
  pub split : text ≡ front ++ back
  pub takes : Takes old new front

-- `read(buf)` gave the n bytes that stand in front of buf at `Ok(n)`, none only at the end or with no room, and nothing at `Err`
abbrev pub ReadGives : {E : Type 0} → Option (List ℕ) → Option (List ℕ) → Result ℕ E → List ℕ → Type 0
ReadGives old new result buf = MatchResult result (λ n. Gives old new (take n buf) × (n ≡ 0 → 0 < length buf → IsAtEnd new)) (λ _. new ≡ old)

-- `write(piece)` took the first n bytes of the piece at `Ok(n)`, and nothing at `Err`
abbrev pub WriteTakes : {E : Type 0} → Option (List ℕ) → Option (List ℕ) → Result ℕ E → List ℕ → Type 0
WriteTakes old new result piece = MatchResult result (λ n. Takes old new (take n piece)) (λ _. new ≡ old)
