-- SPDX-License-Identifier: Apache-2.0
use Rattle.std.specs.Prelude.{ℕ, ◌≤◌, List}
use Rattle.std.specs.Str.{IsCharBoundary}
use Rattle.cedar_text.specs.declared.location.Loc.{Loc}
use Rattle.cedar_text.specs.declared.location.Span.{Span}

-- the bytes from start to end are a range of the text on boundaries of its characters
abbrev pub IsTextRange : List ℕ → ℕ → ℕ → Type 0
IsTextRange text start end = (start ≤ end) × IsCharBoundary text start × IsCharBoundary text end

-- the range of a place
abbrev pub span_of : Loc → Span
span_of loc = record { start = loc.start; end = loc.end }
