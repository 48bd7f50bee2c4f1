-- SPDX-License-Identifier: Apache-2.0
use denote.Text.{Utf8}
use denote.Shadow.{shadow}
use Rattle.std.proofs.Common.{length}
use Rattle.cedar_text.proofs.PartsLemmas.{Parsed}
use Rattle.cedar_text.proofs.form.scan_parts.Given as goal

-- the rest is text, and the words before it are those of the text so far
abbrev pub invariant-parts : goal.invariant-parts
invariant-parts l = shadow (Utf8 l.rest) × Parsed l.s l.at l.rest l.words.items

abbrev pub decreases-parts : goal.decreases-parts
decreases-parts l = length l.rest
