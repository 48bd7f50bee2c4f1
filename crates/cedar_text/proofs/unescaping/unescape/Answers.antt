-- SPDX-License-Identifier: Apache-2.0
use Rattle.std.proofs.Common.{◌≡◌, ◌<◌, List, ℕ, Ok, Some, None, length, drop, sym, subst, ap, ◌∙◌, rules}
use Rattle.std.specs.Str.{IsUtf8}
use Rattle.std.specs.String.{string_bytes}
use Rattle.std.proofs.lemmas.Str.{IsUtf8-drop}
use Rattle.cedar_text.specs.Unescaping.{meaning_of}
use Rattle.cedar_text.proofs.UnescapeLemmas.{Unescaping-end, Unescaping-bad, Unescaping-next, escape-utf8, behind-utf8, IsCharBoundary-backslash, IsCharBoundary-meaning}
use Rattle.cedar_text.proofs.unescaping.unescape.Goals as goal

pub returns-then-is_empty-clause-ok : goal.returns-then-is_empty-clause-ok
returns-then-is_empty-clause-ok c =
    let l = c.pieces in
    let none : length c.split_at.result.1.now ≡ 0 = search rules in
    Unescaping-end c.args.body.now l.at l.rest.now (string_bytes l.text) l.invariant.1 _ c.plain_len-plain.ensures.value _ _ c.split_at.ensures.front c.split_at.ensures.back none
    ∙ ap (λ (b : List ℕ). Ok b) (sym c.in_ok-push_str.ensures.bytes)

pub split_at-requires-in-pieces : goal.split_at-requires-in-pieces
split_at-requires-in-pieces c =
    let l = c.pieces in
    let some : 0 < length c.split_at.result.1.now = search rules in
    IsCharBoundary-backslash c.args.body.now l.at l.rest.now (string_bytes l.text) l.invariant.1 _ c.plain_len-plain.ensures.value _ _ c.split_at.ensures.front c.split_at.ensures.back some
    (escape-utf8 c.args.body.now l.at l.rest.now (string_bytes l.text) l.invariant.1 _ c.plain_len-plain.ensures.value _ _ c.split_at.ensures.front c.split_at.ensures.back l.invariant.0 c.plain_len-plain.ensures.boundary)

pub returns-in_default-clause-refused : goal.returns-in_default-clause-refused
returns-in_default-clause-refused c =
    let l = c.pieces in
    let some : 0 < length c.split_at.result.1.now = search rules in
    let bad : meaning_of (drop 1 c.split_at.result.1.now) ≡ None = search rules in
    Unescaping-bad c.args.body.now l.at l.rest.now (string_bytes l.text) l.invariant.1 _ c.plain_len-plain.ensures.value _ _ c.split_at.ensures.front c.split_at.ensures.back some bad

pub split_at-requires-in-pieces-2 : goal.split_at-requires-in-pieces-2
split_at-requires-in-pieces-2 c =
    let l = c.pieces in
    let some : 0 < length c.split_at.result.1.now = search rules in
    let escape = escape-utf8 c.args.body.now l.at l.rest.now (string_bytes l.text) l.invariant.1 _ c.plain_len-plain.ensures.value _ _ c.split_at.ensures.front c.split_at.ensures.back l.invariant.0
    c.plain_len-plain.ensures.boundary in
    let behind = behind-utf8 c.args.body.now l.at l.rest.now (string_bytes l.text) l.invariant.1 _ c.plain_len-plain.ensures.value _ _ c.split_at.ensures.front c.split_at.ensures.back some escape in
    let good : meaning_of c.split_at-in-pieces.result.1.now ≡ Some c.in-Some.meaning = search rules in
    IsCharBoundary-meaning c.split_at-in-pieces.result.1.now c.in-Some.meaning (subst IsUtf8 (sym c.split_at-in-pieces.ensures.back) behind) good

pub pieces-preserved : goal.pieces-preserved
pieces-preserved c =
    let l = c.pieces in
    let m = c.in-Some.meaning in
    let some : 0 < length c.split_at.result.1.now = search rules in
    let escape = escape-utf8 c.args.body.now l.at l.rest.now (string_bytes l.text) l.invariant.1 _ c.plain_len-plain.ensures.value _ _ c.split_at.ensures.front c.split_at.ensures.back l.invariant.0
    c.plain_len-plain.ensures.boundary in
    let behind = behind-utf8 c.args.body.now l.at l.rest.now (string_bytes l.text) l.invariant.1 _ c.plain_len-plain.ensures.value _ _ c.split_at.ensures.front c.split_at.ensures.back some escape in
    let good : meaning_of (drop 1 c.split_at.result.1.now) ≡ Some m = search rules in
    let cut = IsCharBoundary-meaning (drop 1 c.split_at.result.1.now) m behind good in
    let next = Unescaping-next c.args.body.now l.at l.rest.now (string_bytes l.text) l.invariant.1 _ c.plain_len-plain.ensures.value _ _ c.split_at.ensures.front c.split_at.ensures.back some m good cut.0 in
    rw (c.in_ok-push.ensures.bytes, c.in_ok-push_str.ensures.bytes, c.split_at-in-pieces-2.ensures.back, c.split_at-in-pieces.ensures.back)
    (IsUtf8-drop (drop 1 c.split_at.result.1.now) m.len behind cut, next)
