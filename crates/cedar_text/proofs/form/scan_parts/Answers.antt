-- SPDX-License-Identifier: Apache-2.0
use Rattle.std.proofs.Common.{◌≡◌, ◌<◌, ◌++◌, [], ◌∷◌, Some, length, sym, ap, ◌∙◌, subst, arith, rules}
use Rattle.std.specs.Str.{IsUtf8}
use Rattle.std.proofs.lemmas.List.{append-nil}
use Rattle.std.proofs.lemmas.Str.{IsUtf8-drop}
use Rattle.cedar_text.specs.NormalNames.{is_empty_fault}
use Rattle.cedar_text.specs.declared.fault.NameFault.{NameFault}
use Rattle.cedar_text.proofs.PartsLemmas.{Parsed-open, Parsed-missing, Parsed-end, Parsed-other, Parsed-next, IsCharBoundary-colons}
use Rattle.cedar_text.proofs.form.scan_parts.Goals as goal

pub returns-then-is_empty-clause-ok : goal.returns-then-is_empty-clause-ok
returns-then-is_empty-clause-ok c =
    let none : length c.parts.rest.now ≡ 0 = search rules in
    Parsed-open c.args.s.now c.parts.at c.parts.rest.now c.parts.words.items c.parts.invariant.1 none

pub returns-then-len-eq0-clause-refused : goal.returns-then-len-eq0-clause-refused
returns-then-len-eq0-clause-refused c =
    let some : 0 < length c.parts.rest.now = search rules in (
      Parsed-missing c.args.s.now c.parts.at c.parts.rest.now c.parts.words.items c.parts.invariant.1 _ c.word_len-len.ensures.value some c.if-len-eq0.true
          ∙ ap (λ (f : NameFault). Some f) (sym c.in_ok-fault.ensures),
      ap is_empty_fault c.in_ok-fault.ensures,
    )

pub returns-then-is_empty-2-clause-ok : goal.returns-then-is_empty-2-clause-ok
returns-then-is_empty-2-clause-ok c =
    let some : 0 < c.word_len-len.result = omega arith in
    let none : length c.split_at.result.1.now ≡ 0 = search rules in
    let pushed : c.push.new.self.items ≡ c.parts.words.items ++ c.split_at.result.0.now ∷ [] = search rules in
    let all = Parsed-end c.args.s.now c.parts.at c.parts.rest.now c.parts.words.items c.parts.invariant.1 _ c.word_len-len.ensures.value some _ _ c.split_at.ensures.front c.split_at.ensures.back none in
    (all.0, append-nil c.push.new.self.items ∙ pushed ∙ all.1)

pub returns-then-not-starts_with-clause-refused : goal.returns-then-not-starts_with-clause-refused
returns-then-not-starts_with-clause-refused c =
    let some : 0 < c.word_len-len.result = omega arith in
    let more : 0 < length c.split_at.result.1.now = search rules in (
      Parsed-other c.args.s.now c.parts.at c.parts.rest.now c.parts.words.items c.parts.invariant.1 _ c.word_len-len.ensures.value some _ _ c.split_at.ensures.front c.split_at.ensures.back more (search rules)
          ∙ ap (λ (f : NameFault). Some f) (sym c.in_ok-fault-2.ensures),
      ap is_empty_fault c.in_ok-fault-2.ensures,
    )

pub split_at-requires-in-parts : goal.split_at-requires-in-parts
split_at-requires-in-parts c =
    let text : IsUtf8 c.split_at.result.1.now = subst IsUtf8 (sym c.split_at.ensures.back) (IsUtf8-drop c.parts.rest.now c.word_len-len.result c.parts.invariant.0 c.word_len-len.ensures.boundary) in
    IsCharBoundary-colons c.split_at.result.1.now text (search rules)

pub parts-preserved : goal.parts-preserved
parts-preserved c =
    let some : 0 < c.word_len-len.result = omega arith in
    let text : IsUtf8 c.split_at.result.1.now = subst IsUtf8 (sym c.split_at.ensures.back) (IsUtf8-drop c.parts.rest.now c.word_len-len.result c.parts.invariant.0 c.word_len-len.ensures.boundary) in
    let cut = IsCharBoundary-colons c.split_at.result.1.now text (search rules) in
    let pushed : c.push.new.self.items ≡ c.parts.words.items ++ c.split_at.result.0.now ∷ [] = search rules in
    let next = Parsed-next c.args.s.now c.parts.at c.parts.rest.now c.parts.words.items c.parts.invariant.1 _ c.word_len-len.ensures.value some _ _ c.split_at.ensures.front c.split_at.ensures.back (search rules) in
    rw (pushed, c.split_at-in-parts.ensures.back) (IsUtf8-drop c.split_at.result.1.now 2 text cut, next)
