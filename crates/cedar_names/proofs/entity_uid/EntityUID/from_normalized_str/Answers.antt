-- SPDX-License-Identifier: Apache-2.0
use Rattle.std.proofs.Common.{◌≡◌, ◌<◌, None, length, drop, sym, ap, ◌+◌, ◌∙◌, arith, rules}
use Rattle.cedar_names.specs.EntityUids.{eid_text, entity_type_of, eid_of}
use Rattle.cedar_names.specs.Names.{entity_words, name_words}
use Rattle.cedar_names.specs.declared.entity_uid.EntityUID.{EntityUID}
use Rattle.cedar_text.specs.Literals.{literal_fault, ClosesLiteral}
use Rattle.cedar_names.proofs.EntityUidLemmas.{all_are_words, some_words, some_bytes, IsCharBoundary-opening, fault-words, writes}
use Rattle.cedar_names.proofs.entity_uid.EntityUID.from_normalized_str.Goals as goal

pub split_at-requires-2 : goal.split_at-requires-2
split_at-requires-2 c =
    let some : 0 < length c.split_at.result.1.now = some_bytes c.split_at.result.1.now (sym c.is_empty.ensures ∙ c.if-is_empty.false) in
    IsCharBoundary-opening c.args.s.now _ c.quote_place.ensures.value _ _ c.split_at.ensures.front c.split_at.ensures.back some c.utf8.s c.quote_place.ensures.boundary

pub of_words-requires-clause-words : goal.of_words-requires-clause-words
of_words-requires-clause-words c = all_are_words c.split_at.result.0.now c.in_ok-words.words.items c.in_ok-words.ensures.ok.0 c.in_ok-words.ensures.ok.1

pub of_words-requires-clause-some : goal.of_words-requires-clause-some
of_words-requires-clause-some c =
    let some = some_words c.split_at.result.0.now c.in_ok-words.words.items c.in_ok-words.ensures.ok.0 c.in_ok-words.ensures.ok.1 in
    omega (arith, c.in_ok-words.words.ok.0)

pub returns-in_err-name-clause-refused : goal.returns-in_err-name-clause-refused
returns-in_err-name-clause-refused c =
    let some : 0 < length c.split_at.result.1.now = search rules in
    let closed : literal_fault (length c.split_at.result.0.now + 1) (drop 1 c.split_at.result.1.now) ≡ None = search rules in
    let same = fault-words c.args.s.now _ c.quote_place.ensures.value _ _ c.split_at.ensures.front c.split_at.ensures.back some c.in_ok-words.ensures.ok.0 c.in_ok-words.words.items c.in_ok-words.ensures.ok.1
    closed in
    rw same (search rules)

pub returns-clause-ok : goal.returns-clause-ok
returns-clause-ok c =
    let some : 0 < length c.split_at.result.1.now = search rules in
    let closed : literal_fault (length c.split_at.result.0.now + 1) (drop 1 c.split_at.result.1.now) ≡ None = search rules in
    fault-words c.args.s.now _ c.quote_place.ensures.value _ _ c.split_at.ensures.front c.split_at.ensures.back some c.in_ok-words.ensures.ok.0 c.in_ok-words.words.items c.in_ok-words.ensures.ok.1 closed
    ∙ c.in_ok-name.ensures.ok.0

pub returns-clause-written : goal.returns-clause-written
returns-clause-written c =
    let some : 0 < length c.split_at.result.1.now = search rules in
    let closed : literal_fault (length c.split_at.result.0.now + 1) (drop 1 c.split_at.result.1.now) ≡ None = search rules in
    let literal : ClosesLiteral (drop 1 c.split_at.result.1.now) c.in_ok-text.text = search rules in
    let all = writes c.args.s.now _ c.quote_place.ensures.value _ _ c.split_at.ensures.front c.split_at.ensures.back some c.in_ok-words.ensures.ok.0 c.in_ok-words.words.items c.in_ok-words.ensures.ok.1 closed
    c.in_ok-text.text literal in
    let words : entity_words (entity_type_of c.from_components.result) ≡ c.in_ok-words.words.items =
    ap (λ (u : EntityUID). entity_words (entity_type_of u)) c.from_components.ensures ∙ ap name_words c.from_name-ty.ensures ∙ c.in_ok-name.ensures.ok.1 in
    let id : eid_text (eid_of c.from_components.result) ≡ c.in_ok-text.text = ap (λ (u : EntityUID). eid_text (eid_of u)) c.from_components.ensures ∙ c.new.ensures in
    rw (words, id) all
