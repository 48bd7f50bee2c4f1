-- SPDX-License-Identifier: Apache-2.0
use Rattle.std.proofs.Common.{◌≡◌, true, false, ◌∙◌, sym, map}
use Rattle.cedar_tokens.specs.Lexemes.{lexeme_token}
use Rattle.cedar_syntax.proofs.Rules.{if_ok_follows, reserved_by}
use Rattle.cedar_syntax.proofs.users.is_reserved.Goals as goal

pub returns-in-Some : goal.returns-in-Some
returns-in-Some c = (
  λ holds. let e : false ≡ true = holds in absurd cc,
  λ reserved. absurd (reserved.new (lexeme_token c.args.source.now c.in-Some.field-0) (c.in-Some.ensures c.args.source.now).key),
)

pub returns : goal.returns
returns c =
    let front = map (lexeme_token c.args.source.now) c.args.front.now in
    let t = lexeme_token c.args.source.now c.args.token.now in
    if_ok_follows c.may_follow.result _ _
    (λ b may. reserved_by front t b (sym c.is_word.ensures ∙ c.if-not-is_word.false) (sym c.is_reserved_word.ensures ∙ c.if-not-is_reserved_word.false) (c.in_default.ensures c.args.source.now) may)
    c.may_follow.ensures
