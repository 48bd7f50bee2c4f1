-- SPDX-License-Identifier: Apache-2.0
use Rattle.std.proofs.Common.{map}
use Rattle.cedar_tokens.specs.Lexemes.{lexeme_token}
use Rattle.cedar_syntax.proofs.Rules.{if_ok_follows, last_rule, not_true}
use Rattle.cedar_syntax.proofs.users.rule_error.Goals as goal

pub returns-in-Some-2 : goal.returns-in-Some-2
returns-in-Some-2 c = rw c.in-Some-2.is at (c.in_ok-error.ensures c.args.source.now)

pub returns : goal.returns
returns c =
    let front = map (lexeme_token c.args.source.now) c.args.front.now in
    let t = lexeme_token c.args.source.now c.args.token.now in
    let escape = rw c.in_default.is at c.in_ok-bad.ensures in
    let repeat = rw c.in_default-2.is at (c.in_ok-error.ensures c.args.source.now) in
    if_ok_follows c.reserved_error.result _ _ (λ found. last_rule front t found (λ closes. not_true c.closes_empty_enum.result c.if-closes_empty_enum.false ((c.closes_empty_enum.ensures c.args.source.now).1 closes)) escape repeat) c.reserved_error.ensures
