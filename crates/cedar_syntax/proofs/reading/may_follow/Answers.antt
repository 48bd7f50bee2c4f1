-- SPDX-License-Identifier: Apache-2.0
use Rattle.std.proofs.Common.{◌≡◌, ◌↔◌, ◌∷◌, [], ◌++◌, ◌∙◌, ap, map, nat_eq, IsTrue, subst}
use Rattle.cedar_grammar.specs.Grammar.{Viable}
use Rattle.cedar_tokens.specs.Lexemes.{lexeme_token}
use Rattle.cedar_syntax.proofs.Completing.{follows, lexemes_push}
use Rattle.cedar_syntax.proofs.reading.may_follow.Goals as goal

pub returns-in-Err-Refused : goal.returns-in-Err-Refused
returns-in-Err-Refused c =
    let first = c.in_ok-extend_from_slice.ensures.items ∙ ap (λ xs. xs ++ c.args.front.now) c.new-lexemes.ensures.items in
    let all : c.deref.result.now ≡ c.args.front.now ++ c.args.next ∷ [] =
    c.deref.ensures.value ∙ c.in_ok-push.ensures.items ∙ ap (λ xs. xs ++ c.args.next ∷ []) first in
    subst (λ ts. IsTrue (nat_eq c.in-Err-Refused.fault.left 0) ↔ Viable ts) (lexemes_push c.args.source.now c.deref.result.now c.args.front.now c.args.next all)
    (follows c.grammar_viable.ensures.viable (map (lexeme_token c.args.source.now) c.deref.result.now) c.in-Err-Refused.fault.left (rw c.in-Err-Refused.field-0-is at c.in-Err-Refused.ensures.answers))
