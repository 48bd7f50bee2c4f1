-- SPDX-License-Identifier: Apache-2.0
use Rattle.std.proofs.Common.{rules, ◌≡◌, ◌==◌, ◌∙◌, Some, ap, false, sym}
use Rattle.std.specs.List.{list_any}
use Rattle.cedar_grammar.specs.Grammar.{literal_body}
use Rattle.cedar_parser.proofs.Plain.{plain_text}
use Rattle.cedar_parser.proofs.tokens.Parser.value.Goals as goal

pub returns-then-not-contains : goal.returns-then-not-contains
returns-then-not-contains c =
    let body = c.in-Some.body.now in
    let is : Some body ≡ literal_body c.args.text.now = search rules in
    let off : c.contains.result ≡ false = search rules in
    let plain : list_any (λ b. b == 92) body ≡ false = ap (list_any (λ b. b == 92)) (sym c.as_bytes.ensures.value) ∙ sym c.contains.ensures.value ∙ off in
    ap Some c.in_ok-value.ensures ∙ plain_text c.args.text.now body is plain
