-- SPDX-License-Identifier: Apache-2.0
use Rattle.std.proofs.Common.{◌≡◌, ◌==◌, false, nat_eq, codes, rules}
use Rattle.std.specs.Char.{is_whitespace}
use Rattle.std.specs.List.{starts_with}
use Rattle.cedar_text.specs.Words.{is_word_start}
use Rattle.cedar_tokens.proofs.piece.piece_from.Goals as goal

pub returns : goal.returns
returns c =
    let blank : is_whitespace c.args.first ≡ false = search rules in
    let word : is_word_start c.args.first ≡ false = search rules in
    let quote : (c.args.first == 34) ≡ false = search rules in
    let slashes : starts_with nat_eq c.args.text.now (codes "//") ≡ false = search rules in
    rw (blank, word, quote, slashes) c.mark_from.ensures
