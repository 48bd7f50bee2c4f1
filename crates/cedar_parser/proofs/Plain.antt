-- SPDX-License-Identifier: Apache-2.0
-- A literal without a backslash stands for what is between its quotes.
use Rattle.std.proofs.Common.{◌≡◌, ℕ, ◌+◌, ◌==◌, Bool, true, false, ◌||◌, if◌then◌else◌, List, [], ◌∷◌, Some, Ok, refl, sym, ap, ◌∙◌}
use Rattle.std.specs.List.{list_any}
use Rattle.std.specs.Option.{option_and_then}
use Rattle.std.specs.Result.{result_ok}
use Rattle.cedar_text.specs.Unescaping.{at_escape, before, meaning_of, unescape_from}
use Rattle.cedar_grammar.specs.Grammar.{literal_body, text_of_body}

neither : (a b : Bool) → (a || b) ≡ false → (a ≡ false) × (b ≡ false)
neither false b e = (refl, e)
neither true b e = cc

stands_for_itself : (body : List ℕ) (at : ℕ) → list_any (λ b. b == 92) body ≡ false → unescape_from 0 at body ≡ Ok body
stands_for_itself [] at plain = refl
stands_for_itself (b ∷ bs) at plain =
    let parts = neither (b == 92) (list_any (λ b. b == 92) bs) plain in
    ap (λ t. if t then at_escape at (meaning_of bs) (λ len. unescape_from len (at + 1) bs) else before (b ∷ []) (unescape_from 0 (at + 1) bs)) parts.0
    ∙ ap (before (b ∷ [])) (stands_for_itself bs (at + 1) parts.1)

pub plain_text : (text body : List ℕ) → Some body ≡ literal_body text → list_any (λ b. b == 92) body ≡ false → Some body ≡ option_and_then text_of_body (literal_body text)
plain_text text body is plain = sym (ap result_ok (stands_for_itself body 0 plain)) ∙ ap (option_and_then text_of_body) is
