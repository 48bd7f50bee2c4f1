-- SPDX-License-Identifier: Apache-2.0
-- How single tokens are read.
use Rattle.std.proofs.Common.{◌≡◌, ◌-◌, ℕ, true, List, ◌∷◌, ◌++◌, length, length-append, take, drop, codes, Option, Some, refl, ap, ◌∙◌, arith}
use Rattle.std.proofs.lemmas.List.{take_at, drop_at}
use Rattle.std.specs.List.{ends_with}
use Rattle.std.specs.Prelude.{IsTrue, nat_eq}
use Rattle.std.specs.Option.{option_and_then, option_map}
use Rattle.std.specs.Result.{result_ok}
use Rattle.cedar_text.specs.Escapes.{escaped}
use Rattle.cedar_text.specs.Words.{is_id}
use Rattle.cedar_text.proofs.UndoLemmas.{unescaped-escaped}
use Rattle.cedar_print.specs.Pieces.{quoted_text}
use Rattle.cedar_tokens.specs.Lexemes.{TextToken}
use Rattle.cedar_tree.specs.Trees.{Text}
use Rattle.cedar_grammar.specs.Grammar.{at_token, ident, is_ident_token, is_quoted, literal_body, literal_value, str, text_of_body, text_where}
use Rattle.cedar_grammar.specs.Productions.{class}
use Rattle.cedar_reread.specs.TreesRead.{bare}
use Rattle.cedar_reread.specs.Said.{Tokens, word_token, str_token}

-- a token of which f makes a value is read as that value
pub one : {A : Type 0} (f : TextToken → Option A) (t : TextToken) (x : A) (rest : Tokens) → f t ≡ Some x → (class f).reads (t ∷ rest) x rest
one f t x rest is = record { token = t; front = refl; is = is }

-- an identifier
pub ident_read : (w : Text) (rest : Tokens) → IsTrue (is_id w) → ident.reads (word_token w ∷ rest) (bare w) rest
ident_read w rest id = one (text_where is_ident_token) (word_token w) (bare w) rest (rw id refl)

-- ---- a text between quotes

ends_quoted : (s : List ℕ) → ends_with nat_eq (s ++ codes "\"") (codes "\"") ≡ true
ends_quoted s =
    let len : length (s ++ codes "\"") - 1 ≡ length s = omega (arith, length-append s (codes "\"")) in
    let behind : drop (length s) (s ++ codes "\"") ≡ codes "\"" = drop_at s (codes "\"") (length s) refl in
    rw (len, behind) refl

body_read : (t : Text) → literal_body (quoted_text t) ≡ Some (escaped t)
body_read t =
    let len : length (quoted_text t) - 2 ≡ length (escaped t) = omega (arith, length-append (escaped t) (codes "\"")) in
    let quoted : is_quoted (quoted_text t) ≡ true = ends_quoted (escaped t) in
    rw quoted (ap Some (ap (λ (n : ℕ). take n (escaped t ++ codes "\"")) len ∙ take_at (escaped t) (codes "\"") (length (escaped t)) refl))

value_read : (t : Text) → literal_value (str_token t) ≡ Some (bare t)
value_read t =
    ap (λ (o : Option (List ℕ)). option_map (at_token (str_token t)) (option_and_then text_of_body o)) (body_read t)
    ∙ ap (λ r. option_map (at_token (str_token t)) (result_ok r)) (unescaped-escaped t)

pub str_read : (t : Text) (rest : Tokens) → str.reads (str_token t ∷ rest) (bare t) rest
str_read t rest = one literal_value (str_token t) (bare t) rest (value_read t)
