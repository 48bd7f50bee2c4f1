-- SPDX-License-Identifier: Apache-2.0
-- The tokens of a text are those of lexemes, and so are the tokens before one of them.
use Rattle.std.proofs.Common.{◌≡◌, List, [], ◌∷◌, ◌++◌, map, ℕ, refl, ap, ◌∙◌}
use Rattle.cedar_tokens.specs.Lexemes.{TextToken, lexeme_token, text_token}
use Rattle.cedar_tokens.specs.Standing.{own_text}
use Rattle.cedar_tokens.specs.declared.lexeme.Lexeme.{Lexeme}
use Rattle.cedar_tokens.specs.declared.token.Token.{Token}

-- a list that a function makes, parted at a member: the members of which its parts are made
pub record Parts {A B : Type 0} (f : A → B) (xs : List A) (front : List B) (y : B) : Type 0 where
  pub before : List A
  pub at : A
  pub front_is : map f before ≡ front
  pub at_is : f at ≡ y

-- one member more before
parts_later : {A B : Type 0} (f : A → B) (x : A) (xs : List A) (z y : B) (front : List B) → f x ≡ z → Parts f xs front y → Parts f (x ∷ xs) (z ∷ front) y
parts_later {A} {B} f x xs z y front first p = record {
  before = x ∷ p.before;
  at = p.at;
  front_is = ap (λ (w : B). w ∷ map f p.before) first ∙ ap (λ (ws : List B). z ∷ ws) p.front_is;
  at_is = p.at_is;
}

pub parts : {A B : Type 0} (f : A → B) (xs : List A) (front : List B) (y : B) (rest : List B) → map f xs ≡ front ++ y ∷ rest → Parts f xs front y
parts f [] [] y rest is = absurd cc
parts f [] (z ∷ front) y rest is = absurd cc
parts f (x ∷ xs) [] y rest is = record { before = []; at = x; front_is = refl; at_is = cc }
parts {B} f (x ∷ xs) (z ∷ front) y rest is =
    let first : f x ≡ z = cc in
    let others : ◌≡◌ {A = List B} (map f xs) (front ++ y ∷ rest) = cc in
    parts_later f x xs z y front first (parts f xs front y rest others)

-- a token as a lexeme
abbrev pub lexeme_of : List ℕ → Token → Lexeme
lexeme_of text t = record { kind = t.kind; text = record { ref_ptr = (0, 0); now = own_text text t }; start = t.start; end = t.end }

pub token_again : (text : List ℕ) (t : Token) → lexeme_token text (lexeme_of text t) ≡ text_token text t
token_again text t = refl

pub tokens_again : (text : List ℕ) (ts : List Token) → map (lexeme_token text) (map (lexeme_of text) ts) ≡ map (text_token text) ts
tokens_again text [] = refl
tokens_again text (t ∷ ts) = ap (λ (us : List TextToken). text_token text t ∷ us) (tokens_again text ts)
