-- SPDX-License-Identifier: Apache-2.0
-- Which tests of a token exclude each other.
use Rattle.std.proofs.Common.{◌≡◌, ℕ, Bool, true, false, not, ◌&&◌, if◌then◌else◌, List, Option, Some, None, refl}
use Rattle.std.specs.Str.{bytes_eq}
use Rattle.std.proofs.lemmas.Slice.Eq.{bytes_eq-Decides}
use Rattle.cedar_tokens.specs.of_text.Words.{is_word, is_reserved_word, is_id}
use Rattle.cedar_tokens.specs.Lexemes.{TextToken}
use Rattle.cedar_tokens.specs.declared.token.TokenKind.{TokenKind}
use Rattle.cedar_tokens.specs.declared.token.TokenKind.TheVariants as kind
use Rattle.cedar_tree.specs.Trees.{Node, Text}
use Rattle.cedar_grammar.specs.Grammar.{is_word_kind, is_str_kind, is_punct_kind, is_word_token, is_keyword, is_mark_token, is_ident_token, text_where, literal_value}

-- both hold
first_holds : (a b : Bool) → (a && b) ≡ true → a ≡ true
first_holds true b e = refl
first_holds false b e = absurd cc

second_holds : (a b : Bool) → (a && b) ≡ true → b ≡ true
second_holds true b e = e
second_holds false b e = absurd cc

-- the tests of kinds tell the kinds
punct_kind : (k : TokenKind) → is_punct_kind k ≡ true → k ≡ kind.Punct
punct_kind kind.Punct e = refl
punct_kind kind.Word e = absurd cc
punct_kind kind.Str e = absurd cc

a_word_kind : (k : TokenKind) → is_word_kind k ≡ true → k ≡ kind.Word
a_word_kind kind.Word e = refl
a_word_kind kind.Punct e = absurd cc
a_word_kind kind.Str e = absurd cc

-- what is made of literals alone is made of a literal
str_cases : {A : Type 0} (k : TokenKind) (o : Option A) (x : A) → (if is_str_kind k then o else None) ≡ Some x → k ≡ kind.Str
str_cases kind.Str o x e = refl
str_cases kind.Word o x e = absurd cc
str_cases kind.Punct o x e = absurd cc

-- what is made where a test holds
where_cases : {A : Type 0} (b : Bool) (v x : A) → (if b then Some v else None) ≡ Some x → b ≡ true
where_cases true v x e = refl
where_cases false v x e = absurd cc

-- a token of which text_where makes a value passes the test
pub passes : (p : TextToken → Bool) (t : TextToken) (x : Node Text) → text_where p t ≡ Some x → p t ≡ true
passes p t x e = where_cases (p t) _ x e

-- a mark is of the kind of marks, and is its text
pub mark_is : (s : List ℕ) (t : TextToken) → is_mark_token s t ≡ true → (t.kind ≡ kind.Punct) × (t.text ≡ s)
mark_is s t e = (punct_kind t.kind (first_holds _ _ e), (bytes_eq-Decides t.text s).0 (second_holds (is_punct_kind t.kind) _ e))

-- a keyword is of the kind of words, and is its text
pub keyword_is : (s : List ℕ) (t : TextToken) → is_keyword s t ≡ true → (t.kind ≡ kind.Word) × (t.text ≡ s)
keyword_is s t e = (a_word_kind t.kind (first_holds _ _ e), (bytes_eq-Decides t.text s).0 (second_holds (is_word_kind t.kind) _ e))

-- an identifier is of the kind of words, and is no reserved word
pub ident_is : (t : TextToken) → is_ident_token t ≡ true → (t.kind ≡ kind.Word) × (is_id t.text ≡ true)
ident_is t e = (a_word_kind t.kind (first_holds _ _ e), second_holds (is_word_kind t.kind) _ e)

-- a word is of the kind of words
pub word_is : (t : TextToken) → is_word_token t ≡ true → t.kind ≡ kind.Word
word_is t e = a_word_kind t.kind e

-- a literal is of the kind of literals
pub literal_is : (t : TextToken) (x : Node Text) → literal_value t ≡ Some x → t.kind ≡ kind.Str
literal_is t x e = str_cases t.kind _ x e

-- a mark is no other mark
pub mark_other : (s r : List ℕ) (t : TextToken) → is_mark_token s t ≡ true → bytes_eq s r ≡ false → is_mark_token r t ≡ false
mark_other s r t e differ = let is = mark_is s t e in rw (is.0, is.1, differ) refl

-- a keyword is no other keyword
pub keyword_other : (s r : List ℕ) (t : TextToken) → is_keyword s t ≡ true → bytes_eq s r ≡ false → is_keyword r t ≡ false
keyword_other s r t e differ = let is = keyword_is s t e in rw (is.0, is.1, differ) refl

-- what the kind alone excludes
pub word_no_mark : (s : List ℕ) (t : TextToken) → t.kind ≡ kind.Word → is_mark_token s t ≡ false
word_no_mark s t e = rw e refl

pub str_no_mark : (s : List ℕ) (t : TextToken) → t.kind ≡ kind.Str → is_mark_token s t ≡ false
str_no_mark s t e = rw e refl

pub punct_no_keyword : (s : List ℕ) (t : TextToken) → t.kind ≡ kind.Punct → is_keyword s t ≡ false
punct_no_keyword s t e = rw e refl

pub str_no_keyword : (s : List ℕ) (t : TextToken) → t.kind ≡ kind.Str → is_keyword s t ≡ false
str_no_keyword s t e = rw e refl

pub punct_no_word : (t : TextToken) → t.kind ≡ kind.Punct → is_word_token t ≡ false
punct_no_word t e = rw e refl

pub str_no_word : (t : TextToken) → t.kind ≡ kind.Str → is_word_token t ≡ false
str_no_word t e = rw e refl

pub punct_no_ident : (t : TextToken) → t.kind ≡ kind.Punct → is_ident_token t ≡ false
punct_no_ident t e = rw e refl

pub str_no_ident : (t : TextToken) → t.kind ≡ kind.Str → is_ident_token t ≡ false
str_no_ident t e = rw e refl

pub punct_no_literal : (t : TextToken) → t.kind ≡ kind.Punct → literal_value t ≡ None
punct_no_literal t e = rw e refl

pub word_no_literal : (t : TextToken) → t.kind ≡ kind.Word → literal_value t ≡ None
word_no_literal t e = rw e refl

-- a token of one test is none of the other
pub mark_no_keyword : (s r : List ℕ) (t : TextToken) → is_mark_token s t ≡ true → is_keyword r t ≡ false
mark_no_keyword s r t e = punct_no_keyword r t (mark_is s t e).0

pub keyword_no_mark : (s r : List ℕ) (t : TextToken) → is_keyword s t ≡ true → is_mark_token r t ≡ false
keyword_no_mark s r t e = word_no_mark r t (keyword_is s t e).0

pub ident_no_mark : (s : List ℕ) (t : TextToken) → is_ident_token t ≡ true → is_mark_token s t ≡ false
ident_no_mark s t e = word_no_mark s t (ident_is t e).0

pub mark_no_ident : (s : List ℕ) (t : TextToken) → is_mark_token s t ≡ true → is_ident_token t ≡ false
mark_no_ident s t e = punct_no_ident t (mark_is s t e).0

-- neither holds
neither : (b : Bool) → (b && false) ≡ false
neither true = refl
neither false = refl

-- a reserved word is no identifier
pub reserved_no_ident : (s : List ℕ) (t : TextToken) → is_reserved_word s ≡ true → is_keyword s t ≡ true → is_ident_token t ≡ false
reserved_no_ident s t reserved e = let is = keyword_is s t e in rw (is.0, is.1, reserved) (neither (is_word s))

-- no identifier is a reserved word
kept_out : (b : Bool) (v s : List ℕ) → bytes_eq v s ≡ b → is_reserved_word s ≡ true → is_id v ≡ true → b ≡ false
kept_out false v s e reserved free = refl
kept_out true v s e reserved free = absurd (let same = (bytes_eq-Decides v s).0 e in let fixed : is_id s ≡ true = rw same at free in let no : not true ≡ true = rw reserved at (second_holds (is_word s) _ fixed) in cc)

-- an identifier is no reserved keyword
pub ident_no_reserved : (s : List ℕ) (t : TextToken) → is_reserved_word s ≡ true → is_ident_token t ≡ true → is_keyword s t ≡ false
ident_no_reserved s t reserved e = let is = ident_is t e in rw (is.0, kept_out (bytes_eq t.text s) t.text s refl reserved is.1) refl
