-- SPDX-License-Identifier: Apache-2.0
-- How lists of items are read.
use Rattle.std.proofs.Common.{List, [], ◌∷◌, ◌++◌, codes, map, refl, sym, subst, inl, inr, append_assoc, ◌≡◌, true}
use Rattle.std.specs.List.{AllByRecursion}
use Rattle.cedar_text.specs.Words.{is_id}
use Rattle.cedar_tokens.specs.Lexemes.{TextToken}
use Rattle.cedar_tree.specs.Trees.{Node, Text}
use Rattle.cedar_grammar.specs.Grammar.{bracketed, commas, mark, path, types, keyword, idents}
use Rattle.cedar_grammar.specs.Productions.{Production, ReadsMany, none, more, gives, ◌>>=◌, ◌>>◌, ◌∣◌}
use Rattle.cedar_convert_fragment.specs.Fragments.{NameAt}
use Rattle.cedar_reread.specs.Said.{Tokens, mark_token, word_token, said_in, said_items, said_list, said_more, said_name}
use Rattle.cedar_reread.specs.TreesRead.{bare, name_read}
use Rattle.cedar_reread.proofs.Annotated.{mark_read}
use Rattle.cedar_reread.proofs.Classes.{ident_read}
use Rattle.cedar_reread.proofs.Paths.{AreIds, path_read}
use Rattle.cedar_reread.proofs.Types.{keyword_read}

module _ {T A : Type 0} (R : Production TextToken A) (parts : T → Tokens) (value : T → A) (Good : T → Type 0)
    (each : (item : T) (rest : Tokens) → Good item → R.reads (parts item ++ rest) (value item) rest) where
  more_read : (items : List T) (rest : Tokens) → AllByRecursion Good items → ReadsMany (mark (codes ",") >> R).reads (said_more parts items ++ rest) (map value items) rest
  more_read [] rest good = none
  more_read (item ∷ items) rest good =
      let behind = said_more parts items ++ rest in
      let start : parts item ++ behind ≡ (parts item ++ said_more parts items) ++ rest = sym (append_assoc (parts item) (said_more parts items) rest) in
      more (subst (λ (ts : Tokens). (mark (codes ",") >> R).reads (mark_token (codes ",") ∷ ts) (value item) behind) start
      (bare (codes ","), parts item ++ behind, mark_read (codes ",") (parts item ++ behind) refl, each item behind good.0)) (more_read items rest good.1)

  pub items_read : (item : T) (items : List T) (rest : Tokens) → Good item → AllByRecursion Good items
      → (commas R).reads (said_items parts (item ∷ items) ++ rest) (value item ∷ map value items) rest
  items_read item items rest good others =
      let behind = said_more parts items ++ rest in
      subst (λ (ts : Tokens). (commas R).reads ts (value item ∷ map value items) rest) (sym (append_assoc (parts item) (said_more parts items) rest))
      (value item, behind, each item behind good, (map value items, rest, more_read items rest others, (refl, refl)))

  -- in brackets
  pub list_read : (item : T) (items : List T) (rest : Tokens) → Good item → AllByRecursion Good items
      → (bracketed (codes "[") (codes "]") (commas R)).reads (said_list parts (item ∷ items) ++ rest) (bare (value item ∷ map value items)) rest
  list_read item items rest good others =
      let behind = said_items parts (item ∷ items) ++ mark_token (codes "]") ∷ rest in
      subst (λ (ts : Tokens). (bracketed (codes "[") (codes "]") (commas R)).reads (mark_token (codes "[") ∷ ts) (bare (value item ∷ map value items)) rest)
      (sym (append_assoc (said_items parts (item ∷ items)) (mark_token (codes "]") ∷ []) rest)) (
        bare (codes "["),
        behind,
        mark_read (codes "[") behind refl,
        (value item ∷ map value items, mark_token (codes "]") ∷ rest, items_read item items (mark_token (codes "]") ∷ rest) good others, (bare (codes "]"), rest, mark_read (codes "]") rest refl, (refl, refl))),
      )

-- the same, where the list may be empty
pub list_or_none : {A : Type 0} (R : Production TextToken A) (ts : Tokens) (xs : Node (List A)) (rest : Tokens) → (bracketed (codes "[") (codes "]") (commas R)).reads ts xs rest
    → (bracketed (codes "[") (codes "]") (commas R ∣ gives [])).reads ts xs rest
list_or_none R ts xs rest (before, m1, r1, (x, m2, r2, tail)) = (before, m1, r1, (x, m2, inl r2, tail))

name_reads : (name : NameAt) (rest : Tokens) → AreIds name.words → path.reads (said_name name ++ rest) (name_read name) rest
name_reads name rest ids = path_read name.words rest ids

abbrev pub Named : NameAt → Type 0
Named name = AreIds name.words

-- names in brackets
pub types_read : (name : NameAt) (names : List NameAt) (rest : Tokens) → Named name → AllByRecursion Named names
    → types.reads (said_list said_name (name ∷ names) ++ rest) (bare (name_read name ∷ map name_read names)) rest
types_read name names rest named others =
    inr (list_or_none path (said_list said_name (name ∷ names) ++ rest) (bare (name_read name ∷ map name_read names)) rest (list_read path said_name name_read Named name_reads name names rest named others))

-- names behind `in`, if there are any
pub parents_read : (names : List NameAt) (rest : Tokens) → AllByRecursion Named names
    → ((keyword (codes "in") >> types >>= λ ps. gives ps.node) ∣ gives []).reads (said_in said_name names ++ rest) (map name_read names) rest
parents_read [] rest named = inr (refl, refl)
parents_read (name ∷ names) rest named =
    let behind = said_list said_name (name ∷ names) ++ rest in
    inl (bare (name_read name ∷ map name_read names), rest, (bare (codes "in"), behind, keyword_read (codes "in") behind refl, types_read name names rest named.0 named.1), (refl, refl))

-- one identifier
pub one_name : (w : Text) (rest : Tokens) → is_id w ≡ true → idents.reads (word_token w ∷ rest) (bare w ∷ []) rest
one_name w rest id = (bare w, rest, ident_read w rest id, ([], rest, none, (refl, refl)))
