-- SPDX-License-Identifier: Apache-2.0
-- With which tokens productions begin, and the reader of an optional list of parents.
use Rattle.std.proofs.Common.{◌≡◌, ℕ, Bool, false, ◌||◌, List, [], Some, None, codes, inl, inr}
use Rattle.cedar_tokens.specs.Lexemes.{TextToken}
use Rattle.cedar_tokens.specs.declared.token.TokenKind.{TokenKind}
use Rattle.cedar_tokens.specs.declared.token.TokenKind.TheVariants as kind
use Rattle.cedar_grammar.specs.Productions.{Production, gives, ◌>>=◌, ◌>>◌, ◌∣◌, maybe}
use Rattle.cedar_tree.specs.Trees.{Node}
use Rattle.cedar_grammar.specs.Grammar.{text_where, is_keyword, is_mark_token, keyword, mark}
use Rattle.cedar_grammar.specs.Reading.{Reader, done, a_keyword, above_at}
use Rattle.cedar_grammar.proofs.Agreement.{Agrees, gives_agrees, then_agrees, either_agrees}
use Rattle.cedar_grammar.proofs.Viability.{keyword_agrees}
use Rattle.cedar_grammar.proofs.Tokens.{passes, mark_is, keyword_is}
use Rattle.cedar_grammar.proofs.Readers.{Right, Opens, Starts, Sub, bind, class_starts, then_starts, starts_open, either_opens, gives_opens, map_right, done_right, on_next_same, stops_right, same_right}
use Rattle.cedar_grammar.proofs.Lists.{left_false, right_false, gives_not_taken}

-- the token of this kind and text is none of p
abbrev pub Misses : (TextToken → Bool) → TokenKind → List ℕ → Type 0
Misses p k s = (t : TextToken) → t.kind ≡ k → t.text ≡ s → p t ≡ false

-- a keyword that p misses begins with none of p
pub keyword_starts : (s : List ℕ) (p : TextToken → Bool) → Misses p kind.Word s → Starts (keyword s) p
keyword_starts s p m = class_starts (text_where (is_keyword s)) p (λ t x e. let is = keyword_is s t (passes (is_keyword s) t x e) in m t is.0 is.1)

-- a mark that p misses begins with none of p
pub the_mark_starts : (s : List ℕ) (p : TextToken → Bool) → Misses p kind.Punct s → Starts (mark s) p
the_mark_starts s p m = class_starts (text_where (is_mark_token s)) p (λ t x e. let is = mark_is s t (passes (is_mark_token s) t x e) in m t is.0 is.1)

-- R or nothing begins with none of p where none of p follows
pub or_nothing_opens : {A : Type 0} (R : Production TextToken A) (a : A) (p : TextToken → Bool) → Starts R p → Opens (R ∣ gives a) p p
or_nothing_opens R a p s = either_opens R (gives a) p p (starts_open R p p s) (gives_opens a p)

-- the same of an optional production with a value
pub maybe_opens : {A : Type 0} (R : Production TextToken A) (p : TextToken → Bool) → Starts R p → Opens (maybe R) p p
maybe_opens R p s = or_nothing_opens (R >>= λ x. gives (Some x)) None p (then_starts R (λ x. gives (Some x)) p s)

-- `in`, or one of p
abbrev pub or_in : (TextToken → Bool) → TextToken → Bool
or_in p t = is_keyword (codes "in") t || p t

module _ {A : Type 0} (R : Production TextToken (Node (List A))) where
  -- ['in' R]
  abbrev pub Above : Production TextToken (List A)
  Above = (keyword (codes "in") >> R >>= λ xs. gives xs.node) ∣ gives []

  -- the same by the next token
  abbrev AboveChoice : Production TextToken (List A)
  AboveChoice = (keyword (codes "in") >>= λ _. R >>= λ xs. gives xs.node) ∣ gives []

  -- both ways to put it read the same
  above_there : Sub AboveChoice Above
  above_there ts v rest (inl (k, mid, rk, (xs, end, r, same))) = inl (xs, end, (k, mid, rk, r), same)
  above_there ts v rest (inr same) = inr same

  above_back : Sub Above AboveChoice
  above_back ts v rest (inl (xs, end, (k, mid, rk, r), same)) = inl (k, mid, rk, (xs, end, r, same))
  above_back ts v rest (inr same) = inr same

  -- beginnings of it are what further tokens complete
  above_agrees : Agrees R → Agrees Above
  above_agrees a =
      either_agrees (keyword (codes "in") >> R >>= λ xs. gives xs.node) (gives [])
      (then_agrees (keyword (codes "in") >> R) _ (then_agrees (keyword (codes "in")) _ (keyword_agrees (codes "in")) (λ _. a)) (λ xs. gives_agrees xs.node))
      (gives_agrees [])

  -- it begins with none of p where none of p follows and p misses `in`
  pub above_opens : (p : TextToken → Bool) → Misses p kind.Word (codes "in") → Opens Above p p
  above_opens p m =
      or_nothing_opens (keyword (codes "in") >> R >>= λ xs. gives xs.node) [] p
      (then_starts (keyword (codes "in") >> R) _ p (then_starts (keyword (codes "in")) _ p (keyword_starts (codes "in") p m)))

  -- the reader of ['in' R] reads it
  pub above_right : (n : ℕ) (f : Reader (Node (List A))) (p : TextToken → Bool) → Right n f R p → Right n (above_at f) Above (or_in p)
  unfolding above_at
  above_right n f p a =
      same_right n (above_at f) AboveChoice Above (or_in p)
      (on_next_same n (a_keyword (codes "in")) (λ _. bind f (λ xs. done xs.node)) (done []) (λ _. R >>= λ xs. gives xs.node) (gives []) (or_in p) (keyword_agrees (codes "in"))
      (λ _. map_right n f (λ xs. xs.node) R (or_in p) (stops_right n f R p (or_in p) (λ t e. right_false _ _ e) a))
      (done_right n [] (or_in p))
      (gives_not_taken [] (is_keyword (codes "in")) (or_in p) (λ t e. left_false _ _ e)))
      (above_agrees a.agrees) above_there above_back
