-- SPDX-License-Identifier: Apache-2.0
-- Members put in one after another, and items in a row.
use Rattle.std.proofs.Common.{◌≡◌, ℕ, List, [], ◌∷◌, ◌++◌, map, refl, sym, ap, ◌∙◌, append_assoc, append-nil, length, arith}
use Rattle.serde_json.proofs.Views.{members_view-insert_entry}
use Rattle.serde_json.specs.Data.{Data, Members, no_members, put}
use Rattle.cedar_json_write.specs.Written.{Field, put_all}

pub put_all-append : (fs gs : List Field) (ms : Members) → put_all (fs ++ gs) ms ≡ put_all gs (put_all fs ms)
put_all-append [] gs ms = refl
put_all-append (f ∷ fs) gs ms = put_all-append fs gs (put f.0 f.1 ms)

pub ruleset both = (put_all-append)

pub ruleset inserts = (members_view-insert_entry)

-- a loop over `whole` that has `left` before it: with what is left put in, the members so far are those of all
pub record Puts {K V : Type 0} (key : K → List ℕ) (of : V → Data) (whole left : List (K × V)) (made : Members) : Type 0 where
  pub done : List (K × V)
  pub split : done ++ left ≡ whole
  pub is : put_all (map (λ e. (key e.0, of e.1)) left) made ≡ put_all (map (λ e. (key e.0, of e.1)) whole) no_members

module _ {K V : Type 0} where
  pub Puts-start : (key : K → List ℕ) (of : V → Data) (whole left : List (K × V)) (made : Members) → left ≡ whole → made ≡ no_members → Puts key of whole left made
  Puts-start key of whole left made all none = record {
    done = [];
    split = all;
    is = λ i. put_all (map (λ e. (key e.0, of e.1)) (all i)) (none i);
  }

  pub Puts-next : {key : K → List ℕ} {of : V → Data} {whole left rest : List (K × V)} {made more : Members} {k : K} {v : V}
      → Puts key of whole left made → left ≡ (k, v) ∷ rest → more ≡ put (key k) (of v) made → Puts key of whole rest more
  Puts-next {key} {of} {whole} {left} {rest} {made} {more} {k} {v} sofar at_left one = record {
    done = sofar.done ++ (k, v) ∷ [];
    split = append_assoc sofar.done ((k, v) ∷ []) rest ∙ ap (λ l. sofar.done ++ l) (sym at_left) ∙ sofar.split;
    is = ap (put_all (map (λ e. (key e.0, of e.1)) rest)) one ∙ ap (λ l. put_all (map (λ e. (key e.0, of e.1)) l) made) (sym at_left) ∙ sofar.is;
  }

  pub Puts-end : {key : K → List ℕ} {of : V → Data} {whole left : List (K × V)} {made : Members}
      → Puts key of whole left made → left ≡ [] → made ≡ put_all (map (λ e. (key e.0, of e.1)) whole) no_members
  Puts-end {key} {of} {made = made} sofar none = ap (λ l. put_all (map (λ e. (key e.0, of e.1)) l) made) (sym none) ∙ sofar.is

pub ruleset puts = (Puts-start, Puts-next, Puts-end)

-- the same of values in a row
pub record Rows {V : Type 0} (of : V → Data) (whole left : List V) (made : List Data) : Type 0 where
  pub done : List V
  pub split : done ++ left ≡ whole
  pub is : made ++ map of left ≡ map of whole

module _ {V : Type 0} where
  pub Rows-start : (of : V → Data) (whole left : List V) (made : List Data) → left ≡ whole → made ≡ [] → Rows of whole left made
  Rows-start of whole left made all none = record {
    done = [];
    split = all;
    is = λ i. none i ++ map of (all i);
  }

  pub Rows-next : {of : V → Data} {whole left rest : List V} {made more : List Data} {v : V} {d : Data}
      → Rows of whole left made → left ≡ v ∷ rest → d ≡ of v → more ≡ made ++ d ∷ [] → Rows of whole rest more
  Rows-next {of} {whole} {left} {rest} {made} {more} {v} {d} sofar at_left written pushed = record {
    done = sofar.done ++ v ∷ [];
    split = append_assoc sofar.done (v ∷ []) rest ∙ ap (λ l. sofar.done ++ l) (sym at_left) ∙ sofar.split;
    is = ap (λ l. l ++ map of rest) (pushed ∙ ap (λ d. made ++ d ∷ []) written) ∙ append_assoc made (of v ∷ []) (map of rest) ∙ ap (λ l. made ++ map of l) (sym at_left) ∙ sofar.is;
  }

  pub Rows-end : {of : V → Data} {whole left : List V} {made : List Data} → Rows of whole left made → left ≡ [] → made ≡ map of whole
  Rows-end {of} {made = made} sofar none = sym (append-nil made) ∙ ap (λ l. made ++ map of l) (sym none) ∙ sofar.is

-- a list of length 0
pub none_left : {A : Type 0} (xs : List A) → length xs ≡ 0 → xs ≡ []
none_left [] is = refl
none_left (x ∷ xs) is = absurd (omega (arith, is))
