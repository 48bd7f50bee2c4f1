-- SPDX-License-Identifier: Apache-2.0
-- What is said of namespaces as one more is added.
use Rattle.std.proofs.Common.{◌≡◌, ◌++◌, ◌&&◌, Bool, true, false, cond, List, [], ◌∷◌, map, Option, Some, None, option_map, refl, sym, ap, ◌∙◌}
use Rattle.std.proofs.lemmas.Cmp.{eq_by_cmp_equiv}
use Rattle.std.proofs.lemmas.List.{map-append}
use Rattle.std.specs.BTreeMap.{is_at}
use Rattle.std.specs.Option.{is_some, option_and_then, option_cmp, option_or, unwrap_or}
use Rattle.cedar_data.specs.Maps.{IsSortedMap, map_values}
use Rattle.cedar_names.specs.Names.{name_cmp}
use Rattle.cedar_names.specs.declared.name.Name.{Name}
use Rattle.cedar_merge.specs.Joining.{is_in, last_some, look}
use Rattle.cedar_merge.specs.Lookups.{Path, at, path_cmp, path_of}
use Rattle.cedar_merge.specs.Pairs.{opposed}
use Rattle.cedar_merge.proofs.Orders.{by_path, paths_exact}
use Rattle.cedar_merge.proofs.PairLaws.{last_some-append, opposed-none, or-first, or-none}
use Rattle.cedar_merge.proofs.Words.{at-append, at-map_values, fresh, is_same}

-- a namespace is found by its own name alone
turned : (v w : Path) → is_at (path_cmp v) w ≡ is_at (path_cmp w) v
turned = (eq_by_cmp_equiv paths_exact.total).symm

module _ {V A : Type 0} (part : V → Option A) where
  -- what one namespace says
  pub look-one : (path : Option Name) (v : V) (ns : Path) → look part ((path, v) ∷ []) ns ≡ option_and_then part (cond (is_in path ns) (Some v) None)
  look-one path v ns = ap (λ b. option_and_then part (cond b (Some v) None)) (turned ns (path_of path))

  none_there : (path : Option Name) (v : V) (ns : Path) → is_in path ns ≡ false → look part ((path, v) ∷ []) ns ≡ None
  none_there path v ns is = look-one path v ns ∙ ap (λ b. option_and_then part (cond b (Some v) None)) is

  -- a namespace behind all others
  pub look-next : (done : List (Option Name × V)) (e : Option Name × V) (rest : List (Option Name × V)) → IsSortedMap (option_cmp name_cmp) (done ++ e ∷ rest) → (ns : Path)
      → look part (done ++ e ∷ []) ns ≡ option_or (look part (e ∷ []) ns) (look part done ns)
  look-next done e rest sorted ns =
      ap (option_and_then part) (at-append path_cmp path_of done (e ∷ []) ns)
      ∙ by (is_at (path_cmp ns) (path_of e.0)) refl (at path_cmp path_of done ns) refl
    where
      by : (b : Bool) → is_at (path_cmp ns) (path_of e.0) ≡ b → (o : Option V) → at path_cmp path_of done ns ≡ o
          → option_and_then part (option_or o (cond b (Some e.1) None)) ≡ option_or (option_and_then part (cond b (Some e.1) None)) (option_and_then part o)
      by true is None none = sym (or-none (part e.1))
      by true is (Some v) some =
          absurd (let gone : Some v ≡ None = sym some ∙ ap (at path_cmp path_of done) (is_same paths_exact ns (path_of e.0) is) ∙ fresh paths_exact path_of by_path done e rest sorted in cc)
      by false is None none = refl
      by false is (Some v) some = refl

  -- behind all others, it says what none of them says
  pub look-fresh : (done : List (Option Name × V)) (e : Option Name × V) (rest : List (Option Name × V)) → IsSortedMap (option_cmp name_cmp) (done ++ e ∷ rest) → (ns : Path)
      → is_some (look part (e ∷ []) ns) ≡ true → look part done ns ≡ None
  look-fresh done e rest sorted ns there = by (is_at (path_cmp ns) (path_of e.0)) refl
    where
      by : (b : Bool) → is_at (path_cmp ns) (path_of e.0) ≡ b → look part done ns ≡ None
      by true is = ap (option_and_then part) (ap (at path_cmp path_of done) (is_same paths_exact ns (path_of e.0) is) ∙ fresh paths_exact path_of by_path done e rest sorted)
      by false is = absurd (let wrong : false ≡ true = sym (ap (λ b. is_some (option_and_then part (cond b (Some e.1) None))) is) ∙ there in cc)

  -- what each value says, of values that f makes
  pub look-map_values : {U : Type 0} (f : U → V) (es : List (Option Name × U)) (ns : Path) → look part (map_values f es) ns ≡ look (λ u. part (f u)) es ns
  look-map_values {U} f es ns = ap (option_and_then part) (at-map_values path_cmp path_of f es ns) ∙ by (at path_cmp path_of es ns)
    where
      by : (o : Option U) → option_and_then part (option_map f o) ≡ option_and_then (λ u. part (f u)) o
      by None = refl
      by (Some u) = refl

-- what is said where nothing else was
pub said : {V A : Type 0} (part : V → Option A) (v : V) → part v ≡ None → (o : Option V) → part (unwrap_or o v) ≡ option_and_then part o
said part v none None = none
said part v none (Some u) = refl

module _ {V U A : Type 0} (part : V → Option A) (own : U → Option A) (path : Option Name) (d : U) (joined : V) (before now : List (Option Name × V))
    (put : (ns : Path) → at path_cmp path_of now ns ≡ cond (is_in path ns) (Some joined) (at path_cmp path_of before ns)) (ns : Path)
    (joins : is_in path ns ≡ true → part joined ≡ option_or (own d) (option_and_then part (at path_cmp path_of before (path_of path)))) where
  -- what is said then is what this one says, or else what was said before
  pub look-put : look part now ns ≡ option_or (look own ((path, d) ∷ []) ns) (look part before ns)
  look-put = ap (option_and_then part) (put ns) ∙ by (is_in path ns) refl ∙ ap (λ o. option_or o (look part before ns)) (sym (look-one own path d ns))
    where
      by : (b : Bool) → is_in path ns ≡ b → option_and_then part (cond b (Some joined) (at path_cmp path_of before ns)) ≡ option_or (option_and_then own (cond b (Some d) None)) (look part before ns)
      by true is = joins is ∙ ap (λ w. option_or (own d) (option_and_then part (at path_cmp path_of before w))) (is_same paths_exact (path_of path) ns is)
      by false is = refl

module _ {V U A : Type 0} (part : V → Option A) (own : U → Option A) (against : A → A → Bool) (path : Option Name) (d : U) (before : List (Option Name × V)) (ns : Path) (of_own : Option A) (was : Option A)
    (is_own : is_in path ns ≡ true → of_own ≡ own d) (is_was : was ≡ option_and_then part (at path_cmp path_of before (path_of path))) where
  -- what this one says stands against what was said of its namespace
  pub opposed-look : (is_in path ns && opposed against was of_own) ≡ opposed against (look part before ns) (look own ((path, d) ∷ []) ns)
  opposed-look = by (is_in path ns) refl ∙ ap (opposed against (look part before ns)) (sym (look-one own path d ns))
    where
      by : (b : Bool) → is_in path ns ≡ b → (b && opposed against was of_own) ≡ opposed against (look part before ns) (option_and_then own (cond b (Some d) None))
      by true is = λ i. opposed against ((is_was ∙ ap (λ w. option_and_then part (at path_cmp path_of before w)) (is_same paths_exact (path_of path) ns is)) i) (is_own is i)
      by false is = sym (opposed-none against (look part before ns))

-- the last of a list gets more
pub last-grows : {A : Type 0} (os : List (Option A)) (more had said now all : Option A) → said ≡ last_some (os ++ had ∷ []) → now ≡ option_or more said → all ≡ option_or more had → now ≡ last_some (os ++ all ∷ [])
last-grows os more had said now all p q r =
    q ∙ ap (option_or more) (p ∙ last_some-append os had) ∙ sym (or-first more had (last_some os)) ∙ ap (λ o. option_or o (last_some os)) (sym r) ∙ sym (last_some-append os all)

pub map-last : {A B : Type 0} (f : A → B) (xs : List A) (x : A) → map f (xs ++ x ∷ []) ≡ map f xs ++ f x ∷ []
map-last f xs x = map-append f xs (x ∷ [])
