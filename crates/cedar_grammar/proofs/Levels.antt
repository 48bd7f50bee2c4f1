-- SPDX-License-Identifier: Apache-2.0
-- The types of a level are those that nest no deeper.
use Rattle.std.proofs.Common.{◌↔◌, ◌≤◌, ℕ, zero, suc, ◌+◌, List, [], ◌∷◌, codes, subst, inl, inr, ⊎_elim, arith}
use Rattle.cedar_tokens.specs.Lexemes.{TextToken}
use Rattle.cedar_grammar.specs.Productions.{Production, ◌>>◌, ReadsMany, none, more, trailing}
use Rattle.cedar_tree.specs.Trees.{Node, Annotated, TypeTree, Attrs, AttrDecl, attrs_of}
use Rattle.cedar_tree.specs.Nesting.{nest, greatest_nest}
use Rattle.cedar_grammar.specs.Grammar.{mark, attr_decl, record_type, type_upto}

abbrev Types : Type 1
Types = Production TextToken (Node TypeTree)

-- P holds of each member
abbrev Each : {A : Type 0} → (A → Type 0) → List A → Type 0
Each P [] = Unit {0}
Each P (x ∷ xs) = P x × Each P xs

-- the attribute's type nests at most k
abbrev TypeWithin : ℕ → Annotated (Node AttrDecl) → Type 0
TypeWithin k a = nest a.item.node.ty.node ≤ k

greatest : (k : ℕ) (xs : List (Annotated (Node AttrDecl))) → Each (TypeWithin k) xs → greatest_nest (attrs_of xs) ≤ k
greatest k [] h = omega arith
greatest k (x ∷ xs) h = let others = greatest k xs h.1 in omega (arith, h.0)

each_within : (k : ℕ) (xs : List (Annotated (Node AttrDecl))) → greatest_nest (attrs_of xs) ≤ k → Each (TypeWithin k) xs
each_within k [] h = tt
each_within k (x ∷ xs) h = (omega arith, each_within k xs (omega arith))

-- what holds of each member that R reads holds of all members of a list
module _ {A : Type 0} (R : Production TextToken A) (P : A → Type 0) (h : (ts : List TextToken) (x : A) (rest : List TextToken) → R.reads ts x rest → P x) where
  many_all : (ts : List TextToken) (xs : List A) (rest : List TextToken) → ReadsMany (mark (codes ",") >> R).reads ts xs rest → Each P xs
  many_all ts _ _ none = tt
  many_all ts _ rest (more {mid = mid} {x = x} {xs = xs} (c, m, rc, r) others) = (h m x mid r, many_all mid xs rest others)

  trailing_all : (ts : List TextToken) (xs : List A) (rest : List TextToken) → (trailing (mark (codes ",")) R).reads ts xs rest → Each P xs
  trailing_all ts xs rest (ys, m, (y, m', r, (zs, m'', rs, (same, left))), (b, n, o, (same', left'))) =
      rw (same', same) (h ts y m' r, many_all m' zs m'' rs)

-- lists lift from members that lift
module _ {A : Type 0} (R S : Production TextToken A) (P : A → Type 0) (h : (ts : List TextToken) (x : A) (rest : List TextToken) → R.reads ts x rest → P x → S.reads ts x rest) where
  many_lifts : (ts : List TextToken) (xs : List A) (rest : List TextToken) → ReadsMany (mark (codes ",") >> R).reads ts xs rest → Each P xs → ReadsMany (mark (codes ",") >> S).reads ts xs rest
  many_lifts ts _ _ none p = none
  many_lifts ts _ rest (more {mid = mid} {x = x} {xs = xs} (c, m, rc, r) others) p = more (c, m, rc, h m x mid r p.0) (many_lifts mid xs rest others p.1)

  trailing_lifts : (ts : List TextToken) (xs : List A) (rest : List TextToken) → (trailing (mark (codes ",")) R).reads ts xs rest → Each P xs → (trailing (mark (codes ",")) S).reads ts xs rest
  trailing_lifts ts xs rest (ys, m, (y, m', r, (zs, m'', rs, (same, left))), (b, n, o, (same', left'))) p =
      let q : Each P (y ∷ zs) = subst (λ us. Each P us) same (subst (λ us. Each P us) same' p) in
      (ys, m, (y, m', h ts y m' r q.0, (zs, m'', many_lifts m' zs m'' rs q.1, (same, left))), (b, n, o, (same', left')))

module _ (k : ℕ) (type : Types) (h : (ts : List TextToken) (x : Node TypeTree) (rest : List TextToken) → type.reads ts x rest → nest x.node ≤ k) where
  attr_within : (ts : List TextToken) (a : Annotated (Node AttrDecl)) (rest : List TextToken) → (attr_decl type).reads ts a rest → TypeWithin k a
  attr_within ts a rest (anns, m, ra, (y, m', (n, t1, rn, (q, t2, rq, (c, t3, rc, (ty, t4, rt, (same, left))))), (same', left'))) =
      rw (same', same) (h t3 ty t4 rt)

  record_within : (ts : List TextToken) (r : Node Attrs) (rest : List TextToken) → (record_type type).reads ts r rest → greatest_nest r.node ≤ k
  record_within ts r rest (open_mark, m, ro, (attrs, m', ra, (close_mark, m'', rc, (same, left)))) =
      rw same (⊎_elim
      (λ (xs, t, rx, (is, left')). rw is (greatest k xs (trailing_all (attr_decl type) (TypeWithin k) attr_within m xs t rx)))
      (λ (is, left'). rw is (omega arith))
      ra)

module _ (k : ℕ) (type other : Types) (h : (ts : List TextToken) (x : Node TypeTree) (rest : List TextToken) → type.reads ts x rest → nest x.node ≤ k → other.reads ts x rest) where
  attr_lifts : (ts : List TextToken) (a : Annotated (Node AttrDecl)) (rest : List TextToken) → (attr_decl type).reads ts a rest → TypeWithin k a → (attr_decl other).reads ts a rest
  attr_lifts ts a rest (anns, m, ra, (y, m', (n, t1, rn, (q, t2, rq, (c, t3, rc, (ty, t4, rt, (same, left))))), (same', left'))) p =
      let p' : nest ty.node ≤ k = subst (λ (d : Node AttrDecl). nest d.node.ty.node ≤ k) same (subst (TypeWithin k) same' p) in
      (anns, m, ra, (y, m', (n, t1, rn, (q, t2, rq, (c, t3, rc, (ty, t4, h t3 ty t4 rt p', (same, left))))), (same', left')))

  record_lifts : (ts : List TextToken) (r : Node Attrs) (rest : List TextToken) → (record_type type).reads ts r rest → greatest_nest r.node ≤ k → (record_type other).reads ts r rest
  record_lifts ts r rest (open_mark, m, ro, (attrs, m', ra, (close_mark, m'', rc, (same, left)))) p =
      let p' : greatest_nest attrs ≤ k = subst (λ (n : Node Attrs). greatest_nest n.node ≤ k) same p in (
        open_mark,
        m,
        ro,
        (
          attrs,
          m',
          ⊎_elim
              (λ (xs, t, rx, (is, left')). inl (xs, t, trailing_lifts (attr_decl type) (attr_decl other) (TypeWithin k) attr_lifts m xs t rx (each_within k xs (subst (λ us. greatest_nest us ≤ k) is p')), (is, left')))
              (λ e. inr e)
              ra,
          (close_mark, m'', rc, (same, left)),
        ),
      )

within : (n : ℕ) (ts : List TextToken) (x : Node TypeTree) (rest : List TextToken) → (type_upto n).reads ts x rest → nest x.node ≤ n
within zero ts x rest (p, m, r, (same, left)) = rw same (omega arith)
within (suc n) ts x rest r =
    ⊎_elim
    (λ s. ⊎_elim
    (λ (set, m, rs, (e, m', (a, t1, ra, (ty, t2, rt, (b, t3, rb, (is, left')))), (same, left))). rw (same, is) (let inner = within n t1 ty t2 rt in omega arith))
    (λ (a, m, ra, (same, left)). rw same (let inner = record_within n (type_upto n) (within n) ts a m ra in omega arith))
    s)
    (λ (p, m, rp, (same, left)). rw same (omega arith))
    r

lifts : (m n : ℕ) (ts : List TextToken) (x : Node TypeTree) (rest : List TextToken) → (type_upto m).reads ts x rest → nest x.node ≤ n → (type_upto n).reads ts x rest
lifts zero zero ts x rest r h = r
lifts zero (suc n) ts x rest r h = inr r
lifts (suc m) zero ts x rest r h =
    ⊎_elim
    (λ s. ⊎_elim
    (λ (set, t, rs, (e, t', (a, t1, ra, (ty, t2, rt, (b, t3, rb, (is, left')))), (same, left))). absurd (let deep = subst (λ (y : Node TypeTree). nest y.node ≤ 0) same h in omega arith))
    (λ (a, t, ra, (same, left)). absurd (let deep = subst (λ (y : Node TypeTree). nest y.node ≤ 0) same h in omega arith))
    s)
    (λ p. p)
    r
lifts (suc m) (suc n) ts x rest r h =
    ⊎_elim
    (λ s. ⊎_elim
    (λ (set, t, rs, (e, t', (a, t1, ra, (ty, t2, rt, (b, t3, rb, (is, left')))), (same, left))).
    let deep = subst (λ (y : Node TypeTree). nest y.node ≤ suc n) same h in
    let deeper = subst (λ (y : Node (Node TypeTree)). nest y.node.node + 1 ≤ suc n) is deep in
    inl (inl (set, t, rs, (e, t', (a, t1, ra, (ty, t2, lifts m n t1 ty t2 rt (omega arith), (b, t3, rb, (is, left')))), (same, left)))))
    (λ (a, t, ra, (same, left)).
    let deep = subst (λ (y : Node TypeTree). nest y.node ≤ suc n) same h in
    inl (inr (a, t, record_lifts n (type_upto m) (type_upto n) (lifts m n) ts a t ra (omega arith), (same, left))))
    s)
    (λ p. inr p)
    r

pub level_as_nest : (n : ℕ) (ts : List TextToken) (x : Node TypeTree) (rest : List TextToken) → (type_upto n).reads ts x rest ↔ (((m : ℕ) × (type_upto m).reads ts x rest) × (nest x.node ≤ n))
level_as_nest n ts x rest = (λ r. ((n, r), within n ts x rest r), λ ((m, r), h). lifts m n ts x rest r h)
