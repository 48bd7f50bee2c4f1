-- SPDX-License-Identifier: Apache-2.0
-- Names of which each is longer than the one before it, or as long and behind that: no name stands twice.
use Rattle.std.proofs.Common.{◌≡◌, ◌<◌, ◌⊎◌, inl, inr, ℕ, Bool, true, false, ◌||◌, ◌&&◌, List, [], ◌∷◌, ◌++◌, length, nat_lt, nat_eq, cond, bytes_eq, Some, None, sym, ap, ◌∙◌, refl, subst, arith}
use Rattle.std.proofs.lemmas.Bool.Decides.{nat_tests}
use Rattle.std.proofs.lemmas.Slice.Eq.{bytes_eq-Decides}
use Rattle.std.specs.Cmp.Lexicographic.{texts_ties, nat_list_cmp_total}
use Rattle.std.specs.Ordering.{is_lt, is_eq}
use Rattle.std.specs.declared.cmp.Ordering.{Ordering}
use Rattle.std.specs.declared.cmp.Ordering.TheVariants.{Less, Equal, Greater}
use Rattle.cedar_names.specs.Order.{word_cmp}
use Rattle.cedar_text.specs.declared.node.Node.{Node}
use Rattle.cedar_convert_faults.specs.Repeats.{Names, place_of, repeat_behind, first_repeat, repeat_or}
use Rattle.cedar_convert_faults.proofs.Repeated.{place_last}

-- whether a word is longer than another, or as long and behind it
abbrev pub is_behind : List ℕ → List ℕ → Bool
is_behind word other = nat_lt (length other) (length word) || (nat_eq (length other) (length word) && is_lt (word_cmp other word))

-- the second word is longer than the first, or as long and behind it
abbrev pub Ascend : List ℕ → List ℕ → Type 0
Ascend a b = (length a < length b) ⊎ ((length a ≡ length b) × (word_cmp a b ≡ Less))

pub told : (a b : List ℕ) → is_behind b a ≡ true → Ascend a b
told a b = by (nat_lt (length a) (length b)) refl (nat_eq (length a) (length b)) refl (word_cmp a b) refl
  where
    by : (shorter : Bool) → nat_lt (length a) (length b) ≡ shorter → (even : Bool) → nat_eq (length a) (length b) ≡ even → (o : Ordering) → word_cmp a b ≡ o → (shorter || (even && is_lt o)) ≡ true → Ascend a b
    by true less even is o c h = inl (grind (arith, nat_tests, less))
    by false less true is Less c h = inr (grind (arith, nat_tests, is), c)
    by false less true is Equal c h = cc
    by false less true is Greater c h = cc
    by false less false is o c h = cc

not_less : (a : List ℕ) → word_cmp a a ≡ Less → ⊥
not_less a less =
    let same : is_eq (word_cmp a a) ≡ true = sym (texts_ties a a) ∙ (bytes_eq-Decides a a).1 refl in
    let other : is_eq (word_cmp a a) ≡ false = ap is_eq less in
    cc

not_itself : (a : List ℕ) → Ascend a a → ⊥
not_itself a (inl less) = omega (arith, less)
not_itself a (inr same) = not_less a same.1

apart : (a b : List ℕ) → Ascend a b → bytes_eq a b ≡ false
apart a b h = by (bytes_eq a b) refl
  where
    by : (e : Bool) → bytes_eq a b ≡ e → e ≡ false
    by true same = absurd (not_itself a (subst (λ w. Ascend a w) (sym ((bytes_eq-Decides a b).0 same)) h))
    by false same = refl

pub apart_back : (a b : List ℕ) → Ascend a b → bytes_eq b a ≡ false
apart_back a b h = by (bytes_eq b a) refl
  where
    by : (e : Bool) → bytes_eq b a ≡ e → e ≡ false
    by true same = absurd (not_itself a (subst (λ w. Ascend a w) ((bytes_eq-Decides b a).0 same) h))
    by false same = refl

pub both : (a b c : List ℕ) → Ascend a b → Ascend b c → Ascend a c
both a b c (inl p) (inl q) = inl (omega (arith, p, q))
both a b c (inl p) (inr q) = inl (subst (λ n. length a < n) q.0 p)
both a b c (inr p) (inl q) = inl (subst (λ n. n < length c) (sym p.0) q)
both a b c (inr p) (inr q) = inr (p.0 ∙ q.0, nat_list_cmp_total.trans a b c p.1 q.1)

-- words behind the last name were not seen, and the first repeat of all is to come
pub record Ascends (all : Names) (last : List ℕ) (left : Names) : Type 0 where
  pub before : Names
  pub new : (word : List ℕ) → Ascend last word → place_of before word ≡ None
  pub is : repeat_behind before left ≡ first_repeat all

pub Ascends-start : {all others left : Names} {last : List ℕ} (n : Node (List ℕ)) → all ≡ n ∷ others → last ≡ n.node → left ≡ others → Ascends all last left
Ascends-start {all} {others} {left} {last} n whole named rest = record {
  before = n ∷ [];
  new = λ word h. ap (λ b. cond b (Some n.loc) None) (apart n.node word (subst (λ w. Ascend w word) named h));
  is = ap (repeat_behind (n ∷ [])) rest ∙ ap first_repeat (sym whole);
}

pub Ascends-next : {all left rest : Names} {last word : List ℕ} (n : Node (List ℕ)) → Ascends all last left → left ≡ n ∷ rest → word ≡ n.node → is_behind n.node last ≡ true → Ascends all word rest
Ascends-next {all} {left} {rest} {last} {word} n r first named behind =
    let up = told last n.node behind in
    let fresh : place_of r.before n.node ≡ None = r.new n.node up in
    record {
      before = r.before ++ n ∷ [];
      new = λ other h.
          let above : Ascend n.node other = subst (λ w. Ascend w other) named h in
          place_last r.before n other fresh
          ∙ ap (λ b. cond b (Some n.loc) (place_of r.before other)) (apart n.node other above)
          ∙ r.new other (both last n.node other up above);
      is = sym (ap (λ p. repeat_or p n (repeat_behind (r.before ++ n ∷ []) rest)) fresh) ∙ ap (repeat_behind r.before) (sym first) ∙ r.is;
    }

pub Ascends-end : {all left : Names} {last : List ℕ} → Ascends all last left → left ≡ [] → first_repeat all ≡ None
Ascends-end r none = sym r.is ∙ ap (repeat_behind r.before) none

pub none_alone : (all : Names) → all ≡ [] → first_repeat all ≡ None
none_alone all none = ap first_repeat none

pub ruleset ascending = (Ascends-start, Ascends-next, Ascends-end, none_alone)
