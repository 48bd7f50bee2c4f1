-- SPDX-License-Identifier: Apache-2.0
-- A loop that moves the entries of a map into another, and keeps the least key that both have something against.
use Rattle.std.proofs.Common.{◌≡◌, ◌++◌, ℕ, Bool, true, false, cond, List, [], ◌∷◌, Option, Some, None, option_map, refl, sym, ap, ◌∙◌, subst, append_assoc}
use Rattle.std.proofs.lemmas.Cmp.{eq_by_cmp_equiv}
use Rattle.std.proofs.lemmas.List.{append-nil}
use Rattle.std.specs.BTreeMap.{insert_entry, is_at}
use Rattle.std.specs.Option.{option_or}
use Rattle.std.specs.Ordering.{is_eq, ordering_reverse}
use Rattle.std.specs.declared.cmp.Ordering.{Ordering}
use Rattle.std.specs.declared.cmp.Ordering.TheVariants.{Less, Equal, Greater}
use Rattle.cedar_data.proofs.Exact.{IsExact}
use Rattle.cedar_data.specs.Maps.{IsSortedMap}
use Rattle.cedar_names.specs.Order.{word_cmp}
use Rattle.cedar_merge.specs.Joining.{IsLeastOf, first_of}
use Rattle.cedar_merge.specs.Lookups.{at_word}
use Rattle.cedar_merge.specs.Pairs.{opposed}
use Rattle.cedar_merge.proofs.Orders.{tied, words_exact}
use Rattle.cedar_merge.proofs.PairLaws.{opposed-none}
use Rattle.cedar_merge.proofs.Words.{at-append, at-insert, below, fresh, is_same}

clash_of : (a b : Ordering) → a ≡ b → a ≡ Less → b ≡ Equal → ⊥
clash_of a b same l e = let p : Less ≡ Equal = sym l ∙ same ∙ e in cc

turned_less : (a b : Ordering) → a ≡ ordering_reverse b → a ≡ Less → b ≡ Less → ⊥
turned_less a b is p q = let r : Less ≡ Greater = sym p ∙ is ∙ ap ordering_reverse q in cc

turned_greater : (a b : Ordering) → a ≡ ordering_reverse b → b ≡ Less → is_eq a ≡ false
turned_greater a b is q = ap is_eq (is ∙ ap ordering_reverse q)

true_false : (b : Bool) → b ≡ true → b ≡ false → ⊥
true_false true p q = cc
true_false false p q = cc

-- one more word, behind all that have values now
module _ {W A : Type 0} {order : W → W → Ordering} (exact : IsExact order) (against : A → A → Bool) (old now : W → Option A) (word : W) (value : A)
    (absent : now word ≡ None) (less : (w : W) (a : A) → now w ≡ Some a → order w word ≡ Less) where
  abbrev pub test : W → Bool
  test w = opposed against (old w) (now w)

  abbrev pub tested : W → Bool
  tested w = opposed against (old w) (cond (is_at (order word) w) (Some value) (now w))

  here : (w : W) → is_at (order word) w ≡ true → tested w ≡ opposed against (old word) (Some value)
  here w is = (λ i. opposed against (old w) (cond (is i) (Some value) (now w))) ∙ ap (λ x. opposed against (old x) (Some value)) (sym (is_same exact word w is))

  there : (w : W) → is_at (order word) w ≡ false → tested w ≡ test w
  there w is = λ i. opposed against (old w) (cond (is i) (Some value) (now w))

  itself : is_at (order word) word ≡ true
  itself = ap is_eq (tied exact.total word)

  -- what passes is there
  passing : (o p : Option A) → opposed against o p ≡ true → (a : A) × (p ≡ Some a)
  passing None p e = absurd (cc)
  passing (Some x) None e = absurd (cc)
  passing (Some x) (Some a) e = (a, refl)

  pub least-next : (least : Option W) → IsLeastOf order test least → (b : Bool) → b ≡ opposed against (old word) (Some value) → IsLeastOf order tested (first_of least b word)
  least-next None none false is = λ w. by w (is_at (order word) w) refl
    where
      by : (w : W) (x : Bool) → is_at (order word) w ≡ x → tested w ≡ false
      by w true at_word = here w at_word ∙ sym is
      by w false at_word = there w at_word ∙ none w
  least-next None none true is = record {
    holds = here word itself ∙ sym is;
    least = λ y passes l. by y passes l (is_at (order word) y) refl;
  }
    where
      by : (y : W) → tested y ≡ true → order y word ≡ Less → (x : Bool) → is_at (order word) y ≡ x → ⊥
      by y passes l true at_word = clash_of (order y word) (order y word) refl l (subst (λ z. order z word ≡ Equal) (is_same exact word y at_word) (tied exact.total word))
      by y passes l false at_word = true_false (tested y) passes (there y at_word ∙ none y)
  least-next (Some k) is_least b is =
      let found = passing (old k) (now k) is_least.holds in
      let before : order k word ≡ Less = less k found.0 found.1 in
      record {
        holds = there k (turned_greater (order word k) (order k word) (exact.total.antisymm word k) before) ∙ is_least.holds;
        least = λ y passes l. by before y passes l (is_at (order word) y) refl;
      }
    where
      by : order k word ≡ Less → (y : W) → tested y ≡ true → order y k ≡ Less → (x : Bool) → is_at (order word) y ≡ x → ⊥
      by before y passes l true at_word = turned_less (order word k) (order k word) (exact.total.antisymm word k) (subst (λ z. order z k ≡ Less) (sym (is_same exact word y at_word)) l) before
      by before y passes l false at_word = is_least.least y (sym (there y at_word) ∙ passes) l

-- a loop over `whole` that has `left` before it has moved what is before that into the map that was `old`
pub record Moves {K V : Type 0} (cmp : K → K → Ordering) (word : K → List ℕ) (against : V → V → Bool) (old whole left all : List (K × V)) (least : Option K) : Type 0 where
  pub done : List (K × V)
  pub split : done ++ left ≡ whole
  pub sorted : IsSortedMap cmp whole
  pub values : (name : List ℕ) → at_word word all name ≡ option_or (at_word word done name) (at_word word old name)
  pub is_least : IsLeastOf word_cmp (λ name. opposed against (at_word word old name) (at_word word done name)) (option_map word least)

pick : {V : Type 0} (b : Bool) (v : V) (x y : Option V) → cond b (Some v) (option_or x y) ≡ option_or (cond b (Some v) x) y
pick true v x y = refl
pick false v x y = refl

word_of : {K W : Type 0} (word : K → W) (least : Option K) (b : Bool) (key : K) → option_map word (first_of least b key) ≡ first_of (option_map word least) b (word key)
word_of word None true key = refl
word_of word None false key = refl
word_of word (Some k) b key = refl

-- what has one entry more has its value there, and elsewhere what it had
grown : {K V : Type 0} {cmp : K → K → Ordering} (word : K → List ℕ) → ((a b : K) → cmp a b ≡ word_cmp (word a) (word b)) → (done rest : List (K × V)) (e : K × V) → IsSortedMap cmp (done ++ e ∷ rest) → (name : List ℕ)
    → at_word word (done ++ e ∷ []) name ≡ cond (is_at (word_cmp (word e.0)) name) (Some e.1) (at_word word done name)
grown {V = V} word same done rest e sorted name =
    at-append word_cmp word done (e ∷ []) name
    ∙ ap (λ b. option_or (at_word word done name) (cond b (Some e.1) None)) ((eq_by_cmp_equiv words_exact.total).symm name (word e.0))
    ∙ by (is_at (word_cmp (word e.0)) name) refl (at_word word done name) refl
  where
    by : (b : Bool) → is_at (word_cmp (word e.0)) name ≡ b → (o : Option V) → at_word word done name ≡ o → option_or o (cond b (Some e.1) None) ≡ cond b (Some e.1) o
    by true is None none = refl
    by true is (Some v) some =
        absurd (let gone : Some v ≡ None = sym some ∙ ap (at_word word done) (sym (is_same words_exact (word e.0) name is)) ∙ fresh words_exact word same done e rest sorted in cc)
    by false is None none = refl
    by false is (Some v) some = refl

module _ {K V : Type 0} {cmp : K → K → Ordering} {word : K → List ℕ} {against : V → V → Bool} where
  -- before the first entry
  pub Moves-start : (old whole left all : List (K × V)) (least : Option K) → left ≡ whole → IsSortedMap cmp whole → all ≡ old → least ≡ None → Moves cmp word against old whole left all least
  Moves-start old whole left all least same sorted begins none = record {
    done = [];
    split = same;
    sorted = sorted;
    values = λ name. ap (λ es. at_word word es name) begins;
    is_least = subst (λ l. IsLeastOf word_cmp (λ name. opposed against (at_word word old name) None) (option_map word l)) (sym none) (λ name. opposed-none against (at_word word old name));
  }

  module _ (same : (a b : K) → cmp a b ≡ word_cmp (word a) (word b)) where
    -- one entry more
    pub Moves-next : {old whole left rest all more : List (K × V)} {least next_least : Option K} (key : K) (value : V) (b : Bool)
        → Moves cmp word against old whole left all least → left ≡ (key, value) ∷ rest
        → b ≡ opposed against (at_word word all (word key)) (Some value) → next_least ≡ first_of least b key → more ≡ insert_entry cmp all key value
        → Moves cmp word against old whole rest more next_least
    Moves-next {old} {whole} {left} {rest} {all} {more} {least} {next_least} key value b sofar first is_opposed keeps put =
        let e : K × V = (key, value) in
        let done = sofar.done in
        let sorted : IsSortedMap cmp (done ++ e ∷ rest) = subst (IsSortedMap cmp) (sym sofar.split ∙ ap (λ l. done ++ l) first) sofar.sorted in
        let absent : at_word word done (word key) ≡ None = fresh words_exact word same done e rest sorted in
        let was : at_word word all (word key) ≡ at_word word old (word key) = sofar.values (word key) ∙ ap (λ o. option_or o (at_word word old (word key))) absent in
        let least_next = least-next words_exact against (at_word word old) (at_word word done) (word key) value absent (below words_exact word same done e rest sorted)
        (option_map word least) sofar.is_least b (is_opposed ∙ ap (λ o. opposed against o (Some value)) was) in
        record {
          done = done ++ e ∷ [];
          split = append_assoc done (e ∷ []) rest ∙ ap (λ l. done ++ l) (sym first) ∙ sofar.split;
          sorted = sofar.sorted;
          values = λ name. ap (λ es. at_word word es name) put ∙ at-insert words_exact word same all key value name
              ∙ ap (cond (is_at (word_cmp (word key)) name) (Some value)) (sofar.values name)
              ∙ pick (is_at (word_cmp (word key)) name) value (at_word word done name) (at_word word old name)
              ∙ ap (λ o. option_or o (at_word word old name)) (sym (grown word same done rest e sorted name));
          is_least = subst (λ l. IsLeastOf word_cmp (λ name. opposed against (at_word word old name) (at_word word (done ++ e ∷ []) name)) l) (sym (ap (option_map word) keeps ∙ word_of word least b key))
              (same_tests (first_of (option_map word least) b (word key)) (λ name. ap (opposed against (at_word word old name)) (sym (grown word same done rest e sorted name))) least_next);
        }
      where
        same_tests : {test other : List ℕ → Bool} (o : Option (List ℕ)) → ((name : List ℕ) → test name ≡ other name) → IsLeastOf word_cmp test o → IsLeastOf word_cmp other o
        same_tests None same none = λ x. sym (same x) ∙ none x
        same_tests (Some x) same is = record { holds = sym (same x) ∙ is.holds; least = λ y h. is.least y (same y ∙ h) }
        -- after the last

  pub Moves-end : {old whole left all : List (K × V)} {least : Option K} → Moves cmp word against old whole left all least → left ≡ [] → Moves cmp word against old whole [] all least
  Moves-end sofar none = record { done = sofar.done; split = ap (λ l. sofar.done ++ l) (sym none) ∙ sofar.split; sorted = sofar.sorted; values = sofar.values; is_least = sofar.is_least }

  all_done : {old whole all : List (K × V)} {least : Option K} (m : Moves cmp word against old whole [] all least) → m.done ≡ whole
  all_done m = sym (append-nil m.done) ∙ m.split

  pub Moves-values : {old whole left all : List (K × V)} {least : Option K} → Moves cmp word against old whole left all least → left ≡ [] → (name : List ℕ) → at_word word all name ≡ option_or (at_word word whole name) (at_word word old name)
  Moves-values {old = old} sofar none name =
      let m = Moves-end sofar none in m.values name ∙ ap (λ es. option_or (at_word word es name) (at_word word old name)) (all_done m)

  pub Moves-least : {old whole left all : List (K × V)} {least : Option K} → Moves cmp word against old whole left all least → left ≡ [] → IsLeastOf word_cmp (λ name. opposed against (at_word word old name) (at_word word whole name)) (option_map word least)
  Moves-least {old = old} {least = least} sofar none =
      let m = Moves-end sofar none in subst (λ es. IsLeastOf word_cmp (λ name. opposed against (at_word word old name) (at_word word es name)) (option_map word least)) (all_done m) m.is_least

pub ruleset moves = (Moves-start, Moves-next, Moves-values, Moves-least)
