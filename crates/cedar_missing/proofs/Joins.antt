-- SPDX-License-Identifier: Apache-2.0
-- Loops that put together what parts miss.
use Rattle.std.proofs.Common.{◌≡◌, List, [], ◌∷◌, fold, refl, sym, ap, ◌∙◌, append_assoc}
use Rattle.std.proofs.lemmas.List.{append-nil}
use Rattle.cedar_missing.specs.Undeclared.{joined, missing_in_each, no_missing, or_else, with_missing}
use Rattle.cedar_missing.specs.declared.missing.Missing.{Missing}

joined-assoc : (a b c : Missing) → joined (joined a b) c ≡ joined a (joined b c)
joined-assoc a b c = λ i. record {
  types = append_assoc a.types b.types c.types i;
  actions = append_assoc a.actions b.actions c.actions i;
  reserved = append_assoc a.reserved b.reserved c.reserved i;
}

joined-none : (a : Missing) → joined a no_missing ≡ a
joined-none a = λ i. record {
  types = append-nil a.types i;
  actions = append-nil a.actions i;
  reserved = append-nil a.reserved i;
}

-- a loop over `whole` that has `left` before it has put so much together
pub record Joins {A : Type 0} (f : A → Missing) (whole left : List A) (all : Missing) : Type 0 where
  pub is : joined all (missing_in_each f left) ≡ missing_in_each f whole

module _ {A : Type 0} where
  -- before the first
  pub Joins-start : (f : A → Missing) (whole left : List A) (all : Missing) → all ≡ no_missing → left ≡ whole → Joins f whole left all
  Joins-start f whole left all none same = record { is = ap (λ a. joined a (missing_in_each f left)) none ∙ ap (missing_in_each f) same }

  -- one more
  pub Joins-next : {f : A → Missing} {whole left rest : List A} {all one more : Missing} {next : A} → Joins f whole left all → left ≡ next ∷ rest → one ≡ f next → more ≡ joined all one → Joins f whole rest more
  Joins-next {f} {rest = rest} {all = all} {next = next} sofar first gives put = record {
    is = ap (λ m. joined m (missing_in_each f rest)) (put ∙ ap (joined all) gives)
        ∙ joined-assoc all (f next) (missing_in_each f rest)
        ∙ sym (ap (λ xs. joined all (missing_in_each f xs)) first) ∙ sofar.is;
  }

  -- after the last
  pub Joins-end : {f : A → Missing} {whole left : List A} {all : Missing} → Joins f whole left all → left ≡ [] → all ≡ missing_in_each f whole
  Joins-end {f} {all = all} sofar none = sym (joined-none all) ∙ sym (ap (λ xs. joined all (missing_in_each f xs)) none) ∙ sofar.is

  gathered_on : (f : A → Missing) (a : Missing) (xs : List A) → fold (with_missing f) a xs ≡ joined a (missing_in_each f xs)
  gathered_on f a [] = sym (joined-none a)
  gathered_on f a (x ∷ xs) = gathered_on f (joined a (f x)) xs ∙ joined-assoc a (f x) (missing_in_each f xs)

  -- put together one after another, they are all
  pub gathered : (f : A → Missing) (xs : List A) (m : Missing) → m ≡ fold (with_missing f) no_missing xs → m ≡ missing_in_each f xs
  gathered f xs m is = is ∙ gathered_on f no_missing xs

  -- the second list where the first is empty, else the first
  pub or_else-none : (xs ys : List A) → xs ≡ [] → ys ≡ or_else xs ys
  or_else-none xs ys none = sym (ap (λ l. or_else l ys) none)

  pub or_else-some : (xs ys : List A) → (xs ≡ [] → ⊥) → xs ≡ or_else xs ys
  or_else-some [] ys some = absurd (some refl)
  or_else-some (x ∷ xs) ys some = refl

pub ruleset joins = (Joins-start, Joins-next, Joins-end, or_else-none, or_else-some)
