-- SPDX-License-Identifier: Apache-2.0
-- A loop that stops at the first item that is refused: what is so of the items that are left is so of all.
use Rattle.std.proofs.Common.{◌≡◌, List, [], ◌∷◌, inl, inr, subst, sym}
use Rattle.cedar_data.specs.Firsts.{AllPass, FirstRefused}

module _ {A E : Type 0} (Passes : A → Type 0) (Refuses : A → E → Type 0) where
  -- where those that are left pass, all do; and the first of them that is refused is the first of all
  pub record Decides (left all : List A) : Type 0 where
    pub passes : AllPass Passes left → AllPass Passes all
    pub refuses : (e : E) → FirstRefused Passes Refuses left e → FirstRefused Passes Refuses all e

  -- before the first item
  pub Decides-start : (left all : List A) → left ≡ all → Decides left all
  Decides-start left all same = record {
    passes = subst (AllPass Passes) same;
    refuses = λ e r. subst (λ l. FirstRefused Passes Refuses l e) same r;
  }

  -- one item more, which passes
  pub Decides-next : (x : A) (left rest all : List A) → Decides left all → left ≡ x ∷ rest → Passes x → Decides rest all
  Decides-next x left rest all d cut w = record {
    passes = λ p. d.passes (subst (AllPass Passes) (sym cut) (w, p));
    refuses = λ e r. d.refuses e (subst (λ l. FirstRefused Passes Refuses l e) (sym cut) (inr (w, r)));
  }

  -- the next item is refused
  pub Decides-refused : (x : A) (left rest all : List A) (e : E) → Decides left all → left ≡ x ∷ rest → Refuses x e → FirstRefused Passes Refuses all e
  Decides-refused x left rest all e d cut r = d.refuses e (subst (λ l. FirstRefused Passes Refuses l e) (sym cut) (inl r))

  -- after the last item
  pub Decides-end : (left all : List A) → Decides left all → left ≡ [] → AllPass Passes all
  Decides-end left all d none = d.passes (subst (AllPass Passes) (sym none) tt)
