-- SPDX-License-Identifier: Apache-2.0
-- What holds of each item of a list that was joined of others, or in which one item was replaced or put in.
use Rattle.std.proofs.Common.{ℕ, zero, suc, ◌<◌, List, [], ◌∷◌, ◌++◌, length, get_or, set, take, drop, sym, subst, arith}
use Rattle.std.proofs.Math.Seq.{drop-cons}
use Rattle.std.proofs.lemmas.List.{set_split, take-append-drop}
use Rattle.std.specs.List.{insert}
use Rattle.cedar_data.specs.Firsts.{AllPass}

module _ {A : Type 0} (P : A → Type 0) where
  pub AllPass-append : (xs ys : List A) → AllPass P xs → AllPass P ys → AllPass P (xs ++ ys)
  AllPass-append [] ys p q = q
  AllPass-append (x ∷ xs) ys p q = (p.0, AllPass-append xs ys p.1 q)

  pub AllPass-front : (xs ys : List A) → AllPass P (xs ++ ys) → AllPass P xs
  AllPass-front [] ys p = tt
  AllPass-front (x ∷ xs) ys p = (p.0, AllPass-front xs ys p.1)

  pub AllPass-back : (xs ys : List A) → AllPass P (xs ++ ys) → AllPass P ys
  AllPass-back [] ys p = p
  AllPass-back (x ∷ xs) ys p = AllPass-back xs ys p.1

  pub AllPass-at : (xs : List A) (i : ℕ) (d : A) → i < length xs → AllPass P xs → P (get_or xs i d)
  AllPass-at [] i d l p = absurd (omega arith)
  AllPass-at (x ∷ xs) zero d l p = p.0
  AllPass-at (x ∷ xs) (suc i) d l p = AllPass-at xs i d (omega arith) p.1

pub AllPass-map : {A : Type 0} {P Q : A → Type 0} → ((x : A) → P x → Q x) → (xs : List A) → AllPass P xs → AllPass Q xs
AllPass-map f [] p = tt
AllPass-map f (x ∷ xs) p = (f x p.0, AllPass-map f xs p.1)

pub AllPass-set : {A : Type 0} (P : A → Type 0) (xs : List A) (i : ℕ) (y : A) → i < length xs → P y → AllPass P xs → AllPass P (set xs i y)
AllPass-set P xs i y l q p =
    let parts = subst (AllPass P) (sym (take-append-drop i xs)) p in
    let rest = subst (AllPass P) (drop-cons xs i y l) (AllPass-back P (take i xs) (drop i xs) parts) in
    subst (AllPass P) (sym (set_split xs i y l)) (AllPass-append P (take i xs) (y ∷ drop (suc i) xs) (AllPass-front P (take i xs) (drop i xs) parts) (q, rest.1))

pub AllPass-insert : {A : Type 0} (P : A → Type 0) (xs : List A) (i : ℕ) (y : A) → P y → AllPass P xs → AllPass P (insert xs i y)
AllPass-insert P xs i y q p =
    let parts = subst (AllPass P) (sym (take-append-drop i xs)) p in
    AllPass-append P (take i xs) (y ∷ drop i xs) (AllPass-front P (take i xs) (drop i xs) parts) (q, AllPass-back P (take i xs) (drop i xs) parts)
