-- SPDX-License-Identifier: Apache-2.0
-- Choices in a set, and checks of them.
use Rattle.std.proofs.Common.{◌≡◌, ℕ, Bool, true, false, cond, ◌||◌, if◌then◌else◌, List, [], ◌∷◌, refl, sym, ap, ◌∙◌}
use Rattle.std.specs.BTreeMap.{is_at}
use Rattle.std.specs.Cmp.Lexicographic.{slice_cmp, texts_ties, bytes_decides}
use Rattle.std.specs.Ordering.{nat_cmp}
use Rattle.std.specs.Str.{bytes_eq}
use Rattle.std.specs.declared.result.Result.TheVariants.{Ok}
use Rattle.cedar_data.specs.Answers.{and_then}
use Rattle.cedar_data.specs.Sets.{contains, Adds}
use Rattle.cedar_text.specs.Words.{has_word}
use Rattle.cedar_compat.specs.BreakChecks.{choice_check, each}
use Rattle.cedar_compat.specs.Changes.{choice_removed}
use Rattle.cedar_compat.specs.Checks.{here}
use Rattle.cedar_compat.specs.Choices.{AreChoices, searched_check}

-- what the set has, with those that are left, are the choices
pub record HasChoices (whole left ids : List (List ℕ)) : Type 0 where
  pub is : (id : List ℕ) → contains (slice_cmp nat_cmp) ids id || has_word left id ≡ has_word whole id

pub HasChoices-start : (whole left ids : List (List ℕ)) → left ≡ whole → ids ≡ [] → HasChoices whole left ids
HasChoices-start whole left ids all none = record {
  is = λ id. ap (λ s. contains (slice_cmp nat_cmp) s id || has_word left id) none ∙ ap (λ l. has_word l id) all;
}

-- the test of a set and that of a list agree
same_test : (x id : List ℕ) → is_at (slice_cmp nat_cmp x) id ≡ bytes_eq id x
same_test x id = sym (texts_ties x id) ∙ turned (bytes_eq x id) (bytes_eq id x) (λ e. (bytes_decides id x).1 (sym ((bytes_decides x id).0 e))) (λ e. (bytes_decides x id).1 (sym ((bytes_decides id x).0 e)))
  where
    turned : (b c : Bool) → (b ≡ true → c ≡ true) → (c ≡ true → b ≡ true) → b ≡ c
    turned true c f g = sym (f refl)
    turned false true f g = g refl
    turned false false f g = refl

moved : (b c d : Bool) → (cond b true c) || d ≡ c || (b || d)
moved true true d = refl
moved true false d = refl
moved false c d = refl

pub HasChoices-next : {whole left rest ids more : List (List ℕ)} {x : List ℕ} → HasChoices whole left ids → left ≡ x ∷ rest → Adds (slice_cmp nat_cmp) ids more x → HasChoices whole rest more
HasChoices-next {whole} {left} {rest} {ids} {more} {x} sofar first adds = record {
  is = λ id.
      ap (λ b. b || has_word rest id) (adds id ∙ ap (λ b. cond b true (contains (slice_cmp nat_cmp) ids id)) (same_test x id))
      ∙ moved (bytes_eq id x) (contains (slice_cmp nat_cmp) ids id) (has_word rest id)
      ∙ ap (λ l. contains (slice_cmp nat_cmp) ids id || has_word l id) (sym first)
      ∙ sofar.is id;
}

or_false : (b : Bool) → b || false ≡ b
or_false true = refl
or_false false = refl

pub HasChoices-end : {whole left ids : List (List ℕ)} → HasChoices whole left ids → left ≡ [] → AreChoices whole ids
HasChoices-end {whole} {left} {ids} sofar none = λ id.
    sym (or_false (contains (slice_cmp nat_cmp) ids id)) ∙ ap (λ l. contains (slice_cmp nat_cmp) ids id || has_word l id) (sym none) ∙ sofar.is id

pub ruleset choices = (HasChoices-start, HasChoices-next, HasChoices-end)

-- the checks by search are those of the choices
pub each_searched : (choices ids xs : List (List ℕ)) → AreChoices choices ids → each (choice_check choices) xs ≡ each (searched_check ids) xs
each_searched choices ids [] are = refl
each_searched choices ids (x ∷ xs) are =
    ap (λ b. and_then (if b then Ok tt else here (choice_removed x)) (λ _. each (choice_check choices) xs)) (sym (are x))
    ∙ ap (λ c. and_then (searched_check ids x) (λ _. c)) (each_searched choices ids xs are)
