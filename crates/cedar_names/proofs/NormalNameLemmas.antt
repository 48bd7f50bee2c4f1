-- SPDX-License-Identifier: Apache-2.0
use Rattle.std.proofs.Common.{◌≡◌, ◌+◌, ◌<◌, arith, ◌&&◌, ◌||◌, ℕ, zero, suc, Bool, true, false, cond, List, [], ◌∷◌, ◌++◌, length, drop, nat_eq, codes, refl, sym, ap, ◌∙◌, Some, None}
use Rattle.std.specs.List.{list_all, starts_with}
use Rattle.cedar_names.specs.Components.{has_cedar}
use Rattle.cedar_text.specs.Joining.{joined}
use Rattle.cedar_text.specs.Faults.{no_unreserved_id}
use Rattle.cedar_names.specs.Identifiers.{id_words}
use Rattle.cedar_text.specs.NormalNames.{grow, parts_behind, parts, part_fault, parts_fault, words_fault, excluded_words}
use Rattle.cedar_text.specs.Words.{is_word, is_cedar, is_reserved_word}
use Rattle.cedar_text.specs.declared.fault.NameFault.TheVariants.{Reserved}
use Rattle.cedar_names.specs.declared.id.Id.{Id}
use Rattle.cedar_text.proofs.PartsLemmas.{HasFirst, parts-first, colons}

-- the words before the rest are the identifiers, and none is excluded
pub record Checked (excluded : List ℕ → Bool) (words rest : List (List ℕ)) (ids : List Id) : Type 0 where
  pub fault : words_fault excluded words ≡ words_fault excluded rest
  pub same : id_words ids ++ rest ≡ words
  pub all : list_all is_word rest ≡ true

-- the parts of a text whose form is right are words
pub all_words : (s : List ℕ) (at : ℕ) (ps : List (List ℕ)) → parts_fault s at ps ≡ None → list_all is_word ps ≡ true
all_words s at [] none = refl
all_words s at (p ∷ ps) none = by_word (all_words s (at + length p + 2) ps) (is_word p) refl none
  where
    by_word : (parts_fault s (at + length p + 2) ps ≡ None → list_all is_word ps ≡ true) → (t : Bool) → is_word p ≡ t
        → cond t (parts_fault s (at + length p + 2) ps) (Some (part_fault s at p ps)) ≡ None → t && list_all is_word ps ≡ true
    by_word rest true e is_none = rest is_none
    by_word rest false e is_none = cc

-- a text has some part
pub some_ids : (ids : List Id) (s : List ℕ) → id_words ids ≡ parts s → 0 < length ids
some_ids [] s same = let first = parts-first 0 s in absurd (omega (arith, ap length (same ∙ first.is)))
some_ids (id ∷ ids) s same = omega arith

-- no word that is not excluded from a `Name` is `__cedar`
no_cedar : (ws : List (List ℕ)) → words_fault no_unreserved_id ws ≡ None → has_cedar ws ≡ false
no_cedar [] none = refl
no_cedar (w ∷ ws) none = by_cedar (no_cedar ws) (is_reserved_word w) (is_cedar w) none
  where
    by_cedar : (words_fault no_unreserved_id ws ≡ None → has_cedar ws ≡ false) → (r t : Bool) → cond (r || t) (Some (Reserved w)) (words_fault no_unreserved_id ws) ≡ None → t || has_cedar ws ≡ false
    by_cedar rest true t is_none = cc
    by_cedar rest false true is_none = cc
    by_cedar rest false false is_none = rest is_none

pub no_cedar_where : (allowed : Bool) (ws : List (List ℕ)) → words_fault (excluded_words allowed) ws ≡ None → allowed ≡ false → has_cedar ws ≡ false
no_cedar_where true ws none e = cc
no_cedar_where false ws none e = no_cedar ws none

-- parts with `::` between them, where the first grows
joined-grow : (b : ℕ) (ps : List (List ℕ)) → HasFirst ps → joined (grow b ps) ≡ b ∷ joined ps
joined-grow b ps has = rw has.is refl

joined-open : (ps : List (List ℕ)) → HasFirst ps → joined ([] ∷ ps) ≡ codes "::" ++ joined ps
joined-open ps has = rw has.is refl

joined-cond : (t : Bool) (ps qs : List (List ℕ)) (bs : List ℕ) → (t ≡ true → joined ps ≡ bs) → (t ≡ false → joined qs ≡ bs) → joined (cond t ps qs) ≡ bs
joined-cond true ps qs bs left right = left refl
joined-cond false ps qs bs left right = right refl

drop-nil : (n : ℕ) → drop {A = ℕ} n [] ≡ []
drop-nil zero = refl
drop-nil (suc n) = refl

joined-behind : (skipped : ℕ) (bs : List ℕ) → joined (parts_behind skipped bs) ≡ drop skipped bs
joined-behind skipped [] = sym (drop-nil skipped)
joined-behind (suc skipped) (b ∷ bs) = joined-behind skipped bs
joined-behind zero (b ∷ bs) =
    joined-cond (starts_with nat_eq (b ∷ bs) (codes "::")) ([] ∷ parts_behind 1 bs) (grow b (parts_behind 0 bs)) (b ∷ bs)
    (λ e. joined-open (parts_behind 1 bs) (parts-first 1 bs) ∙ ap (λ (l : List ℕ). codes "::" ++ l) (joined-behind 1 bs) ∙ sym (colons (b ∷ bs) e))
    (λ e. joined-grow b (parts_behind 0 bs) (parts-first 0 bs) ∙ ap (λ (l : List ℕ). b ∷ l) (joined-behind 0 bs))

-- the parts with `::` between them are the text
pub joined-parts : (s : List ℕ) → joined (parts s) ≡ s
joined-parts s = joined-behind 0 s
