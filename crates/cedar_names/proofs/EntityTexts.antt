-- SPDX-License-Identifier: Apache-2.0
-- The texts without fault are those that write an entity.
use Rattle.std.proofs.Common.{◌≡◌, ◌+◌, ◌<◌, ◌&&◌, ◌||◌, not, ℕ, Bool, true, false, cond, List, [], ◌∷◌, ◌++◌, length, take, drop, Option, Some, None, refl, sym, ap, ◌∙◌, arith}
use Rattle.std.specs.List.{list_all}
use Rattle.cedar_text.specs.Faults.{first_fault, no_unreserved_id}
use Rattle.cedar_text.specs.Literals.{literal_fault, opening_fault, before_quote, uid_fault, WritesEntity}
use Rattle.cedar_text.specs.NormalNames.{parts, part_fault, parts_fault, words_fault}
use Rattle.cedar_text.specs.Words.{is_word, is_reserved_word, is_cedar, is_unreserved_id}
use Rattle.cedar_text.specs.declared.fault.NameFault.{NameFault}
use Rattle.cedar_text.specs.declared.fault.NameFault.TheVariants.{Empty, Reserved}
use Rattle.cedar_text.proofs.LiteralLemmas.{closes_where_faultless}
use Rattle.cedar_text.proofs.WritingLemmas.{uid_fault-with}
use Rattle.cedar_names.proofs.EntityUidLemmas.{opening_empty, all_are_words, some_words, fault-unquoted, fault-opening, fault-literal, fault-words, writes}

-- a text that writes an entity has no fault
pub faultless_where_writes : (s : List ℕ) → WritesEntity s → uid_fault s ≡ None
faultless_where_writes s w = ap uid_fault w.writes.is ∙ uid_fault-with w.first w.others w.writes.body w.id w.identifiers w.writes.items w.writes.value

-- words before a last part that is empty
record OpenWords (ps : List (List ℕ)) : Type 0 where
  words : List (List ℕ)
  same : words ++ [] ∷ [] ≡ ps

-- where a text ends too early, its last part is empty
open_words : (s : List ℕ) (at : ℕ) (ps : List (List ℕ)) → parts_fault s at ps ≡ Some Empty → OpenWords ps
open_words s at [] e = cc
open_words s at (p ∷ ps) e = by_word (open_words s (at + length p + 2) ps) (is_word p) e
  where
    by_part : (p : List ℕ) (ps : List (List ℕ)) → Some (part_fault s at p ps) ≡ Some Empty → OpenWords (p ∷ ps)
    by_part [] [] e = record { words = []; same = refl }
    by_part [] (q ∷ qs) e = cc
    by_part (b ∷ bs) ps e = cc

    by_word : (parts_fault s (at + length p + 2) ps ≡ Some Empty → OpenWords ps) → (t : Bool)
        → cond t (parts_fault s (at + length p + 2) ps) (Some (part_fault s at p ps)) ≡ Some Empty → OpenWords (p ∷ ps)
    by_word rest true is = let more = rest is in record { words = p ∷ more.words; same = ap (λ l. p ∷ l) more.same }
    by_word rest false is = by_part p ps is

-- words of which none is excluded are unreserved identifiers
unreserved : (ws : List (List ℕ)) → list_all is_word ws ≡ true → words_fault no_unreserved_id ws ≡ None → list_all is_unreserved_id ws ≡ true
unreserved [] all none = refl
unreserved (w ∷ ws) all none = by_tests (is_word w) (is_reserved_word w) (is_cedar w) (list_all is_word ws) (unreserved ws) all none
  where
    by_tests : (word reserved cedar others : Bool) → (others ≡ true → words_fault no_unreserved_id ws ≡ None → list_all is_unreserved_id ws ≡ true)
        → word && others ≡ true → cond (reserved || cedar) (Some (Reserved w)) (words_fault no_unreserved_id ws) ≡ None
        → ((word && not reserved) && not cedar) && list_all is_unreserved_id ws ≡ true
    by_tests true false false others rest all none = rest all none
    by_tests true true cedar others rest all none = cc
    by_tests true false true others rest all none = cc
    by_tests false reserved cedar others rest all none = cc

never_empty : (fault : Option NameFault) → first_fault fault (Some Empty) ≡ None → ⊥
never_empty None e = cc
never_empty (Some f) e = cc

module _ (s : List ℕ) (faultless : uid_fault s ≡ None) where
  abbrev place : ℕ
  place = length (before_quote s)

  abbrev front : List ℕ
  front = take place s

  abbrev quoted : List ℕ
  quoted = drop place s

  module _ (some : 0 < length quoted) (good : opening_fault front ≡ None) (closed : literal_fault (length front + 1) (drop 1 quoted) ≡ None) where
    by_words : (ws : List (List ℕ)) → ws ++ [] ∷ [] ≡ parts front → WritesEntity s
    by_words [] same = absurd (omega (arith, some_words front [] good same))
    by_words (w ∷ ws) same =
        let literal = closes_where_faultless (length front + 1) (drop 1 quoted) closed in
        let none : words_fault no_unreserved_id (w ∷ ws) ≡ None = sym (fault-words s place refl front quoted refl refl some good (w ∷ ws) same closed) ∙ faultless in
        record {
          first = w;
          others = ws;
          id = literal.0;
          identifiers = unreserved (w ∷ ws) (all_are_words front (w ∷ ws) good same) none;
          writes = writes s place refl front quoted refl refl some good (w ∷ ws) same closed literal.0 literal.1;
        }

    by_parts : WritesEntity s
    by_parts = let found = open_words front 0 (parts front) (opening_empty front good) in by_words found.words found.same

  by_literal : (some : 0 < length quoted) → opening_fault front ≡ None → (fault : Option NameFault) → literal_fault (length front + 1) (drop 1 quoted) ≡ fault → WritesEntity s
  by_literal some good None closed = by_parts some good closed
  by_literal some good (Some f) is =
      let wrong : uid_fault s ≡ Some f = fault-literal s place refl front quoted refl refl some good f is in
      cc

  by_opening : 0 < length quoted → (fault : Option NameFault) → opening_fault front ≡ fault → WritesEntity s
  by_opening some None good = by_literal some good (literal_fault (length front + 1) (drop 1 quoted)) refl
  by_opening some (Some f) is =
      let wrong : uid_fault s ≡ Some f = fault-opening s place refl front quoted refl refl some f is in
      cc

  by_quoted : (l : List ℕ) → quoted ≡ l → WritesEntity s
  by_quoted [] is =
      let none : first_fault (parts_fault front 0 (parts front)) (Some Empty) ≡ None =
      sym (fault-unquoted s place refl front quoted refl refl (ap length is)) ∙ faultless in
      absurd (never_empty (parts_fault front 0 (parts front)) none)
  by_quoted (b ∷ bs) is = by_opening (let long : length quoted ≡ length (b ∷ bs) = ap length is in omega (arith, long)) (opening_fault front) refl

  -- a text without fault writes an entity
  pub writes_where_faultless : WritesEntity s
  writes_where_faultless = by_quoted quoted refl
