-- SPDX-License-Identifier: Apache-2.0
-- The lines of a number, one after another.
use Rattle.std.proofs.lemmas.Grind.{common_steps}
use Rattle.std.proofs.Common.{arith, codes, decimal, if◌then◌else◌, ◌-◌, ◌/◌, ◌%◌, ◌==◌, ◌≡◌, ℕ, ◌+◌, List, [], ◌++◌, ap, sym, ◌∙◌, append_assoc, add-one}
use Rattle.cedar_streams.specs.Texts.{◌+++◌}
use Rattle.cedar_generator.specs.Generated.{action_line, entity_line, generated, lines_of, type_line}

-- a choice by a test of two numbers
chosen : {A : Type 0} (m n : ℕ) (a b : A) → m ≡ n → (if m == n then a else b) ≡ a
chosen m n a b e = grind (arith, common_steps)

left_over : {A : Type 0} (m n : ℕ) (a b : A) → (m ≡ n → ⊥) → (if m == n then a else b) ≡ b
left_over m n a b e = grind (arith, common_steps)

-- the line of a type of Long, and that of a set
abbrev plain : ℕ → List ℕ
plain i = codes "type T" +++ decimal i +++ codes " = Long;\n"

abbrev set : ℕ → List ℕ
set i = codes "type T" +++ decimal i +++ codes " = Set<T" +++ decimal (i - 1) +++ codes ">;\n"

pub type-plain : (i : ℕ) (line : List ℕ) → i % 16 ≡ 1 → line ≡ plain i → line ≡ type_line i
type-plain i line e l = l ∙ sym (chosen (i % 16) 1 (plain i) (set i) e)

pub type-set : (i : ℕ) (line : List ℕ) → (i % 16 ≡ 1 → ⊥) → line ≡ set i → line ≡ type_line i
type-set i line e l = l ∙ sym (left_over (i % 16) 1 (plain i) (set i) e)

-- the line of the first entity type, and of one in another
abbrev first_entity : ℕ → List ℕ
first_entity i = codes "entity E" +++ decimal i +++ codes " = { \"t\": T" +++ decimal i +++ codes " };\n"

abbrev entity_within : ℕ → List ℕ
entity_within i = codes "entity E" +++ decimal i +++ codes " in E" +++ decimal (i / 2) +++ codes " = { \"t\": T" +++ decimal i +++ codes " };\n"

pub entity-first : (i : ℕ) (line : List ℕ) → i ≡ 1 → line ≡ first_entity i → line ≡ entity_line i
entity-first i line e l = l ∙ sym (chosen i 1 (first_entity i) (entity_within i) e)

pub entity-within : (i : ℕ) (line : List ℕ) → (i ≡ 1 → ⊥) → line ≡ entity_within i → line ≡ entity_line i
entity-within i line e l = l ∙ sym (left_over i 1 (first_entity i) (entity_within i) e)

-- three lines put behind a text, one by one
pub lines-behind : (i : ℕ) (before first second third a b c : List ℕ) → a ≡ type_line i → b ≡ entity_line i → c ≡ action_line i
    → first ≡ before ++ a → second ≡ first ++ b → third ≡ second ++ c → third ≡ before ++ lines_of i
unfolding ◌+++◌
lines-behind i before first second third a b c p q r x y z =
    z ∙ ap (λ s. s ++ c) (y ∙ ap (λ s. s ++ b) x) ∙ append_assoc (before ++ a) b c ∙ append_assoc before a (b ++ c)
    ∙ ap (λ s. before ++ (s ++ (b ++ c))) p ∙ ap (λ s. before ++ (type_line i ++ (s ++ c))) q ∙ ap (λ s. before ++ (type_line i ++ (entity_line i ++ s))) r

-- the lines of the next number behind those so far
pub lines-next : (n : ℕ) (before after : List ℕ) → before ≡ generated n → after ≡ before ++ lines_of (n + 1) → after ≡ generated (n + 1)
unfolding generated
lines-next n before after e f = f ∙ ap (λ s. s ++ lines_of (n + 1)) e ∙ rw add-one

pub lines-none : (before : List ℕ) → before ≡ [] → before ≡ generated 0
unfolding generated
lines-none before e = e
