-- SPDX-License-Identifier: Apache-2.0
-- What the answer of a call says that may be refused, or fail for want of memory, which says nothing.
use Rattle.std.specs.Prelude.{◌≡◌, ⊤, List, [], ◌∷◌, Option, Some, None, Result, Ok, Err}
use Rattle.cedar_data.specs.declared.memory.Failure.{Failure}
use Rattle.cedar_data.specs.declared.memory.Failure.TheVariants.{Refused, NoMemory}

-- `Gives` of the value, or `Refuses` of the refusal
abbrev pub Answers : {T E : Type 0} → (T → Type 0) → (E → Type 0) → Result T (Failure E) → Type 0
Answers Gives Refuses (Ok value) = Gives value
Answers Gives Refuses (Err (Refused e)) = Refuses e
Answers Gives Refuses (Err NoMemory) = ⊤

-- the fact of the refusal, where the call was refused by its own rules
abbrev pub IfRefused : {T E : Type 0} → Result T (Failure E) → (E → Type 0) → Type 0
IfRefused result Refuses = Answers (λ _. ⊤) Refuses result

-- the call is not refused by its own rules, and `Gives` of the value
abbrev pub Accepts : {T E : Type 0} → (T → Type 0) → Result T (Failure E) → Type 0
Accepts Gives result = Answers Gives (λ _. ⊥) result

-- the value, seen through `view`, or the refusal, seen through `told`, is the answer
abbrev pub AnswersAs : {T E S F : Type 0} → (T → S) → (E → F) → Result S F → Result T (Failure E) → Type 0
AnswersAs view told answer result = Answers (λ value. answer ≡ Ok (view value)) (λ e. answer ≡ Err (told e)) result

-- the value or the refusal is the answer
abbrev pub AnswersWith : {T E : Type 0} → Result T E → Result T (Failure E) → Type 0
AnswersWith answer result = AnswersAs (λ value. value) (λ e. e) answer result

-- what f gives of the value, or the refusal
abbrev pub and_then : {A B E : Type 0} → Result A E → (A → Result B E) → Result B E
and_then (Ok value) f = f value
and_then (Err e) f = Err e

-- all values, or the first refusal
abbrev pub all_items : {T E : Type 0} → List (Result T E) → Result (List T) E
all_items [] = Ok []
all_items (r ∷ rs) = and_then r (λ value. and_then (all_items rs) (λ values. Ok (value ∷ values)))

-- all values at their keys, or the first refusal
abbrev pub all_values : {K V E : Type 0} → List (K × Result V E) → Result (List (K × V)) E
all_values [] = Ok []
all_values (r ∷ rs) = and_then r.1 (λ value. and_then (all_values rs) (λ values. Ok ((r.0, value) ∷ values)))

-- the value that may be there, or its refusal
abbrev pub in_option : {T E : Type 0} → Option (Result T E) → Result (Option T) E
in_option None = Ok None
in_option (Some r) = and_then r (λ value. Ok (Some value))
