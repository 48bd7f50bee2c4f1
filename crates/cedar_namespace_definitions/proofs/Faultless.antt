-- SPDX-License-Identifier: Apache-2.0
-- First faults of lists in a row, and loops that stop at the first item with a fault.
use Rattle.std.proofs.Common.{◌≡◌, List, [], ◌∷◌, ◌++◌, sym, ap, ◌∙◌}
use Rattle.std.specs.List.{flat_map}
use Rattle.std.specs.declared.result.Result.{Result}
use Rattle.std.specs.declared.result.Result.TheVariants.{Ok, Err}
use Rattle.cedar_data.specs.Answers.{IfRefused}
use Rattle.cedar_data.specs.Firsts.{IsFirst}
use Rattle.cedar_data.specs.declared.memory.Failure.{Failure}
use Rattle.cedar_data.specs.declared.memory.Failure.TheVariants.{Refused, NoMemory}

module _ {A : Type 0} where
  -- the first of a list is the first of it with others behind it
  pub first_before : (xs ys : List A) (x : A) → IsFirst xs x → IsFirst (xs ++ ys) x
  first_before xs ys x f = (f.0 ++ ys, ap (λ l. l ++ ys) f.1)

  -- and so it is behind an empty list
  pub first_behind : (xs ys : List A) (x : A) → xs ≡ [] → IsFirst ys x → IsFirst (xs ++ ys) x
  first_behind xs ys x none f = (f.0, ap (λ l. l ++ ys) none ∙ f.1)

  -- two empty lists
  pub none_of_both : (xs ys : List A) → xs ≡ [] → ys ≡ [] → xs ++ ys ≡ []
  none_of_both xs ys none none' = ap (λ l. l ++ ys) none ∙ none'

pub ruleset firsts = (first_before, first_behind, none_of_both)

-- what is refused with the first fault of a list is refused with the first of it and others behind it
pub refused_before : {A T F : Type 0} (told : F → A) (xs ys : List A) (result : Result T (Failure F)) → IfRefused result (λ e. IsFirst xs (told e)) → IfRefused result (λ e. IsFirst (xs ++ ys) (told e))
refused_before told xs ys (Ok value) refused = refused
refused_before told xs ys (Err (Refused e)) refused = first_before xs ys (told e) refused
refused_before told xs ys (Err NoMemory) refused = refused

-- of the items `whole`, those before `left` have no faults
pub record Faultless {E R : Type 0} (faults : E → List R) (whole left : List E) : Type 0 where
  pub is : flat_map faults whole ≡ flat_map faults left

module _ {E R : Type 0} where
  -- before the first item
  pub Faultless-start : (faults : E → List R) (whole left : List E) → left ≡ whole → Faultless faults whole left
  Faultless-start faults whole left all = record { is = ap (flat_map faults) (sym all) }

  -- one item more
  pub Faultless-next : {faults : E → List R} {whole left rest : List E} (item : E) → Faultless faults whole left → left ≡ item ∷ rest → faults item ≡ [] → Faultless faults whole rest
  Faultless-next {faults} {rest = rest} item sofar first none = record {
    is = sofar.is ∙ ap (flat_map faults) first ∙ ap (λ l. l ++ flat_map faults rest) none;
  }

  -- after the last
  pub Faultless-end : {faults : E → List R} {whole left : List E} → Faultless faults whole left → left ≡ [] → flat_map faults whole ≡ []
  Faultless-end {faults} sofar none = sofar.is ∙ ap (flat_map faults) none

  -- the next item has a fault
  pub Faultless-refused : {faults : E → List R} {whole left rest : List E} (item : E) (e : R) → Faultless faults whole left → left ≡ item ∷ rest → IsFirst (faults item) e → IsFirst (flat_map faults whole) e
  Faultless-refused {faults} {rest = rest} item e sofar first f =
      (f.0 ++ flat_map faults rest, sofar.is ∙ ap (flat_map faults) first ∙ ap (λ l. l ++ flat_map faults rest) f.1)

  -- the step of the next item is refused with its first fault: that is the first of all
  pub Faultless-refuses : {T F : Type 0} {faults : E → List R} {whole left rest : List E} (item : E) (told : F → R) (result : Result T (Failure F)) → Faultless faults whole left → left ≡ item ∷ rest
      → IfRefused result (λ e. IsFirst (faults item) (told e)) → IfRefused result (λ e. IsFirst (flat_map faults whole) (told e))
  Faultless-refuses item told (Ok value) sofar first refused = refused
  Faultless-refuses item told (Err (Refused e)) sofar first refused = Faultless-refused item (told e) sofar first refused
  Faultless-refuses item told (Err NoMemory) sofar first refused = refused

pub ruleset faultless = (Faultless-start, Faultless-next, Faultless-end, Faultless-refused)
