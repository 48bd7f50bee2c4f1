-- SPDX-License-Identifier: Apache-2.0
-- A loop over the elements of a set, the first of which has a type.
use Rattle.std.proofs.Common.{◌≡◌, List, [], ◌∷◌, ◌++◌, map, sym, ap, ◌∙◌, append_assoc}
use Rattle.std.specs.declared.result.Result.TheVariants.{Ok, Err}
use Rattle.cedar_data.specs.declared.memory.Failure.{Failure}
use Rattle.cedar_types.specs.Types.{set_type}
use Rattle.cedar_types.specs.declared.ty.ResolvedType.{ResolvedType}
use Rattle.cedar_types.specs.declared.value.CedarValueJson.{CedarValueJson}
use Rattle.cedar_written.specs.Answers.{Answers, and_then}
use Rattle.cedar_written.proofs.Goes.{Answers-refused}
use Rattle.cedar_action_values.specs.declared.value_fault.ValueFault.{ValueFault}
use Rattle.cedar_action_values.specs.ActionValues.{Typed, all_typed, typed, typed_set}

-- the type of sets of these elements, where these others have types
abbrev pub set_over : ResolvedType → List CedarValueJson → Typed
set_over element left = and_then (all_typed (map typed left)) (λ _. Ok (set_type element))

-- of the elements `whole`, `left` are left to be checked
pub record Checks (whole left : List CedarValueJson) (element : ResolvedType) : Type 0 where
  pub done : List CedarValueJson
  pub split : done ++ left ≡ whole
  pub is : typed_set (map typed whole) ≡ set_over element left

-- behind the first
pub Checks-start : (whole left rest : List CedarValueJson) (first : CedarValueJson) (element : ResolvedType) → whole ≡ first ∷ rest → left ≡ rest → typed first ≡ Ok element → Checks whole left element
Checks-start whole left rest first element first_is all gives = record {
  done = first ∷ [];
  split = ap (λ l. first ∷ l) all ∙ sym first_is;
  is = ap (λ l. typed_set (map typed l)) first_is ∙ ap (λ t. and_then t (λ element. set_over element rest)) gives ∙ ap (set_over element) (sym all);
}

at_next : {left rest : List CedarValueJson} {next : CedarValueJson} (element : ResolvedType) (t : Typed) → left ≡ next ∷ rest → typed next ≡ t → set_over element left ≡ and_then (and_then t (λ _. all_typed (map typed rest))) (λ _. Ok (set_type element))
at_next {rest = rest} element t first gives =
    ap (set_over element) first ∙ ap (λ t. and_then (and_then t (λ _. all_typed (map typed rest))) (λ _. Ok (set_type element))) gives

-- one more
pub Checks-next : {whole left rest : List CedarValueJson} {next : CedarValueJson} {element ty : ResolvedType} → Checks whole left element → left ≡ next ∷ rest → typed next ≡ Ok ty → Checks whole rest element
Checks-next {rest = rest} {next} {element} {ty} sofar first gives = record {
  done = sofar.done ++ next ∷ [];
  split = append_assoc sofar.done (next ∷ []) rest ∙ ap (λ l. sofar.done ++ l) (sym first) ∙ sofar.split;
  is = sofar.is ∙ at_next element (Ok ty) first gives;
}

-- behind the last
pub Checks-end : {whole left : List CedarValueJson} {element : ResolvedType} → Checks whole left element → left ≡ [] → typed_set (map typed whole) ≡ Ok (set_type element)
Checks-end {element = element} sofar none = sofar.is ∙ ap (set_over element) none

-- a fault
pub Checks-refused : {whole left rest : List CedarValueJson} {next : CedarValueJson} {element : ResolvedType} (x : Failure ValueFault) → Checks whole left element → left ≡ next ∷ rest → Answers (Err x) (typed next) → Answers (Err x) (typed_set (map typed whole))
Checks-refused {whole} {next = next} {element = element} x sofar first refused = Answers-refused x (typed next) (typed_set (map typed whole)) refused (λ e is. sofar.is ∙ at_next element (Err e) first is)

pub ruleset checking = (Checks-start, Checks-next, Checks-end, Checks-refused)
