-- SPDX-License-Identifier: Apache-2.0
-- A loop over attributes that looks for a reference that means nothing declared.
use Rattle.std.proofs.Common.{◌≡◌, List, [], ◌∷◌, ◌++◌, map, Some, None, sym, ap, ◌∙◌, append_assoc}
use Rattle.std.proofs.lemmas.List.{map-append}
use Rattle.std.proofs.lemmas.List.Folds.{find-append}
use Rattle.std.specs.List.{find}
use Rattle.std.specs.Option.{option_or}
use Rattle.cedar_declared.specs.Names.{Names}
use Rattle.cedar_written.specs.References.{references_of_attribute}
use Rattle.cedar_written.specs.declared.conditional_name.ConditionalName.{ConditionalName}
use Rattle.cedar_written.specs.declared.ty.TypeOfAttribute.{TypeOfAttribute}
use Rattle.cedar_missing.specs.Undeclared.{first_undefined, is_undefined, name_at, references_of_attributes}

-- a loop over `whole` that has `left` before it has found none
pub record Looks {K : Type 0} (names : Names) (whole left : List (K × TypeOfAttribute ConditionalName)) : Type 0 where
  pub done : List (K × TypeOfAttribute ConditionalName)
  pub split : done ++ left ≡ whole
  pub is : first_undefined names (references_of_attributes left) ≡ first_undefined names (references_of_attributes whole)

module _ {K : Type 0} (names : Names) where
  -- the next attribute counts before the others
  at_next : {left rest : List (K × TypeOfAttribute ConditionalName)} {next : K × TypeOfAttribute ConditionalName} → left ≡ next ∷ rest
      → first_undefined names (references_of_attributes left) ≡ option_or (first_undefined names (references_of_attribute next.1)) (first_undefined names (references_of_attributes rest))
  at_next {rest = rest} {next = next} first =
      ap (λ es. first_undefined names (references_of_attributes es)) first
      ∙ ap (find (is_undefined names)) (map-append name_at (references_of_attribute next.1) (references_of_attributes rest))
      ∙ find-append (is_undefined names) (map name_at (references_of_attribute next.1)) (map name_at (references_of_attributes rest))

  -- before the first
  pub Looks-start : (whole left : List (K × TypeOfAttribute ConditionalName)) → left ≡ whole → Looks names whole left
  Looks-start whole left all = record { done = []; split = all; is = ap (λ es. first_undefined names (references_of_attributes es)) all }

  -- one that misses nothing
  pub Looks-next : {whole left rest : List (K × TypeOfAttribute ConditionalName)} {next : K × TypeOfAttribute ConditionalName} → Looks names whole left → left ≡ next ∷ rest → None ≡ first_undefined names (references_of_attribute next.1) → Looks names whole rest
  Looks-next {rest = rest} {next = next} sofar first none = record {
    done = sofar.done ++ next ∷ [];
    split = append_assoc sofar.done (next ∷ []) rest ∙ ap (λ l. sofar.done ++ l) (sym first) ∙ sofar.split;
    is = ap (λ o. option_or o (first_undefined names (references_of_attributes rest))) none ∙ sym (at_next first) ∙ sofar.is;
  }

  -- one that misses something
  pub Looks-found : {whole left rest : List (K × TypeOfAttribute ConditionalName)} {next : K × TypeOfAttribute ConditionalName} {n : ConditionalName} → Looks names whole left → left ≡ next ∷ rest → Some n ≡ first_undefined names (references_of_attribute next.1) → Some n ≡ first_undefined names (references_of_attributes whole)
  Looks-found {rest = rest} sofar first some = ap (λ o. option_or o (first_undefined names (references_of_attributes rest))) some ∙ sym (at_next first) ∙ sofar.is

  -- after the last
  pub Looks-end : {whole left : List (K × TypeOfAttribute ConditionalName)} → Looks names whole left → left ≡ [] → None ≡ first_undefined names (references_of_attributes whole)
  Looks-end sofar none = sym (ap (λ es. first_undefined names (references_of_attributes es)) none) ∙ sofar.is

pub ruleset first = (Looks-start, Looks-next, Looks-found, Looks-end)
