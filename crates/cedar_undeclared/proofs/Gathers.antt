-- SPDX-License-Identifier: Apache-2.0
-- Loops over a map that gather the undeclared names of its values.
use Rattle.std.proofs.Common.{◌≡◌, List, [], ◌∷◌, ◌++◌, sym, ap, ◌∙◌, append_assoc}
use Rattle.std.proofs.lemmas.List.Sums.{fold-append}
use Rattle.std.specs.List.{flat_map}
use Rattle.cedar_data.specs.Maps.{map_values}
use Rattle.cedar_missing.specs.of_declared.Names.{Names}
use Rattle.cedar_names.specs.declared.internal_name.InternalName.{InternalName}
use Rattle.cedar_written.specs.References.{Refs}
use Rattle.cedar_undeclared.specs.Gathering.{with_reference, with_references}

-- the references of values, in order
abbrev pub all_refs : {K V : Type 0} → (V → Refs InternalName) → List (K × V) → Refs InternalName
all_refs refs es = flat_map (λ e. e.1) (map_values refs es)

-- a loop over `whole` that has `left` before it: what those that are left add now is what all add
pub record Gathers {K V : Type 0} (names : Names) (refs : V → Refs InternalName) (whole left : List (K × V)) (before now : List InternalName) : Type 0 where
  pub done : List (K × V)
  pub split : done ++ left ≡ whole
  pub is : with_references names now (all_refs refs left) ≡ with_references names before (all_refs refs whole)

module _ {K V : Type 0} (names : Names) (refs : V → Refs InternalName) where
  -- before the first
  pub Gathers-start : (whole left : List (K × V)) (before now : List InternalName) → left ≡ whole → now ≡ before → Gathers names refs whole left before now
  Gathers-start whole left before now all same = record {
    done = [];
    split = all;
    is = ap (λ keys. with_references names keys (all_refs refs left)) same ∙ ap (λ es. with_references names before (all_refs refs es)) all;
  }

  -- one more
  pub Gathers-next : {whole left rest : List (K × V)} {next : K × V} {before now more : List InternalName} → Gathers names refs whole left before now → left ≡ next ∷ rest
      → more ≡ with_references names now (refs next.1) → Gathers names refs whole rest before more
  Gathers-next {rest = rest} {next = next} {now = now} sofar first gives = record {
    done = sofar.done ++ next ∷ [];
    split = append_assoc sofar.done (next ∷ []) rest ∙ ap (λ l. sofar.done ++ l) (sym first) ∙ sofar.split;
    is = ap (λ keys. with_references names keys (all_refs refs rest)) gives
        ∙ sym (fold-append (with_reference names) now (refs next.1) (all_refs refs rest))
        ∙ ap (λ es. with_references names now (all_refs refs es)) (sym first)
        ∙ sofar.is;
  }

  -- after the last
  pub Gathers-end : {whole left : List (K × V)} {before now : List InternalName} → Gathers names refs whole left before now → left ≡ [] → now ≡ with_references names before (all_refs refs whole)
  Gathers-end {now = now} sofar none = sym (ap (λ es. with_references names now (all_refs refs es)) none) ∙ sofar.is

pub ruleset gathers = (Gathers-start, Gathers-next, Gathers-end)
