-- SPDX-License-Identifier: Apache-2.0
-- What the maps of a fragment hold stands in the order of their keys.
use Rattle.std.proofs.Common.{◌≡◌, List, [], ◌∷◌, Option, sym, subst}
use Rattle.std.specs.Option.{option_cmp}
use Rattle.cedar_data.specs.Firsts.{AllPass}
use Rattle.cedar_data.specs.Maps.{IsSortedMap}
use Rattle.cedar_names.specs.Names.{name_cmp}
use Rattle.cedar_names.specs.declared.name.Name.{Name}
use Rattle.cedar_merge.specs.Lookups.{Definition, Fragment}
use Rattle.cedar_merge.specs.Merged.{DeclaresInOrder, StandsInOrder}
use Rattle.cedar_merge.proofs.Orders.{by_path}

abbrev Spaces : Type 0
Spaces = List (Option Name × Definition)

-- a loop over `whole` that has `left` before it has found what each namespace before declares in order
pub record DefinitionsSoFar (whole left : Spaces) : Type 0 where
  pub sorted : IsSortedMap (option_cmp name_cmp) whole
  pub leads : AllPass (λ n. DeclaresInOrder n.1) left → AllPass (λ n. DeclaresInOrder n.1) whole

pub Definitions-start : (whole left : Spaces) → left ≡ whole → IsSortedMap (option_cmp name_cmp) whole → DefinitionsSoFar whole left
Definitions-start whole left all sorted = record { sorted = sorted; leads = λ h. subst (AllPass (λ n. DeclaresInOrder n.1)) all h }

pub Definitions-next : {whole left rest : Spaces} {n : Option Name × Definition} → DefinitionsSoFar whole left → left ≡ n ∷ rest → DeclaresInOrder n.1 → DefinitionsSoFar whole rest
Definitions-next sofar at_left h = record {
  sorted = sofar.sorted;
  leads = λ others. sofar.leads (subst (AllPass (λ n. DeclaresInOrder n.1)) (sym at_left) (h, others));
}

pub Definitions-end : {left : Spaces} (F : Fragment) → DefinitionsSoFar F.0 left → left ≡ [] → StandsInOrder F
Definitions-end F sofar none = record {
  namespaces = subst (λ cmp. IsSortedMap cmp F.0) (λ i a b. by_path a b i) sofar.sorted;
  definitions = sofar.leads (subst (AllPass (λ n. DeclaresInOrder n.1)) (sym none) tt);
}

pub ruleset each_definition = (Definitions-start, Definitions-next, Definitions-end)
