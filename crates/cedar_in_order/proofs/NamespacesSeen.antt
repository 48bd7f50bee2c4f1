-- SPDX-License-Identifier: Apache-2.0
-- Namespaces stand in order as they are seen.
use Rattle.std.proofs.Common.{◌≡◌, List, [], ◌∷◌, Option, Some, None, refl, sym, subst}
use Rattle.std.specs.List.{AllByRecursion}
use Rattle.std.specs.Option.{option_cmp}
use Rattle.cedar_data.specs.Maps.{IsSortedMap}
use Rattle.cedar_names.specs.Names.{name_cmp}
use Rattle.cedar_names.specs.declared.name.Name.{Name}
use Rattle.cedar_written.specs.declared.raw_name.RawName.{RawName}
use Rattle.cedar_fragment.specs.ActionUids.{over_raw}
use Rattle.cedar_fragment.specs.declared.definitions.Fragment as held
use Rattle.cedar_fragment.specs.declared.definitions.NamespaceDefinition.{NamespaceDefinition}
use Rattle.cedar_convert_fragment.specs.of_convert_faults.Gathering.{namespace_cmp}
use Rattle.cedar_convert_fragment.specs.Views.{definition_seen, fragment_seen, namespace_words, namespaces_seen}
use Rattle.cedar_reread.specs.EachType.{EachOfDefinition, EachType}
use Rattle.cedar_in_order.specs.InOrder.{DefinitionInOrder, FragmentInOrder, TypeInOrder}
use Rattle.cedar_in_order.proofs.Ascending.{seen_ascending}

abbrev Spaces : Type 0
Spaces = List (Option Name × NamespaceDefinition RawName over_raw)

abbrev Maps : Spaces → Type 0
Maps es = AllByRecursion (λ n. DefinitionInOrder n.1) (namespaces_seen es)

abbrev Types : Spaces → Type 0
Types es = EachType TypeInOrder (namespaces_seen es)

-- namespaces are kept in the order of their components
by_words : (a b : Option Name) → option_cmp name_cmp a b ≡ namespace_cmp (namespace_words a) (namespace_words b)
by_words None None = refl
by_words None (Some b) = refl
by_words (Some a) None = refl
by_words (Some a) (Some b) = refl

-- a loop over `whole` that has `left` before it has found each namespace before in order
pub record NamespacesSoFar (whole left : Spaces) : Type 0 where
  pub sorted : IsSortedMap namespace_cmp (namespaces_seen whole)
  pub maps : Maps left → Maps whole
  pub types : Types left → Types whole

pub Namespaces-start : (whole left : Spaces) → left ≡ whole → IsSortedMap (option_cmp name_cmp) whole → NamespacesSoFar whole left
Namespaces-start whole left all sorted = record {
  sorted = seen_ascending namespace_cmp namespace_words definition_seen whole (subst (λ cmp. IsSortedMap cmp whole) (λ i a b. by_words a b i) sorted);
  maps = λ h. subst Maps all h;
  types = λ h. subst Types all h;
}

pub Namespaces-next : {whole left rest : Spaces} {n : Option Name × NamespaceDefinition RawName over_raw} → NamespacesSoFar whole left → left ≡ n ∷ rest → DefinitionInOrder (definition_seen n.1)
    → EachOfDefinition TypeInOrder (definition_seen n.1) → NamespacesSoFar whole rest
Namespaces-next sofar first maps types = record {
  sorted = sofar.sorted;
  maps = λ others. sofar.maps (subst Maps (sym first) (maps, others));
  types = λ others. sofar.types (subst Types (sym first) (types, others));
}

pub Namespaces-end : {left : Spaces} (F : held.Fragment RawName over_raw) → NamespacesSoFar F.0 left → left ≡ [] → FragmentInOrder (fragment_seen F)
Namespaces-end F sofar none = record {
  namespaces = sofar.sorted;
  definitions = sofar.maps (subst Maps (sym none) tt);
  types = sofar.types (subst Types (sym none) tt);
}

pub ruleset each_namespace = (Namespaces-start, Namespaces-next, Namespaces-end)
