-- SPDX-License-Identifier: Apache-2.0
-- Fragments one behind the other, and a fragment that means what they mean together.
use Rattle.std.specs.Prelude.{◌↔◌, ℕ, List, Option}
use Rattle.std.specs.List.{flat_map}
use Rattle.cedar_data.specs.Firsts.{AllPass}
use Rattle.cedar_data.specs.Maps.{IsSortedMap, map_values}
use Rattle.cedar_names.specs.Order.{word_cmp}
use Rattle.cedar_names.specs.declared.name.Name.{Name}
use Rattle.cedar_convert_fragment.specs.Fragments as tree
use Rattle.cedar_convert_fragment.specs.Views.{fragment_seen, namespaces_seen}
use Rattle.cedar_fragment_world.specs.FragmentWorlds.{namespaces_of, world_of_fragment}
use Rattle.cedar_merge.specs.Lookups.{Definition, Fragment, Path, path_cmp}
use Rattle.cedar_resolving_laws.specs.Reordered.{DeclareAlike}
use Rattle.cedar_schema.specs.Fragments.{SoundFragment}
use Rattle.cedar_schema_error.specs.declared.action_behavior.ActionBehavior.{ActionBehavior}
use Rattle.cedar_world.specs.Denotes.{Denotes}
use Rattle.cedar_world.specs.Schemas.{Schema}

-- the namespaces of all fragments, as they stand: one of the same name may stand more than once
abbrev pub all_namespaces : List Fragment → List (Option Name × Definition)
all_namespaces L = flat_map (λ f. f.0) L

-- what fragments declare, one behind the other
abbrev pub seen_together : List Fragment → tree.Fragment
seen_together L = namespaces_seen (all_namespaces L)

-- ---- order

-- what a namespace declares stands in the order of its names, and its annotations in that of their keys
pub record DefinitionInOrder (d : tree.Definition) : Type 0 where
  pub common_types : IsSortedMap word_cmp d.common_types
  pub entity_types : IsSortedMap word_cmp d.entity_types
  pub actions : IsSortedMap word_cmp d.actions
  pub annotations : IsSortedMap word_cmp d.annotations

-- so do namespaces, and what each of them declares
pub record InOrder (F : tree.Fragment) : Type 0 where
  pub namespaces : IsSortedMap path_cmp F
  pub definitions : AllPass (λ n. DefinitionInOrder n.1) F

-- ---- what is said

-- what is said of a namespace, the places of its annotations aside
pub record Said : Type 0 where
  pub common_types : tree.ByName tree.TypeAt
  pub entity_types : tree.ByName tree.EntityContent
  pub actions : tree.ByName tree.ActionContent
  pub annotations : List (List ℕ × List ℕ)

abbrev pub definition_said : tree.Definition → Said
definition_said d = record {
  common_types = d.common_types;
  entity_types = d.entity_types;
  actions = d.actions;
  annotations = map_values (λ v. v.node) d.annotations;
}

-- what a fragment says, namespace by namespace
abbrev pub said : tree.Fragment → List (Path × Said)
said F = map_values definition_said F

-- ---- meaning

-- the world of the fragment declares what that of the list declares; it is sound where the list is, and then denotes what the list denotes
pub record MeansTogether (L : List Fragment) (F : Fragment) : Type 0 where
  pub declares : DeclareAlike (namespaces_of (fragment_seen F)) (namespaces_of (seen_together L))
  pub sound : (behavior : ActionBehavior) (extensions : List (List ℕ)) → SoundFragment behavior extensions (fragment_seen F) ↔ SoundFragment behavior extensions (seen_together L)
  pub denotes : (behavior : ActionBehavior) (extensions : List (List ℕ)) (S : Schema) → SoundFragment behavior extensions (seen_together L)
      → Denotes (world_of_fragment (fragment_seen F) extensions) S ↔ Denotes (world_of_fragment (seen_together L) extensions) S
