-- SPDX-License-Identifier: Apache-2.0
-- The same of namespaces in another order, and of fragments.
use Rattle.std.proofs.Common.{List}
use Rattle.cedar_definitions.specs.Structures.{definitions_of}
use Rattle.cedar_names.specs.declared.extensions.Extensions.{Extensions}
use Rattle.cedar_phases.specs.Holding.{Definitions, world_of}
use Rattle.cedar_resolving_laws.specs.Reordered.{Reordered, with_namespaces}
use Rattle.cedar_resolving_laws.proofs.Reordering.{flat_reordered, map_reordered}
use Rattle.cedar_resolving_laws.proofs.Spread.{alike_reordered}
use Rattle.cedar_resolving_laws.proofs.WorldsReordered.{denotes_alike, sound_alike}
use Rattle.cedar_phases.specs.of_sound.Sound.{Sound}
use Rattle.cedar_world.specs.DefinitionViews.{namespace_in}
use Rattle.cedar_world.specs.Definitions.{Namespace}
use Rattle.cedar_world.specs.Denotes.{Denotes}
use Rattle.cedar_world.specs.Schemas.{Schema}
use Rattle.cedar_world.specs.Worlds.{World}

module _ (W : World) (all : List Namespace) (r : Reordered W.namespaces all) where
  pub sound_reordered : Sound W → Sound (with_namespaces W all)
  sound_reordered = sound_alike W all (alike_reordered r)

  pub denotes_reordered : (S : Schema) → Sound W → Denotes W S → Denotes (with_namespaces W all) S
  denotes_reordered = denotes_alike W all (alike_reordered r)

module _ (fs gs : List Definitions) (X : Extensions) (r : Reordered fs gs) where
  pub fragments_sound : Sound (world_of fs X) → Sound (world_of gs X)
  fragments_sound = sound_reordered (world_of fs X) (world_of gs X).namespaces (map_reordered namespace_in (flat_reordered definitions_of r))

  pub fragments_denote : (S : Schema) → Sound (world_of fs X) → Denotes (world_of fs X) S → Denotes (world_of gs X) S
  fragments_denote = denotes_reordered (world_of fs X) (world_of gs X).namespaces (map_reordered namespace_in (flat_reordered definitions_of r))
