-- SPDX-License-Identifier: Apache-2.0
-- Where fragments and texts declare their entity types and their actions.
use Rattle.std.specs.Prelude.{ℕ, List, Option, map}
use Rattle.std.specs.List.{flat_map}
use Rattle.cedar_fragment_world.specs.FragmentWorlds.{action_uid, full_name}
use Rattle.cedar_fragment_world.specs.of_convert_fragment.Fragments.{Definition, Fragment}
use Rattle.cedar_phases.specs.Places.{IsPlaced, Places}
use Rattle.cedar_phases.specs.of_resolved.declared.schema.ValidatorSchema.{ValidatorSchema}
use Rattle.cedar_schema_error.specs.FullNames.{FullName, Uid}
use Rattle.cedar_schema_errors.specs.of_convert_text.Texts.{DeclaresText}
use Rattle.cedar_schema_errors.specs.of_convert_warnings.declared.warnings.SchemaWarning.{SchemaWarning}
use Rattle.cedar_text.specs.declared.location.Loc.{Loc}

-- the places of what a namespace of this name declares, under full names
abbrev pub entity_places : Option FullName × Definition → List (FullName × Option Loc)
entity_places n = map (λ e. (full_name n.0 e.0, e.1.loc)) n.1.entity_types

abbrev pub action_places : Option FullName × Definition → List (Uid × Option Loc)
action_places n = map (λ a. (action_uid n.0 a.0, a.1.loc)) n.1.actions

-- the places of what a fragment declares
abbrev pub places_of : Fragment → Places
places_of F = record { entity_types = flat_map entity_places F; actions = flat_map action_places F }

-- each entity type and each action of a schema has the place of its declaration in a text
pub record IsPlacedBy (text : List ℕ) (extensions : List (List ℕ)) (S : ValidatorSchema) : Type 0 where
  pub fragment : Fragment
  pub warnings : List SchemaWarning
  pub declares : DeclaresText text extensions fragment warnings
  pub placed : IsPlaced (places_of fragment) S
