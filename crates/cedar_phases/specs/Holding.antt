-- SPDX-License-Identifier: Apache-2.0
-- The world of fragments, and what the code holds of it.
use Rattle.std.specs.Prelude.{◌≡◌, List, [], ◌∷◌, map}
use Rattle.std.specs.List.{AllZip, flat_map}
use Rattle.cedar_declared.specs.Held.{names_of}
use Rattle.cedar_declared.specs.declared.all_defs.AllDefs.{AllDefs}
use Rattle.cedar_declared.specs.of_definitions.Structures.{definitions_of}
use Rattle.cedar_declared.specs.of_definitions.declared.structures.ValidatorNamespaceDef.{ValidatorNamespaceDef}
use Rattle.cedar_declared.specs.of_definitions.declared.structures.ValidatorSchemaFragment.{ValidatorSchemaFragment}
use Rattle.cedar_fragment.specs.ActionUids.{over_conditional}
use Rattle.cedar_names.specs.Extensions.{extension_words}
use Rattle.cedar_names.specs.declared.extensions.Extensions.{Extensions}
use Rattle.cedar_qualified.specs.Agreeing.{AgreeingNames}
use Rattle.cedar_qualified.specs.of_world.DefinitionViews.{namespace_in}
use Rattle.cedar_data.specs.Firsts.{AllPass, FirstRefused}
use Rattle.cedar_schema_error.specs.NameReferences.{NameReference}
use Rattle.cedar_schema_error.specs.Refusals.{Refusal}
use Rattle.cedar_schema_error.specs.Refusals as refusal
use Rattle.cedar_unfold.specs.Written.{Written}
use Rattle.cedar_sound.specs.Sound.{ActionCycles, Duplicates, Passes, Phase, References, RefusesAt, UndeclaredTypes, Unfolding}
use Rattle.cedar_hierarchy.specs.of_outlines.Outlines.{action_outline, action_outline_in, entity_outline, entity_outline_in, use_in}
use Rattle.cedar_hierarchy.specs.of_outlines.declared.outlines.Tables.{Tables}
use Rattle.cedar_names.specs.Components.{components}
use Rattle.cedar_names.specs.declared.entity_uid.EntityUID.{EntityUID}
use Rattle.cedar_names.specs.declared.internal_name.InternalName.{InternalName}
use Rattle.cedar_names.specs.declared.name.EntityType.{EntityType}
use Rattle.cedar_schema_error.specs.declared.use_place.UsePlace as code
use Rattle.cedar_hierarchy.specs.of_outlines.declared.outlines.ActionOutline.{ActionOutline}
use Rattle.cedar_hierarchy.specs.of_outlines.declared.outlines.EntityOutline.{EntityOutline}
use Rattle.cedar_types.specs.declared.ty.ResolvedType.{ResolvedType}
use Rattle.cedar_unfold.specs.Full.{by_place}
use Rattle.cedar_unfold.specs.ResolvedViews.{resolved}
use Rattle.cedar_unfold.specs.Tables.{by_name}
use Rattle.cedar_unfold.specs.UnfoldPhases.{UnfoldsAt}
use Rattle.cedar_unfold.specs.WrittenViews.{written_type}
use Rattle.cedar_qualified.specs.of_world.DefinitionViews.{common_type_in}
use Rattle.cedar_qualified.specs.of_world.Qualified.{QualifiesJob}
use Rattle.cedar_written.specs.declared.ty.SchemaType.{SchemaType}
use Rattle.cedar_qualified.specs.of_world.Worlds.{World, actions, all_namespaces, common_types, entity_types, job, names, uses}
use Rattle.cedar_written.specs.declared.conditional_name.ConditionalName.{ConditionalName}

-- definitions whose references carry the names that they may stand for
abbrev pub Definition : Type 0
Definition = ValidatorNamespaceDef ConditionalName ConditionalName over_conditional

abbrev pub Definitions : Type 0
Definitions = ValidatorSchemaFragment ConditionalName ConditionalName over_conditional

-- the world of fragments, with these extension types
abbrev pub world_of : List Definitions → Extensions → World
world_of fragments extensions = record { namespaces = map namespace_in (flat_map definitions_of fragments); extensions = extension_words extensions }

-- all names and all definitions of a world, and the words of its extension types
pub record Holds (W : World) (all_defs : AllDefs) (definitions : List Definition) (extensions : Extensions) : Type 0 where
  pub names_agree : AgreeingNames (names_of all_defs) (names W)
  pub namespaces_are : map namespace_in definitions ≡ all_namespaces W
  pub extensions_are : extension_words extensions ≡ W.extensions

-- what a world declares, taken apart
pub record AreTables (W : World) (t : Tables) : Type 0 where
  pub common_types_are : map common_type_in t.common_types ≡ common_types W
  pub uses_are : map use_in t.uses ≡ uses W
  pub entity_types_are : map entity_outline_in t.entity_types ≡ map entity_outline (entity_types W)
  pub actions_are : map action_outline_in t.actions ≡ map action_outline (actions W)

-- what is held where the types are to be unfolded: each reference has a target
pub record HoldsTypes (W : World) (all_defs : AllDefs) (extensions : Extensions) (commons : List (InternalName × SchemaType ConditionalName)) (used : List (code.UsePlace × SchemaType ConditionalName)) : Type 0 where
  pub definitions : List Definition
  pub holds : Holds W all_defs definitions extensions
  pub common_types_are : map common_type_in commons ≡ common_types W
  pub uses_are : map use_in used ≡ uses W
  pub references : Passes W References

-- what is held once they are
pub record HoldsUnfolded (W : World) (all_defs : AllDefs) (full : List (InternalName × SchemaType InternalName)) (full_uses : List (code.UsePlace × SchemaType InternalName)) (used : List (code.UsePlace × ResolvedType))
    (types : List (EntityType × EntityOutline)) (acts : List (EntityUID × ActionOutline)) : Type 0 where
  pub definitions : List Definition
  pub extensions : Extensions
  pub holds : Holds W all_defs definitions extensions
  pub qualifies : QualifiesJob (job W) (by_name (written_type components) full) (by_place (written_type components) full_uses)
  pub unfolded : AllZip (UnfoldsAt (job W)) (uses W) (by_place resolved used)
  pub entity_types_are : map entity_outline_in types ≡ map entity_outline (entity_types W)
  pub actions_are : map action_outline_in acts ≡ map action_outline (actions W)
  pub references : Passes W References
  pub unfolding_passes : Passes W Unfolding

-- the phases on references and on names, and those after them
abbrev pub early_phases : List Phase
early_phases = References ∷ Duplicates ∷ []

abbrev pub last_phases : List Phase
last_phases = ActionCycles ∷ UndeclaredTypes ∷ []

abbrev pub later_phases : List Phase
later_phases = Unfolding ∷ last_phases

module _ (W : World) where
  -- these phases pass
  abbrev pub AllPassed : List Phase → Type 0
  AllPassed ps = AllPass (Passes W) ps

  -- one of these phases refuses, and those before it pass
  abbrev pub OneRefuses : List Phase → Refusal → Type 0
  OneRefuses ps e = FirstRefused (Passes W) (RefusesAt W) ps e

-- the uses of types of a world
abbrev pub uses_of : World → List (refusal.UsePlace × Written NameReference)
uses_of W = uses W
