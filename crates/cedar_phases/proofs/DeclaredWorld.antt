-- SPDX-License-Identifier: Apache-2.0
-- From gathered definitions to what is held of a world.
use Rattle.std.proofs.Common.{◌≡◌, ◌++◌, List, map, refl, sym, ap, ◌∙◌, subst}
use Rattle.std.specs.List.{flat_map}
use Rattle.cedar_data.specs.Firsts.{AllPass, FirstRefused}
use Rattle.cedar_declared.proofs.Gains.{gathers_more}
use Rattle.cedar_declared.specs.Gathering.{declared_names, with_fragment}
use Rattle.cedar_declared.specs.Held.{names_of}
use Rattle.cedar_declared.specs.Names.{SameNames}
use Rattle.cedar_declared.specs.declared.all_defs.AllDefs.{AllDefs}
use Rattle.cedar_declared.specs.of_definitions.Structures.{definitions_of}
use Rattle.cedar_names.specs.Extensions.{extension_words}
use Rattle.cedar_names.specs.declared.extensions.Extensions.{Extensions}
use Rattle.cedar_phases.specs.Holding.{Definitions, Holds, world_of}
use Rattle.cedar_phases.proofs.Agreeing.{same_builtins, shadows_pass, shadows_refuse}
use Rattle.cedar_qualified.specs.Agreeing.{AgreeingNames}
use Rattle.cedar_qualified.proofs.AgreedNames.{names_agree}
use Rattle.cedar_schema_error.specs.Told.{told}
use Rattle.cedar_schema_error.specs.declared.schema_error.SchemaError.{SchemaError}
use Rattle.cedar_sound.specs.of_shadowing.Shadowing.{ShadowPasses, ShadowRefuses, shadow_phases}
use Rattle.cedar_sound.specs.Sound.{Passes, RefusesAt, Shadowing}
use Rattle.cedar_text.proofs.Members.{map-append}
use Rattle.cedar_qualified.specs.of_world.DefinitionViews.{namespace_in}
use Rattle.cedar_qualified.specs.of_world.Worlds.{World, all_namespaces, builtin_namespaces, names_in, own}

module _ (fragments : List Definitions) (extensions : Extensions) (own_defs : AllDefs) (gathered : SameNames (names_of own_defs) (declared_names (flat_map definitions_of fragments))) where
  abbrev W : World
  W = world_of fragments extensions

  -- the names of the fragments
  own_agree : AgreeingNames (names_of own_defs) (own W)
  own_agree = names_agree own_defs (flat_map definitions_of fragments) gathered

  pub shadowing_passes : AllPass (ShadowPasses (names_of own_defs)) shadow_phases → Passes W Shadowing
  shadowing_passes = shadows_pass (names_of own_defs) (own W) own_agree

  pub shadowing_refuses : (e : SchemaError) → FirstRefused (ShadowPasses (names_of own_defs)) (ShadowRefuses (names_of own_defs)) shadow_phases (told e) → RefusesAt W Shadowing (told e)
  shadowing_refuses e = shadows_refuse (names_of own_defs) (own W) own_agree (told e)

  -- all definitions, and the names of all
  pub holds : (builtins all : Definitions) (all_defs : AllDefs) → map namespace_in (definitions_of builtins) ≡ builtin_namespaces (names_of own_defs) (extension_words extensions)
      → definitions_of all ≡ flat_map definitions_of fragments ++ definitions_of builtins → all_defs ≡ with_fragment own_defs builtins → Holds W all_defs (definitions_of all) extensions
  holds builtins all all_defs built joined extended = record {
    names_agree = subst (λ ns. AgreeingNames (names_of all_defs) (names_in ns)) whole (names_agree all_defs (definitions_of all) same);
    namespaces_are = whole;
    extensions_are = refl;
  }
    where
      same : SameNames (names_of all_defs) (declared_names (definitions_of all))
      same = subst (λ ds. SameNames (names_of all_defs) (declared_names ds)) (sym joined) (gathers_more own_defs all_defs (flat_map definitions_of fragments) builtins gathered extended)

      whole : map namespace_in (definitions_of all) ≡ all_namespaces W
      whole =
          ap (map namespace_in) joined
          ∙ map-append namespace_in (flat_map definitions_of fragments) (definitions_of builtins)
          ∙ ap (λ ns. map namespace_in (flat_map definitions_of fragments) ++ ns) (built ∙ same_builtins (names_of own_defs) (own W) own_agree (extension_words extensions))
