-- SPDX-License-Identifier: Apache-2.0
-- Tables of definitions are those of the world that they are of.
use Rattle.std.proofs.Common.{◌≡◌, List, map, ap, ◌∙◌}
use Rattle.cedar_declared.specs.declared.all_defs.AllDefs.{AllDefs}
use Rattle.cedar_names.specs.declared.extensions.Extensions.{Extensions}
use Rattle.cedar_phases.specs.Holding.{AreTables, Definition, Holds}
use Rattle.cedar_hierarchy.specs.of_outlines.Outlines.{action_outline, action_outline_in, entity_outline, entity_outline_in, use_in}
use Rattle.cedar_hierarchy.specs.of_outlines.declared.outlines.Tables.{Tables}
use Rattle.cedar_qualified.specs.of_world.DefinitionViews.{common_type_in, namespace_in}
use Rattle.cedar_qualified.specs.of_world.Worlds.{World, actions_in, all_namespaces, common_types_in, entity_types_in, uses_in}

-- the tables of these definitions, which are those that are held
pub tables_held : (W : World) (all_defs : AllDefs) (ds : List Definition) (X : Extensions) → Holds W all_defs ds X → (given : List Definition) → given ≡ ds → (t : Tables)
    → map common_type_in t.common_types ≡ common_types_in (map namespace_in given) → map use_in t.uses ≡ uses_in (map namespace_in given)
    → map entity_outline_in t.entity_types ≡ map entity_outline (entity_types_in (map namespace_in given)) → map action_outline_in t.actions ≡ map action_outline (actions_in (map namespace_in given)) → AreTables W t
tables_held W all_defs ds X h given same t commons used types acts =
    let all : map namespace_in given ≡ all_namespaces W = ap (map namespace_in) same ∙ h.namespaces_are in
    record {
      common_types_are = commons ∙ ap common_types_in all;
      uses_are = used ∙ ap uses_in all;
      entity_types_are = types ∙ ap (λ ns. map entity_outline (entity_types_in ns)) all;
      actions_are = acts ∙ ap (λ ns. map action_outline (actions_in ns)) all;
    }
