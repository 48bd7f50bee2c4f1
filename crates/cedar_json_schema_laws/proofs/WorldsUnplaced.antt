-- SPDX-License-Identifier: Apache-2.0
-- A fragment without its places denotes the same world.
use Rattle.std.proofs.Common.{◌≡◌, ℕ, List, [], ◌∷◌, Option, Some, None, map, option_map, refl, ap, ◌∙◌}
use Rattle.cedar_names.specs.declared.name.Name.{Name}
use Rattle.cedar_written.specs.declared.raw_name.RawName.{RawName}
use Rattle.cedar_fragment.specs.ActionUids.{over_raw}
use Rattle.cedar_fragment.specs.declared.definitions.Fragment.{Fragment}
use Rattle.cedar_fragment.specs.declared.definitions.NamespaceDefinition.{NamespaceDefinition}
use Rattle.cedar_schema_error.specs.FullNames.{FullName}
use Rattle.cedar_convert_fragment.specs.Views.{definition_seen, fragment_seen, namespace_words, namespaces_seen}
use Rattle.cedar_fragment_world.specs.FragmentWorlds.{namespace_of, namespaces_of, world_of_fragment}
use Rattle.cedar_json_written_laws.specs.Unplaced.{fragment_unplaced, namespace_unplaced, path_unplaced}
use Rattle.cedar_json_schema_laws.proofs.DeclarationsUnplaced.{actions_alike, commons_alike, entities_alike}

-- what a namespace of this name declares
definition_alike : (ns : Option FullName) (n : NamespaceDefinition RawName over_raw) → namespace_of (ns, definition_seen (namespace_unplaced n)) ≡ namespace_of (ns, definition_seen n)
definition_alike ns n = λ i. record {
  common_types = commons_alike ns n.common_types i;
  entity_types = entities_alike ns n.entity_types i;
  actions = actions_alike ns n.actions i;
}

-- the words of the name of a namespace
pub words_alike : (name : Option Name) → namespace_words (option_map path_unplaced name) ≡ namespace_words name
words_alike None = refl
words_alike (Some name) = refl

-- namespaces, each with its name
namespaces_alike : (es : List (Option Name × NamespaceDefinition RawName over_raw))
    → namespaces_of (namespaces_seen (map (λ e. (option_map path_unplaced e.0, namespace_unplaced e.1)) es)) ≡ namespaces_of (namespaces_seen es)
namespaces_alike [] = refl
namespaces_alike (e ∷ es) =
    λ i. (ap (λ ns. namespace_of (ns, definition_seen (namespace_unplaced e.1))) (words_alike e.0) ∙ definition_alike (namespace_words e.0) e.1) i ∷ namespaces_alike es i

pub world_alike : (F : Fragment RawName over_raw) (extensions : List (List ℕ)) → world_of_fragment (fragment_seen (fragment_unplaced F)) extensions ≡ world_of_fragment (fragment_seen F) extensions
world_alike F extensions = λ i. record { namespaces = namespaces_alike F.0 i; extensions = extensions }
