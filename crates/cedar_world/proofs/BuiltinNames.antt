-- SPDX-License-Identifier: Apache-2.0
-- Names of builtin types, and definitions of common types alone.
use Rattle.std.proofs.Common.{◌≡◌, ◌++◌, List, [], ◌∷◌, map, Some, None, refl}
use Rattle.std.proofs.lemmas.List.{map-append}
use Rattle.cedar_data.specs.Maps.{map_of}
use Rattle.cedar_data.proofs.MapsMade.{map-map_of}
use Rattle.cedar_names.specs.Components.{components, internal_name, qualified}
use Rattle.cedar_names.specs.Identifiers.{id_of, id_word, unreserved_word}
use Rattle.cedar_names.specs.Names.{internal_cmp}
use Rattle.cedar_names.specs.Order.{words_cmp}
use Rattle.cedar_names.specs.declared.id.UnreservedId.{UnreservedId}
use Rattle.cedar_names.specs.declared.internal_name.InternalName.{InternalName}
use Rattle.cedar_written.specs.declared.conditional_name.ConditionalName.{ConditionalName}
use Rattle.cedar_written.specs.declared.ty.SchemaType.{SchemaType}
use Rattle.cedar_meaning.specs.DefinitionViews.{common_type_in, type_in}

-- an identifier in a namespace has the components of the namespace, and then its word
pub named_within : (id : UnreservedId) (ns : InternalName) → components (qualified (internal_name (id_of id) [] None) (Some ns)) ≡ components ns ++ unreserved_word id ∷ []
named_within id ns = map-append id_word (ns.namespace ++ ns.basename ∷ []) (id_of id ∷ [])

-- common types by their names are those by the words of their names
pub common_types_made : (pairs : List (InternalName × SchemaType ConditionalName)) → map common_type_in (map_of internal_cmp pairs) ≡ map_of words_cmp (map common_type_in pairs)
common_types_made pairs = map-map_of internal_cmp words_cmp components type_in (λ a b. refl) pairs

pub ruleset names_within = (named_within)

pub ruleset of_types = (common_types_made)
