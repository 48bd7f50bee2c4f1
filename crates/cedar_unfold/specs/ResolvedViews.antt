-- SPDX-License-Identifier: Apache-2.0
-- What a resolved type is without the places of its names.
use Rattle.std.specs.Prelude.{ℕ, Bool, true, false, List, [], ◌∷◌}
use Rattle.cedar_names.specs.Names.{entity_words, name_words}
use Rattle.cedar_data.specs.Maps.{map_values}
use Rattle.cedar_types.specs.Types.{LayerOf, fold_type, fold_attribute}
use Rattle.cedar_types.specs.declared.ty.AttributeType.{AttributeType}
use Rattle.cedar_types.specs.declared.ty.OpenTag.{OpenTag}
use Rattle.cedar_types.specs.declared.ty.OpenTag.TheVariants.{OpenAttributes, ClosedAttributes}
use Rattle.cedar_types.specs.declared.ty.ResolvedType.{ResolvedType}
use Rattle.cedar_types.specs.declared.ty.TypeNode.TheOpen as layers
use Rattle.cedar_unfolding.specs.Resolved.{Resolved, ResolvedAttributes, Boolean, Long, String, Extension, Set, Record, Entity, no_attributes, attribute}

-- attributes by name, each with whether it is required and its type
abbrev pub resolved_attributes : List (List ℕ × (Bool × Resolved)) → ResolvedAttributes
resolved_attributes [] = no_attributes
resolved_attributes (e ∷ es) = attribute e.0 e.1.0 e.1.1 (resolved_attributes es)

-- whether a record may have other attributes
abbrev pub is_open : OpenTag → Bool
is_open OpenAttributes = true
is_open ClosedAttributes = false

abbrev pub layer_view : LayerOf Resolved (Bool × Resolved) → Resolved
layer_view layers.Bool = Boolean
layer_view layers.Long = Long
layer_view layers.String = String
layer_view (layers.Set element) = Set element
layer_view (layers.Record attributes tag) = Record (resolved_attributes attributes) (is_open tag)
layer_view (layers.Entity ty) = Entity (entity_words ty)
layer_view (layers.Extension name) = Extension (name_words name)

-- the plain tree that a resolved type is
abbrev pub resolved : ResolvedType → Resolved
resolved = fold_type layer_view (λ ty required. (required, ty))

-- the same of an attribute
abbrev pub resolved_attribute : AttributeType → Bool × Resolved
resolved_attribute = fold_attribute layer_view (λ ty required. (required, ty))

-- the same of attributes by name
abbrev pub resolved_map : List (List ℕ × AttributeType) → ResolvedAttributes
resolved_map es = resolved_attributes (map_values resolved_attribute es)
