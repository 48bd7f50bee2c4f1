-- SPDX-License-Identifier: Apache-2.0
-- Resolved types: what the constructors make, a type seen as one layer, and definitions by recursion.
use Rattle.std.specs.Prelude.{ℕ, Bool, true, List}
use Rattle.cedar_closure.specs.of_names.declared.name.EntityType.{EntityType}
use Rattle.cedar_closure.specs.of_names.declared.name.Name.{Name}
use Rattle.cedar_types.specs.declared.ty.AttributeType.{AttributeType, fold-AttributeType}
use Rattle.cedar_types.specs.declared.ty.Attributes.{Attributes, out-Attributes, roll-Attributes, fold-Attributes}
use Rattle.cedar_types.specs.declared.ty.OpenTag.{OpenTag}
use Rattle.cedar_types.specs.declared.ty.ResolvedType.{ResolvedType, fold-ResolvedType}
use Rattle.cedar_types.specs.declared.ty.TypeNode.{TypeNode, out-TypeNode}
use Rattle.cedar_types.specs.declared.ty.TypeNode.TheVariants as made
use Rattle.cedar_types.specs.declared.ty.TypeNode.TheOpen as layers
use Rattle.cedar_types.specs.declared.ty.TypeNode.TheOpen.{TypeNode-F}
use Rattle.cedar_types.specs.declared.ty.TypeView.{TypeView}
use Rattle.cedar_types.specs.declared.ty.TypeView.TheVariants as seen

-- the primitive types
abbrev pub bool_type : ResolvedType
bool_type = record { node = made.Bool }

abbrev pub long_type : ResolvedType
long_type = record { node = made.Long }

abbrev pub string_type : ResolvedType
string_type = record { node = made.String }

-- sets of t
abbrev pub set_type : ResolvedType → ResolvedType
set_type element = record { node = made.Set element }

-- records of the attributes, with or without others
abbrev pub record_type : Attributes → OpenTag → ResolvedType
record_type attributes tag = record { node = made.Record attributes tag }

-- the entities of a type
abbrev pub entity_type : EntityType → ResolvedType
entity_type entity = record { node = made.Entity entity }

-- an extension type
abbrev pub extension_type : Name → ResolvedType
extension_type name = record { node = made.Extension name }

-- the attributes by name, in the order of the names
abbrev pub entries : Attributes → List (List ℕ × AttributeType)
entries attributes = (out-Attributes attributes).map

-- the attributes with the given entries
abbrev pub attributes_of : List (List ℕ × AttributeType) → Attributes
attributes_of es = roll-Attributes (record { map = es })

-- a type as an attribute that is always there
abbrev pub required : ResolvedType → AttributeType
required t = record { attr_type = t; is_required = true }

-- one layer of a type, whose parts are types and attributes
abbrev pub Layer : Type 0
Layer = TypeNode-F TypeNode AttributeType Attributes ResolvedType

-- the outermost layer
abbrev pub layer : ResolvedType → Layer
layer t = out-TypeNode t.node

-- the layer that a view lends
abbrev pub lent : TypeView → Layer
lent seen.Bool = layers.Bool
lent seen.Long = layers.Long
lent seen.String = layers.String
lent (seen.Set element) = layers.Set element.now
lent (seen.Record attributes tag) = layers.Record attributes.now tag
lent (seen.Entity entity) = layers.Entity entity.now
lent (seen.Extension name) = layers.Extension name.now

-- one layer of a type in a definition by recursion, with what it gives in place of the parts: A for a type, B for an attribute
abbrev pub LayerOf : Type 0 → Type 0 → Type 0
LayerOf A B = TypeNode-F A B (List (List ℕ × B)) A

module _ {A B : Type 0} (of_layer : LayerOf A B → A) (of_attribute : A → Bool → B) where
  -- a definition by recursion over types: of_layer says what a type gives, and of_attribute what an attribute gives, from what their parts give
  abbrev pub fold_type : ResolvedType → A
  fold_type = fold-ResolvedType A B (List (List ℕ × B)) A of_layer (λ a. of_attribute a.attr_type a.is_required) (λ attributes. attributes.map) (λ t. t.node)

  -- the same of an attribute
  abbrev pub fold_attribute : AttributeType → B
  fold_attribute = fold-AttributeType A B (List (List ℕ × B)) A of_layer (λ a. of_attribute a.attr_type a.is_required) (λ attributes. attributes.map) (λ t. t.node)

  -- the same of each of the attributes, by name
  abbrev pub fold_attributes : Attributes → List (List ℕ × B)
  fold_attributes = fold-Attributes A B (List (List ℕ × B)) A of_layer (λ a. of_attribute a.attr_type a.is_required) (λ attributes. attributes.map) (λ t. t.node)
