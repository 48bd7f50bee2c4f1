-- SPDX-License-Identifier: Apache-2.0
-- The equations of definitions by recursion over types.
use Rattle.std.proofs.Common.{◌≡◌, ℕ, Bool, List, refl, ap, ◌∙◌}
use Rattle.cedar_closure.specs.of_data.Maps.{map_values}
use Rattle.cedar_types.specs.declared.ty.AttributeType.{AttributeType, fold_out-AttributeType}
use Rattle.cedar_types.specs.declared.ty.Attributes.{Attributes, fold_out-Attributes}
use Rattle.cedar_types.specs.declared.ty.ResolvedType.{ResolvedType, fold_out-ResolvedType}
use Rattle.cedar_types.specs.declared.ty.TypeNode.{TypeNode, fold-TypeNode, fold_out-TypeNode, map-TypeNode}
use Rattle.cedar_types.specs.declared.ty.TypeNode.TheOpen as layers
use Rattle.cedar_types.specs.Types.{Layer, LayerOf, layer, entries, fold_type, fold_attribute, fold_attributes}

module _ {A B : Type 0} (of_layer : LayerOf A B → A) (of_attribute : A → Bool → B) where
  abbrev type : ResolvedType → A
  type = fold_type of_layer of_attribute

  abbrev attribute : AttributeType → B
  attribute = fold_attribute of_layer of_attribute

  -- a layer with what the definition gives in place of its parts
  abbrev pub layer_of : Layer → LayerOf A B
  layer_of layers.Bool = layers.Bool
  layer_of layers.Long = layers.Long
  layer_of layers.String = layers.String
  layer_of (layers.Set element) = layers.Set (type element)
  layer_of (layers.Record attributes tag) = layers.Record (fold_attributes of_layer of_attribute attributes) tag
  layer_of (layers.Entity entity) = layers.Entity entity
  layer_of (layers.Extension name) = layers.Extension name

  abbrev node : TypeNode → A
  node = fold-TypeNode A B (List (List ℕ × B)) A of_layer (λ a. of_attribute a.attr_type a.is_required) (λ attributes. attributes.map) (λ t. t.node)

  mapped : (l : Layer) → map-TypeNode TypeNode AttributeType Attributes ResolvedType A B (List (List ℕ × B)) A node attribute (fold_attributes of_layer of_attribute) type l ≡ layer_of l
  mapped layers.Bool = refl
  mapped layers.Long = refl
  mapped layers.String = refl
  mapped (layers.Set element) = refl
  mapped (layers.Record attributes tag) = refl
  mapped (layers.Entity entity) = refl
  mapped (layers.Extension name) = refl

  -- of a type
  pub fold_type-layer : (t : ResolvedType) (l : Layer) → layer t ≡ l → fold_type of_layer of_attribute t ≡ of_layer (layer_of l)
  fold_type-layer t l is =
      fold_out-ResolvedType A B (List (List ℕ × B)) A of_layer (λ a. of_attribute a.attr_type a.is_required) (λ attributes. attributes.map) (λ t. t.node) t
      ∙ fold_out-TypeNode A B (List (List ℕ × B)) A of_layer (λ a. of_attribute a.attr_type a.is_required) (λ attributes. attributes.map) (λ t. t.node) t.node
      ∙ ap of_layer (mapped (layer t) ∙ ap layer_of is)

  -- of an attribute
  pub fold_attribute-parts : (a : AttributeType) → fold_attribute of_layer of_attribute a ≡ of_attribute (fold_type of_layer of_attribute a.attr_type) a.is_required
  fold_attribute-parts a = fold_out-AttributeType A B (List (List ℕ × B)) A of_layer (λ a. of_attribute a.attr_type a.is_required) (λ attributes. attributes.map) (λ t. t.node) a

  -- of attributes
  pub fold_attributes-entries : (attributes : Attributes) → fold_attributes of_layer of_attribute attributes ≡ map_values (fold_attribute of_layer of_attribute) (entries attributes)
  fold_attributes-entries attributes = fold_out-Attributes A B (List (List ℕ × B)) A of_layer (λ a. of_attribute a.attr_type a.is_required) (λ attributes. attributes.map) (λ t. t.node) attributes
