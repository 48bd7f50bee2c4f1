-- SPDX-License-Identifier: Apache-2.0
-- The plain tree of a type, by its outermost layer.
use Rattle.std.proofs.Common.{◌≡◌, Bool, sym, ap, ◌∙◌}
use Rattle.cedar_types.proofs.Folds.{layer_of, fold_type-layer, fold_attributes-entries}
use Rattle.cedar_types.specs.Types.{Layer, entries, layer}
use Rattle.cedar_types.specs.declared.ty.Attributes.{Attributes}
use Rattle.cedar_types.specs.declared.ty.OpenTag.{OpenTag}
use Rattle.cedar_types.specs.declared.ty.ResolvedType.{ResolvedType}
use Rattle.cedar_types.specs.declared.ty.TypeNode.TheOpen as layers
use Rattle.cedar_unfold.specs.Resolved.{Resolved, Record}
use Rattle.cedar_unfold.specs.ResolvedViews.{is_open, layer_view, resolved, resolved_attributes, resolved_map}

abbrev marked : Resolved → Bool → Bool × Resolved
marked ty required = (required, ty)

pub resolved-layer : (ty : ResolvedType) (l : Layer) → l ≡ layer ty → resolved ty ≡ layer_view (layer_of layer_view marked l)
resolved-layer ty l is = fold_type-layer layer_view marked ty l (sym is)

pub resolved-rows : (ty : ResolvedType) (attributes : Attributes) (tag : OpenTag) → layers.Record attributes tag ≡ layer ty → resolved ty ≡ Record (resolved_map (entries attributes)) (is_open tag)
resolved-rows ty attributes tag is =
    resolved-layer ty (layers.Record attributes tag) is ∙ ap (λ m. Record (resolved_attributes m) (is_open tag)) (fold_attributes-entries layer_view marked attributes)
