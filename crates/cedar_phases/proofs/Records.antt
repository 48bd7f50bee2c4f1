-- SPDX-License-Identifier: Apache-2.0
-- A resolved type that is a record has the attributes of its outermost layer.
use Rattle.std.proofs.Common.{◌≡◌, Bool, false, IsTrue, refl, ap, ◌∙◌}
use Rattle.cedar_hierarchy.specs.Uses.{record_of}
use Rattle.cedar_types.proofs.Folds.{fold_attributes-entries, fold_type-layer}
use Rattle.cedar_types.specs.Types.{Layer, entries, layer}
use Rattle.cedar_types.specs.declared.ty.ResolvedType.{ResolvedType}
use Rattle.cedar_types.specs.declared.ty.TypeNode.TheOpen as layers
use Rattle.cedar_unfold.specs.Resolved.{Resolved, Record, is_record}
use Rattle.cedar_unfold.specs.ResolvedViews.{is_open, layer_view, resolved, resolved_attributes, resolved_map}

abbrev marked : Resolved → Bool → Bool × Resolved
marked ty required = (required, ty)

no : (t : Resolved) (is : Bool) → is_record t ≡ is → is ≡ false → IsTrue (is_record t) → ⊥
no t is a b c = absurd (cc)

by_layer : (t : ResolvedType) (l : Layer) → layer t ≡ l → IsTrue (is_record (resolved t)) → resolved t ≡ Record (resolved_map (entries (record_of l).0)) (is_open (record_of l).1)
by_layer t (layers.Record attributes tag) is r =
    fold_type-layer layer_view marked t (layers.Record attributes tag) is
    ∙ ap (λ m. Record (resolved_attributes m) (is_open tag)) (fold_attributes-entries layer_view marked attributes)
by_layer t layers.Bool is r = absurd (no (resolved t) false (ap is_record (fold_type-layer layer_view marked t layers.Bool is)) refl r)
by_layer t layers.Long is r = absurd (no (resolved t) false (ap is_record (fold_type-layer layer_view marked t layers.Long is)) refl r)
by_layer t layers.String is r = absurd (no (resolved t) false (ap is_record (fold_type-layer layer_view marked t layers.String is)) refl r)
by_layer t (layers.Set e) is r = absurd (no (resolved t) false (ap is_record (fold_type-layer layer_view marked t (layers.Set e) is)) refl r)
by_layer t (layers.Entity e) is r = absurd (no (resolved t) false (ap is_record (fold_type-layer layer_view marked t (layers.Entity e) is)) refl r)
by_layer t (layers.Extension n) is r = absurd (no (resolved t) false (ap is_record (fold_type-layer layer_view marked t (layers.Extension n) is)) refl r)

-- a record
pub record_view : (t : ResolvedType) → IsTrue (is_record (resolved t)) → resolved t ≡ Record (resolved_map (entries (record_of (layer t)).0)) (is_open (record_of (layer t)).1)
record_view t = by_layer t (layer t) refl
