-- SPDX-License-Identifier: Apache-2.0
-- The text of a type is that of the plain tree that it is.
use Rattle.std.proofs.Common.{◌≡◌, ℕ, Bool, List, [], ◌∷◌, map, refl, sym, ap, ◌∙◌, subst, codes}
use Rattle.cedar_data.specs.Firsts.{AllPass}
use Rattle.cedar_data.specs.Maps.{map_values}
use Rattle.cedar_streams.specs.Texts.{◌+++◌}
use Rattle.cedar_types.proofs.Entries.{entries-attributes_of}
use Rattle.cedar_types.proofs.Folds.{layer_of, fold_type-layer, fold_attribute-parts, fold_attributes-entries}
use Rattle.cedar_types.specs.Types.{Layer, entries, layer}
use Rattle.cedar_types.specs.declared.ty.AttributeType.{AttributeType}
use Rattle.cedar_types.specs.declared.ty.Attributes.{Attributes, roll-Attributes}
use Rattle.cedar_types.specs.declared.ty.ResolvedType.{ResolvedType, ind-ResolvedType}
use Rattle.cedar_types.specs.declared.ty.TypeNode.{TypeNode, roll-TypeNode, map-TypeNode, out-roll-TypeNode}
use Rattle.cedar_types.specs.declared.ty.TypeNode.TheOpen as layers
use Rattle.cedar_types.specs.declared.ty.TypeNode.TheOpen.{TypeNode-F}
use Rattle.cedar_unfold.specs.Resolved.{Resolved, attribute}
use Rattle.cedar_unfold.specs.ResolvedViews.{layer_view, resolved, resolved_attribute, resolved_attributes, resolved_map}
use Rattle.cedar_unfold.proofs.ResolvedTypes.{resolved-attribute}
use Rattle.cedar_listing.specs.Listing.{attributes_text, behind_name, layer_text, rows_text, type_text}
use Rattle.cedar_listing.specs.Rows.{attribute_text}
use Rattle.cedar_listing_laws.specs.PlainListing.{plain_rows, plain_type_text}

abbrev marked : Resolved → Bool → Bool × Resolved
marked ty required = (required, ty)

-- the text of a type is that of its tree
abbrev IsPlain : ResolvedType → Type 0
IsPlain t = type_text t ≡ plain_type_text (resolved t)

abbrev ArePlain : List (List ℕ × AttributeType) → Type 0
ArePlain es = AllPass (λ e. IsPlain e.1.attr_type) es

-- the rows of attributes whose types are so
rows_plain : (es : List (List ℕ × AttributeType)) → ArePlain es → map_values attribute_text es ≡ plain_rows (resolved_map es)
rows_plain [] plain = refl
rows_plain (e ∷ es) plain =
    let text : attribute_text e.1 ≡ behind_name (type_text e.1.attr_type) e.1.is_required = fold_attribute-parts layer_text behind_name e.1 in
    let seen : resolved_attribute e.1 ≡ (e.1.is_required, resolved e.1.attr_type) = resolved-attribute e.1 in
    ap (λ (t : List ℕ). (e.0, t) ∷ map_values attribute_text es) (text ∙ ap (λ t. behind_name t e.1.is_required) plain.0)
    ∙ ap (λ rows. (e.0, behind_name (plain_type_text (resolved e.1.attr_type)) e.1.is_required) ∷ rows) (rows_plain es plain.1)
    ∙ ap (λ (a : Bool × Resolved). plain_rows (attribute e.0 a.0 a.1 (resolved_map es))) (sym seen)

-- a type by its outermost layer
by_layer : (t : ResolvedType) (l : Layer) → layer t ≡ l
    → layer_text (layer_of layer_text behind_name l) ≡ plain_type_text (layer_view (layer_of layer_view marked l)) → IsPlain t
by_layer t l is same =
    fold_type-layer layer_text behind_name t l is ∙ same ∙ ap plain_type_text (sym (fold_type-layer layer_view marked t l is))

of_rows : (attributes : Attributes) → ArePlain (entries attributes)
    → attributes_text attributes ≡ rows_text (plain_rows (resolved_map (entries attributes)))
of_rows attributes plain = ap rows_text (fold_attributes-entries layer_text behind_name attributes ∙ rows_plain (entries attributes) plain)

abbrev T1 : Type 0
T1 = (n : TypeNode) × IsPlain (record { node = n })

abbrev T2 : Type 0
T2 = (a : AttributeType) × IsPlain a.attr_type

abbrev T3 : Type 0
T3 = (m : Attributes) × ArePlain (entries m)

abbrev T4 : Type 0
T4 = (t : ResolvedType) × IsPlain t

-- a layer without the claims of its parts
abbrev bare : TypeNode-F T1 T2 T3 T4 → Layer
bare l = map-TypeNode T1 T2 T3 T4 TypeNode AttributeType Attributes ResolvedType (λ e. e.0) (λ e. e.0) (λ e. e.0) (λ e. e.0) l

layer_plain : (l : TypeNode-F T1 T2 T3 T4)
    → layer_text (layer_of layer_text behind_name (bare l)) ≡ plain_type_text (layer_view (layer_of layer_view marked (bare l)))
layer_plain layers.Bool = refl
layer_plain layers.Long = refl
layer_plain layers.String = refl
layer_plain (layers.Set element) = ap (λ t. codes "Set<" +++ t +++ codes ">") element.1
layer_plain (layers.Record attributes tag) =
    of_rows attributes.0 attributes.1 ∙ ap (λ m. rows_text (plain_rows (resolved_attributes m))) (sym (fold_attributes-entries layer_view marked attributes.0))
layer_plain (layers.Entity entity) = refl
layer_plain (layers.Extension name) = refl

claims_kept : (es : List (List ℕ × T2)) → ArePlain (map (λ e. (e.0, e.1.0)) es)
claims_kept [] = tt
claims_kept (e ∷ es) = (e.1.1, claims_kept es)

-- of each type
pub types_plain : (t : ResolvedType) → IsPlain t
types_plain = ind-ResolvedType (λ n. IsPlain (record { node = n })) (λ a. IsPlain a.attr_type) (λ m. ArePlain (entries m)) IsPlain
    (λ x y is. subst (λ l. IsPlain (record { node = roll-TypeNode l })) is (by_layer (record { node = roll-TypeNode (bare y) }) (bare y) (out-roll-TypeNode (bare y)) (layer_plain y)))
    (λ x y is. subst (λ l. IsPlain l.attr_type) is y.attr_type.1)
    (λ x y is. subst (λ l. ArePlain (entries (roll-Attributes l))) is
    (subst ArePlain (sym (entries-attributes_of (map (λ e. (e.0, e.1.0)) y.map))) (claims_kept y.map)))
    (λ x y is. subst (λ l. IsPlain (record { node = l.node })) is y.node.1)

-- and so of attributes
pub attributes_plain : (attributes : Attributes) → attributes_text attributes ≡ rows_text (plain_rows (resolved_map (entries attributes)))
attributes_plain attributes = of_rows attributes (all_plain (entries attributes))
  where
    all_plain : (es : List (List ℕ × AttributeType)) → ArePlain es
    all_plain [] = tt
    all_plain (e ∷ es) = (types_plain e.1.attr_type, all_plain es)
