-- SPDX-License-Identifier: Apache-2.0
-- The texts of types by their layers, of attributes by their entries, and of warnings by their pieces.
use Rattle.std.proofs.Common.{◌≡◌, ℕ, suc, List, [], ◌∷◌, ◌++◌, Option, Result, map, refl, ap, sym, ◌∙◌, subst, codes, arith, append_assoc}
use Rattle.std.specs.Prelude.{EachIndex, slice_index}
use Rattle.std.proofs.lemmas.Simd.{map-map}
use Rattle.cedar_text.specs.Escapes.{escaped, escaped_byte}
use Rattle.cedar_convert_warnings.specs.Texts.{shadows_builtin_text, shadows_entity_text}
use Rattle.cedar_streams.specs.Texts.{◌+++◌, joined}
use Rattle.cedar_streams.specs.Writes.{Writes}
use Rattle.cedar_types.proofs.Folds.{layer_of, fold_type-layer, fold_attribute-parts, fold_attributes-entries}
use Rattle.cedar_types.specs.Types.{Layer, layer, entries}
use Rattle.cedar_types.specs.declared.ty.AttributeType.{AttributeType}
use Rattle.cedar_types.specs.declared.ty.Attributes.{Attributes}
use Rattle.cedar_types.specs.declared.ty.ResolvedType.{ResolvedType}
use Rattle.cedar_listing.specs.Listing.{quoted_text, layer_text, behind_name, type_text, attributes_text}
use Rattle.cedar_listing.specs.Rows.{row_text, attribute_text, mark_text}

-- writing a text is writing a text that is equal to it
pub Writes-at : {K T E : Type 0} {written : K → Option (List ℕ)} {faults : K → ℕ} {old new : K} {text same : List ℕ} {result : Result T E}
    → text ≡ same → Writes written faults old new same result → Writes written faults old new text result
Writes-at {written = written} {faults = faults} {old = old} {new = new} {result = result} e w = subst (λ (t : List ℕ). Writes written faults old new t result) (sym e) w

-- a type whose outermost layer is known
pub type_text-layer : (ty : ResolvedType) (l : Layer) → l ≡ layer ty → type_text ty ≡ layer_text (layer_of layer_text behind_name l)
type_text-layer ty l e = fold_type-layer layer_text behind_name ty l (sym e)

pub row_text-parts : (name : List ℕ) (a : AttributeType) → row_text (name, a) ≡ quoted_text name +++ mark_text a.is_required +++ codes ": " +++ type_text a.attr_type
row_text-parts name a = ap (λ t. quoted_text name +++ t) (fold_attribute-parts layer_text behind_name a)

pub attributes_text-rows : (a : Attributes) → attributes_text a ≡ codes "{" +++ joined (codes ", ") (map row_text (entries a)) +++ codes "}"
attributes_text-rows a =
    ap (λ rows. codes "{" +++ joined (codes ", ") rows +++ codes "}")
    (ap (map (λ row. quoted_text row.0 +++ row.1)) (fold_attributes-entries layer_text behind_name a)
    ∙ map-map (λ (row : List ℕ × List ℕ). quoted_text row.0 +++ row.1) (λ (e : List ℕ × AttributeType). (e.0, attribute_text e.1)) (entries a))

-- a text whose bytes each stand for themselves
pub escaped-plain : (bytes : List ℕ) → EachIndex bytes (λ k. escaped_byte (slice_index bytes k) ≡ slice_index bytes k ∷ []) → escaped bytes ≡ bytes
escaped-plain [] plain = refl
escaped-plain (b ∷ bs) plain =
    ap (λ e. e ++ escaped bs) (plain 0 (omega arith)) ∙ ap (λ r. b ∷ r) (escaped-plain bs (λ k h. plain (suc k) (omega arith)))

three_parts : (a b c : List ℕ) → a ++ b ++ c ≡ a +++ b +++ c
unfolding ◌+++◌
three_parts a b c = append_assoc a b c

five_parts : (a b c d e : List ℕ) → a ++ b ++ c ++ d ++ e ≡ a +++ b +++ c +++ d +++ e
unfolding ◌+++◌
five_parts a b c d e = append_assoc (a ++ b ++ c) d e ∙ append_assoc (a ++ b) c (d ++ e) ∙ append_assoc a b (c ++ (d ++ e))

pub shadows_builtin_text-parts : (name : List ℕ)
    → shadows_builtin_text name ≡ codes "The name `" +++ name +++ codes "` shadows a builtin Cedar name. You'll have to refer to the builtin as `__cedar::" +++ name +++ codes "`."
shadows_builtin_text-parts name =
    five_parts (codes "The name `") name (codes "` shadows a builtin Cedar name. You'll have to refer to the builtin as `__cedar::") name (codes "`.")

pub shadows_entity_text-parts : (name : List ℕ) → shadows_entity_text name ≡ codes "The common type name " +++ name +++ codes " shadows an entity name"
shadows_entity_text-parts name = three_parts (codes "The common type name ") name (codes " shadows an entity name")
