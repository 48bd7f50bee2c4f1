-- SPDX-License-Identifier: Apache-2.0
-- The equality of types goes by what is left of them without places.
use denote.Enum.Compared.{Each, by}
use denote.Enum.Declared.{Choice}
use denote.RattleType.{RattleType}
use mathlib.Core.Bool.{beq, true≢false}
use mathlib.Core.Logic.{inl, inr, ⊎_elim}
use mir.Syntax.{Dict}
use Rattle.std.specs.Prelude.{ℕ, Bool, true, false, ◌&&◌, List, [], ◌∷◌, Option, None, nat_eq}
use Rattle.std.specs.Cmp.{first_so, second_so}
use Rattle.std.specs.Cmp.Lexicographic.{pointwise, bytes_decides}
use Rattle.std.specs.List.{AllByRecursion}
use Rattle.std.proofs.Common.{◌≡◌, refl, ap, ◌∙◌, sym}
use Rattle.std.specs.declared.cmp.PartialEq as eq
use Rattle.std.specs.contracts.cmp.PartialEq.TheBound.{Lawful}
use Rattle.cedar_data.specs.Maps.{map_values}
use Rattle.cedar_text.specs.declared.location.Loc.{Loc}
use Rattle.cedar_names.specs.declared.annotation.Annotations.{Annotations}
use Rattle.cedar_names.specs.declared.id.UnreservedId.{UnreservedId}
use Rattle.cedar_names.specs.contracts.annotation.AnnotationsPartialEq.TheImpl as annotations_eqs
use Rattle.cedar_names.specs.contracts.id.UnreservedIdPartialEq.TheImpl as id_eqs
use Rattle.cedar_written.specs.declared.ty.SchemaType.{SchemaType}
use Rattle.cedar_written.specs.declared.ty.SchemaType.TheVariants as type
use Rattle.cedar_written.specs.declared.ty.TypeVariant.{TypeVariant}
use Rattle.cedar_written.specs.declared.ty.TypeVariant.TheVariants as variant
use Rattle.cedar_written.specs.declared.ty.RecordType.{RecordType, out-RecordType, out-roll-RecordType, roll-out-RecordType}
use Rattle.cedar_written.specs.declared.ty.TypeOfAttribute.{TypeOfAttribute, out-TypeOfAttribute, out-roll-TypeOfAttribute, roll-out-TypeOfAttribute}
use Rattle.cedar_written.specs.contracts.ty.SchemaType as type_row
use Rattle.cedar_written.specs.contracts.ty.SchemaTypePartialEq.TheImpl as type_eqs
use Rattle.cedar_written.specs.contracts.ty.SchemaTypePartialEq.TheImpl.Laws as type_laws
use Rattle.cedar_written.specs.contracts.ty.TypeVariant as variant_row
use Rattle.cedar_written.specs.contracts.ty.TypeVariantPartialEq.TheImpl as variant_eqs
use Rattle.cedar_written.specs.contracts.ty.TypeVariantPartialEq.TheImpl.Laws as variant_laws
use Rattle.cedar_written.specs.contracts.ty.RecordTypePartialEq.TheImpl as record_eqs
use Rattle.cedar_written.specs.contracts.ty.RecordTypePartialEq.TheImpl.Laws as record_laws
use Rattle.cedar_written.specs.contracts.ty.TypeOfAttributePartialEq.TheImpl as attribute_eqs
use Rattle.cedar_written.specs.contracts.ty.TypeOfAttributePartialEq.TheImpl.Laws as attribute_laws
use Rattle.cedar_written.proofs.TypeFolds as folds
use Rattle.cedar_written.proofs.TypeInduction.{Cases, attribute_of, by_cases, record_of}
use Rattle.cedar_comparing.specs.Comparing.{GoesBy}
use Rattle.cedar_comparing.specs.Unplaced.{annotations_unplaced, attribute_step, attribute_unplaced, record_step, record_unplaced, type_step, type_unplaced, variant_step, variant_unplaced}
use Rattle.cedar_comparing.proofs.Names.{annotations_go, ids_go}
use Rattle.cedar_comparing.proofs.Parts.{bools_alone, bools_itself, both}
use Rattle.cedar_comparing.proofs.Variants.{IsAlike, alike}

abbrev first_in : {X : Type 0} → List (List ℕ × X) → X → X
first_in [] other = other
first_in (e ∷ es) other = e.1

module _ (A : RattleType) (G : eq.Ghosts A.Denot) (d : Dict) (lawful : Lawful A G d) where
  abbrev N : Type 0
  N = A.Denot

  abbrev type_eq : SchemaType N → SchemaType N → Bool
  type_eq = (type_eqs.ghosts A G d).eq

  abbrev variant_eq : TypeVariant N → TypeVariant N → Bool
  variant_eq = (variant_eqs.ghosts A G d).eq

  abbrev record_eq : RecordType N → RecordType N → Bool
  record_eq = (record_eqs.ghosts A G d).eq

  abbrev attribute_eq : TypeOfAttribute N → TypeOfAttribute N → Bool
  attribute_eq = (attribute_eqs.ghosts A G d).eq

  -- ---- the equality of each, by its variants or its fields

  abbrev TypeChoice : Type 0
  TypeChoice = Choice (type_row.the_parts A)

  abbrev VariantChoice : Type 0
  VariantChoice = Choice (variant_row.the_parts A)

  abbrev type_tests : Each Bool (type_row.the_parts A)
  type_tests = (λ x y. variant_eq x.0 y.0, (λ x y. G.eq x.0 y.0, tt))

  abbrev variant_tests : Each Bool (variant_row.the_parts A)
  variant_tests = (λ x y. true, (λ x y. true, (λ x y. true, (λ x y. type_eq x.0 y.0, (λ x y. record_eq x.0 y.0, (λ x y. G.eq x.0 y.0, (λ x y. G.eq x.0 y.0, (λ x y. id_eqs.ghosts.eq x.0 y.0, tt))))))))

  by_types : (t u : SchemaType N) → type_eq t u ≡ by false false (type_row.the_parts A) type_tests (type_row.as_values A t) (type_row.as_values A u)
  by_types t u = type_laws.is A G d lawful t u

  by_variants : (v w : TypeVariant N) → variant_eq v w ≡ by false false (variant_row.the_parts A) variant_tests (variant_row.as_values A v) (variant_row.as_values A w)
  by_variants v w = variant_laws.is A G d lawful v w

  types_made : (c e : TypeChoice) → type_eq (type_row.the_make A c) (type_row.the_make A e) ≡ by false false (type_row.the_parts A) type_tests c e
  types_made c e = by_types (type_row.the_make A c) (type_row.the_make A e)
      ∙ (λ i. by false false (type_row.the_parts A) type_tests (type_row.the_beta A c i) (type_row.the_beta A e i))

  variants_made : (c e : VariantChoice) → variant_eq (variant_row.the_make A c) (variant_row.the_make A e) ≡ by false false (variant_row.the_parts A) variant_tests c e
  variants_made c e = by_variants (variant_row.the_make A c) (variant_row.the_make A e)
      ∙ (λ i. by false false (variant_row.the_parts A) variant_tests (variant_row.the_beta A c i) (variant_row.the_beta A e i))

  -- what is equal to one that is made of a choice
  alike_types : (c : TypeChoice) (u : SchemaType N) → type_eq (type_row.the_make A c) u ≡ true → IsAlike (type_row.the_parts A) type_tests (λ e. e) c (type_row.as_values A u)
  alike_types c u h = alike (type_row.the_parts A) type_tests (λ e. e) c (type_row.as_values A u)
      ((λ i. by false false (type_row.the_parts A) type_tests (sym (type_row.the_beta A c) i) (type_row.as_values A u)) ∙ sym (by_types (type_row.the_make A c) u) ∙ h)

  alike_variants : (c : VariantChoice) (w : TypeVariant N) → variant_eq (variant_row.the_make A c) w ≡ true → IsAlike (variant_row.the_parts A) variant_tests (λ e. e) c (variant_row.as_values A w)
  alike_variants c w h = alike (variant_row.the_parts A) variant_tests (λ e. e) c (variant_row.as_values A w)
      ((λ i. by false false (variant_row.the_parts A) variant_tests (sym (variant_row.the_beta A c) i) (variant_row.as_values A w)) ∙ sym (by_variants (variant_row.the_make A c) w) ∙ h)

  type_of : (u : SchemaType N) (c : TypeChoice) → type_row.as_values A u ≡ c → u ≡ type_row.the_make A c
  type_of u c is = sym (type_row.the_eta A u) ∙ ap (type_row.the_make A) is

  variant_of : (w : TypeVariant N) (c : VariantChoice) → variant_row.as_values A w ≡ c → w ≡ variant_row.the_make A c
  variant_of w c is = sym (variant_row.the_eta A w) ∙ ap (variant_row.the_make A) is

  abbrev entry_eq : List ℕ × TypeOfAttribute N → List ℕ × TypeOfAttribute N → Bool
  entry_eq p q = pointwise nat_eq p.0 q.0 && attribute_eq p.1 q.1

  record_is : (r s : RecordType N) → record_eq r s
      ≡ (pointwise entry_eq (out-RecordType N r).attributes (out-RecordType N s).attributes && beq (out-RecordType N r).additional_attributes (out-RecordType N s).additional_attributes)
  record_is r s = record_laws.is A G d lawful r s

  attribute_is : (a b : TypeOfAttribute N) → attribute_eq a b
      ≡ (type_eq (out-TypeOfAttribute N a).ty (out-TypeOfAttribute N b).ty
      && (annotations_eqs.ghosts.eq (out-TypeOfAttribute N a).annotations (out-TypeOfAttribute N b).annotations && beq (out-TypeOfAttribute N a).required (out-TypeOfAttribute N b).required))
  attribute_is a b = attribute_laws.is A G d lawful a b

  records_made : (es fs : List (List ℕ × TypeOfAttribute N)) (b c : Bool) → record_eq (record_of es b) (record_of fs c) ≡ (pointwise entry_eq es fs && beq b c)
  records_made es fs b c = record_is (record_of es b) (record_of fs c)
      ∙ (λ i. let r = out-roll-RecordType N (record { attributes = es; additional_attributes = b }) i in let s = out-roll-RecordType N (record { attributes = fs; additional_attributes = c }) i in
      pointwise entry_eq r.attributes s.attributes && beq r.additional_attributes s.additional_attributes)

  attributes_made : (t u : SchemaType N) (m n : Annotations) (b c : Bool) → attribute_eq (attribute_of t m b) (attribute_of u n c) ≡ (type_eq t u && (annotations_eqs.ghosts.eq m n && beq b c))
  attributes_made t u m n b c = attribute_is (attribute_of t m b) (attribute_of u n c)
      ∙ (λ i. let x = out-roll-TypeOfAttribute N (record { ty = t; annotations = m; required = b }) i in let y = out-roll-TypeOfAttribute N (record { ty = u; annotations = n; required = c }) i in
      type_eq x.ty y.ty && (annotations_eqs.ghosts.eq x.annotations y.annotations && beq x.required y.required))

  module _ (bare : N → N) (names : GoesBy G.eq bare) where
    -- ---- what is left of each

    abbrev left_type : SchemaType N → SchemaType N
    left_type = type_unplaced bare

    abbrev left_variant : TypeVariant N → TypeVariant N
    left_variant = variant_unplaced bare

    abbrev left_record : RecordType N → RecordType N
    left_record = record_unplaced bare

    abbrev left_attribute : TypeOfAttribute N → TypeOfAttribute N
    left_attribute = attribute_unplaced bare

    Variant-left : (v : TypeVariant N) (loc : Option Loc) → left_type (type.Variant v loc) ≡ type.Variant (left_variant v) None
    Variant-left v loc = folds.fold-Variant (type_step bare) (variant_step bare) (record_step bare) (attribute_step bare) v loc ∙ type.rolls-Variant (left_variant v) None

    CommonTypeRef-left : (n : N) (loc : Option Loc) → left_type (type.CommonTypeRef n loc) ≡ type.CommonTypeRef (bare n) None
    CommonTypeRef-left n loc = folds.fold-CommonTypeRef (type_step bare) (variant_step bare) (record_step bare) (attribute_step bare) n loc ∙ type.rolls-CommonTypeRef (bare n) None

    String-left : left_variant variant.String ≡ variant.String
    String-left = folds.fold-String (type_step bare) (variant_step bare) (record_step bare) (attribute_step bare) ∙ variant.rolls-String

    Long-left : left_variant variant.Long ≡ variant.Long
    Long-left = folds.fold-Long (type_step bare) (variant_step bare) (record_step bare) (attribute_step bare) ∙ variant.rolls-Long

    Boolean-left : left_variant variant.Boolean ≡ variant.Boolean
    Boolean-left = folds.fold-Boolean (type_step bare) (variant_step bare) (record_step bare) (attribute_step bare) ∙ variant.rolls-Boolean

    Set-left : (t : SchemaType N) → left_variant (variant.Set t) ≡ variant.Set (left_type t)
    Set-left t = folds.fold-Set (type_step bare) (variant_step bare) (record_step bare) (attribute_step bare) t ∙ variant.rolls-Set (left_type t)

    Record-left : (r : RecordType N) → left_variant (variant.Record r) ≡ variant.Record (left_record r)
    Record-left r = folds.fold-Record (type_step bare) (variant_step bare) (record_step bare) (attribute_step bare) r ∙ variant.rolls-Record (left_record r)

    Entity-left : (n : N) → left_variant (variant.Entity n) ≡ variant.Entity (bare n)
    Entity-left n = folds.fold-Entity (type_step bare) (variant_step bare) (record_step bare) (attribute_step bare) n ∙ variant.rolls-Entity (bare n)

    EntityOrCommon-left : (n : N) → left_variant (variant.EntityOrCommon n) ≡ variant.EntityOrCommon (bare n)
    EntityOrCommon-left n = folds.fold-EntityOrCommon (type_step bare) (variant_step bare) (record_step bare) (attribute_step bare) n ∙ variant.rolls-EntityOrCommon (bare n)

    Extension-left : (n : UnreservedId) → left_variant (variant.Extension n) ≡ variant.Extension n
    Extension-left n = folds.fold-Extension (type_step bare) (variant_step bare) (record_step bare) (attribute_step bare) n ∙ variant.rolls-Extension n

    record-left : (es : List (List ℕ × TypeOfAttribute N)) (b : Bool) → left_record (record_of es b) ≡ record_of (map_values left_attribute es) b
    record-left es b = folds.fold-record_of (type_step bare) (variant_step bare) (record_step bare) (attribute_step bare) es b

    attribute-left : (t : SchemaType N) (m : Annotations) (b : Bool) → left_attribute (attribute_of t m b) ≡ attribute_of (left_type t) (annotations_unplaced m) b
    attribute-left t m b = folds.fold-attribute_of (type_step bare) (variant_step bare) (record_step bare) (attribute_step bare) t m b

    -- ---- each is equal to what is left of it

    entries_itself : (es : List (List ℕ × TypeOfAttribute N)) → AllByRecursion {X = List ℕ × TypeOfAttribute N} (λ e. attribute_eq e.1 (left_attribute e.1) ≡ true) es
        → pointwise entry_eq es (map_values left_attribute es) ≡ true
    entries_itself [] all = refl
    entries_itself (e ∷ es) all = both (both ((bytes_decides e.0 e.0).1 refl) all.0) (entries_itself es all.1)

    own : Cases (λ t. type_eq t (left_type t) ≡ true) (λ v. variant_eq v (left_variant v) ≡ true) (λ r. record_eq r (left_record r) ≡ true) (λ a. attribute_eq a (left_attribute a) ≡ true)
    own = record {
      of_variant = λ v loc h. ap (type_eq (type.Variant v loc)) (Variant-left v loc) ∙ types_made (inl (v, (loc, tt))) (inl (left_variant v, (None, tt))) ∙ h;
      of_common = λ n loc. ap (type_eq (type.CommonTypeRef n loc)) (CommonTypeRef-left n loc) ∙ types_made (inr (inl (n, (loc, tt)))) (inr (inl (bare n, (None, tt)))) ∙ names.itself n;
      of_string = ap (variant_eq variant.String) String-left ∙ variants_made (inl tt) (inl tt);
      of_long = ap (variant_eq variant.Long) Long-left ∙ variants_made (inr (inl tt)) (inr (inl tt));
      of_boolean = ap (variant_eq variant.Boolean) Boolean-left ∙ variants_made (inr (inr (inl tt))) (inr (inr (inl tt)));
      of_set = λ t h. ap (variant_eq (variant.Set t)) (Set-left t) ∙ variants_made (inr (inr (inr (inl (t, tt))))) (inr (inr (inr (inl (left_type t, tt))))) ∙ h;
      of_record = λ r h. ap (variant_eq (variant.Record r)) (Record-left r) ∙ variants_made (inr (inr (inr (inr (inl (r, tt)))))) (inr (inr (inr (inr (inl (left_record r, tt)))))) ∙ h;
      of_entity = λ n. ap (variant_eq (variant.Entity n)) (Entity-left n)
          ∙ variants_made (inr (inr (inr (inr (inr (inl (n, tt))))))) (inr (inr (inr (inr (inr (inl (bare n, tt))))))) ∙ names.itself n;
      of_entity_or_common = λ n. ap (variant_eq (variant.EntityOrCommon n)) (EntityOrCommon-left n)
          ∙ variants_made (inr (inr (inr (inr (inr (inr (inl (n, tt)))))))) (inr (inr (inr (inr (inr (inr (inl (bare n, tt)))))))) ∙ names.itself n;
      of_extension = λ n. ap (variant_eq (variant.Extension n)) (Extension-left n)
          ∙ variants_made (inr (inr (inr (inr (inr (inr (inr (inl (n, tt))))))))) (inr (inr (inr (inr (inr (inr (inr (inl (n, tt))))))))) ∙ ids_go.itself n;
      of_attributes = λ es b all. ap (record_eq (record_of es b)) (record-left es b) ∙ records_made es (map_values left_attribute es) b b ∙ both (entries_itself es all) (bools_itself b);
      of_attribute = λ t m b h. ap (attribute_eq (attribute_of t m b)) (attribute-left t m b) ∙ attributes_made t (left_type t) m (annotations_unplaced m) b b ∙ both h (both (annotations_go.itself m) (bools_itself b));
    }

    -- ---- what is equal leaves the same

    entries_alone : (es : List (List ℕ × TypeOfAttribute N)) → AllByRecursion {X = List ℕ × TypeOfAttribute N} (λ e. (b : TypeOfAttribute N) → attribute_eq e.1 b ≡ true → left_attribute e.1 ≡ left_attribute b) es
        → (fs : List (List ℕ × TypeOfAttribute N)) → pointwise entry_eq es fs ≡ true → map_values left_attribute es ≡ map_values left_attribute fs
    entries_alone [] all [] h = refl
    entries_alone [] all (f ∷ fs) h = absurd (true≢false (sym h))
    entries_alone (e ∷ es) all [] h = absurd (true≢false (sym h))
    entries_alone (e ∷ es) all (f ∷ fs) h =
        let first = first_so (entry_eq e f) (pointwise entry_eq es fs) h in
        let key = (bytes_decides e.0 f.0).0 (first_so (pointwise nat_eq e.0 f.0) (attribute_eq e.1 f.1) first) in
        let value = all.0 f.1 (second_so (pointwise nat_eq e.0 f.0) (attribute_eq e.1 f.1) first) in
        let later = entries_alone es all.1 fs (second_so (entry_eq e f) (pointwise entry_eq es fs) h) in
        λ i. (key i, value i) ∷ later i

    alone : Cases (λ t. (u : SchemaType N) → type_eq t u ≡ true → left_type t ≡ left_type u) (λ v. (w : TypeVariant N) → variant_eq v w ≡ true → left_variant v ≡ left_variant w)
        (λ r. (s : RecordType N) → record_eq r s ≡ true → left_record r ≡ left_record s) (λ a. (b : TypeOfAttribute N) → attribute_eq a b ≡ true → left_attribute a ≡ left_attribute b)
    alone = record {
      of_variant = λ v loc all u h.
          let (y, is, same) = alike_types (inl (v, (loc, tt))) u h in
          Variant-left v loc ∙ ap (λ w. type.Variant w None) (all y.0 same) ∙ sym (Variant-left y.0 y.1.0) ∙ ap left_type (sym (type_of u (inl y) is));
      of_common = λ n loc u h.
          let (y, is, same) = alike_types (inr (inl (n, (loc, tt)))) u h in
          CommonTypeRef-left n loc ∙ ap (λ m. type.CommonTypeRef m None) (names.alone n y.0 same) ∙ sym (CommonTypeRef-left y.0 y.1.0) ∙ ap left_type (sym (type_of u (inr (inl y)) is));
      of_string = λ w h. let (y, is, same) = alike_variants (inl tt) w h in ap left_variant (sym (variant_of w (inl tt) is));
      of_long = λ w h. let (y, is, same) = alike_variants (inr (inl tt)) w h in ap left_variant (sym (variant_of w (inr (inl tt)) is));
      of_boolean = λ w h. let (y, is, same) = alike_variants (inr (inr (inl tt))) w h in ap left_variant (sym (variant_of w (inr (inr (inl tt))) is));
      of_set = λ t all w h.
          let (y, is, same) = alike_variants (inr (inr (inr (inl (t, tt))))) w h in
          Set-left t ∙ ap (λ u. variant.Set u) (all y.0 same) ∙ sym (Set-left y.0) ∙ ap left_variant (sym (variant_of w (inr (inr (inr (inl y)))) is));
      of_record = λ r all w h.
          let (y, is, same) = alike_variants (inr (inr (inr (inr (inl (r, tt)))))) w h in
          Record-left r ∙ ap (λ s. variant.Record s) (all y.0 same) ∙ sym (Record-left y.0) ∙ ap left_variant (sym (variant_of w (inr (inr (inr (inr (inl y))))) is));
      of_entity = λ n w h.
          let (y, is, same) = alike_variants (inr (inr (inr (inr (inr (inl (n, tt))))))) w h in
          Entity-left n ∙ ap (λ m. variant.Entity m) (names.alone n y.0 same) ∙ sym (Entity-left y.0) ∙ ap left_variant (sym (variant_of w (inr (inr (inr (inr (inr (inl y)))))) is));
      of_entity_or_common = λ n w h.
          let (y, is, same) = alike_variants (inr (inr (inr (inr (inr (inr (inl (n, tt)))))))) w h in
          EntityOrCommon-left n ∙ ap (λ m. variant.EntityOrCommon m) (names.alone n y.0 same) ∙ sym (EntityOrCommon-left y.0)
          ∙ ap left_variant (sym (variant_of w (inr (inr (inr (inr (inr (inr (inl y))))))) is));
      of_extension = λ n w h.
          let (y, is, same) = alike_variants (inr (inr (inr (inr (inr (inr (inr (inl (n, tt))))))))) w h in
          ap (λ m. left_variant (variant.Extension m)) (ids_go.alone n y.0 same) ∙ ap left_variant (sym (variant_of w (inr (inr (inr (inr (inr (inr (inr (inl y)))))))) is));
      of_attributes = λ es b all s h.
          let fs = (out-RecordType N s).attributes in
          let c = (out-RecordType N s).additional_attributes in
          let both_so = sym (records_made es fs b c) ∙ ap (record_eq (record_of es b)) (roll-out-RecordType N s) ∙ h in
          let entries = entries_alone es all fs (first_so (pointwise entry_eq es fs) (beq b c) both_so) in
          let others = bools_alone b c (second_so (pointwise entry_eq es fs) (beq b c) both_so) in
          record-left es b ∙ (λ i. record_of (entries i) (others i)) ∙ sym (record-left fs c) ∙ ap left_record (roll-out-RecordType N s);
      of_attribute = λ t m b all a h.
          let u = (out-TypeOfAttribute N a).ty in
          let n = (out-TypeOfAttribute N a).annotations in
          let c = (out-TypeOfAttribute N a).required in
          let all_so = sym (attributes_made t u m n b c) ∙ ap (attribute_eq (attribute_of t m b)) (roll-out-TypeOfAttribute N a) ∙ h in
          let types = all u (first_so (type_eq t u) (annotations_eqs.ghosts.eq m n && beq b c) all_so) in
          let later = second_so (type_eq t u) (annotations_eqs.ghosts.eq m n && beq b c) all_so in
          let notes = annotations_go.alone m n (first_so (annotations_eqs.ghosts.eq m n) (beq b c) later) in
          let marks = bools_alone b c (second_so (annotations_eqs.ghosts.eq m n) (beq b c) later) in
          attribute-left t m b ∙ (λ i. attribute_of (types i) (notes i) (marks i)) ∙ sym (attribute-left u n c) ∙ ap left_attribute (roll-out-TypeOfAttribute N a);
    }

    -- ---- so each goes by what is left of it

    pub types_go : GoesBy type_eq left_type
    types_go = record { itself = by_cases _ _ _ _ own; alone = by_cases _ _ _ _ alone }

    -- one of whose parts is left

    pub variants_go : GoesBy variant_eq left_variant
    variants_go = record {
      itself = λ v. sym (ap (type_eq (type.Variant v None)) (Variant-left v None) ∙ types_made (inl (v, (None, tt))) (inl (left_variant v, (None, tt)))) ∙ types_go.itself (type.Variant v None);
      alone = λ v w h.
          let p = sym (Variant-left v None) ∙ types_go.alone (type.Variant v None) (type.Variant w None) (types_made (inl (v, (None, tt))) (inl (w, (None, tt))) ∙ h) ∙ Variant-left w None in
          ap (λ t. ⊎_elim (λ x. x.0) (λ y. left_variant v) (type_row.as_values A t)) p;
    }

    abbrev record_in : VariantChoice → RecordType N → RecordType N
    record_in (inr (inr (inr (inr (inl x))))) other = x.0
    record_in _ other = other

    pub records_go : GoesBy record_eq left_record
    records_go = record {
      itself = λ r. sym (ap (variant_eq (variant.Record r)) (Record-left r) ∙ variants_made (inr (inr (inr (inr (inl (r, tt)))))) (inr (inr (inr (inr (inl (left_record r, tt)))))))
          ∙ variants_go.itself (variant.Record r);
      alone = λ r s h.
          let p = sym (Record-left r) ∙ variants_go.alone (variant.Record r) (variant.Record s) (variants_made (inr (inr (inr (inr (inl (r, tt)))))) (inr (inr (inr (inr (inl (s, tt)))))) ∙ h) ∙ Record-left s in
          sym (ap (λ c. record_in c (left_record r)) (variant_row.the_beta A (inr (inr (inr (inr (inl (left_record r, tt))))))))
          ∙ ap (λ v. record_in (variant_row.as_values A v) (left_record r)) p
          ∙ ap (λ c. record_in c (left_record r)) (variant_row.the_beta A (inr (inr (inr (inr (inl (left_record s, tt)))))));
    }

    pub attributes_go : GoesBy attribute_eq left_attribute
    attributes_go = record {
      itself = λ a. second_so (pointwise nat_eq [] []) (attribute_eq a (left_attribute a))
          (first_so (entry_eq ([], a) ([], left_attribute a)) true
          (first_so (pointwise entry_eq (([], a) ∷ []) (map_values left_attribute (([], a) ∷ []))) true
          (sym (ap (record_eq (record_of (([], a) ∷ []) true)) (record-left (([], a) ∷ []) true) ∙ records_made (([], a) ∷ []) (map_values left_attribute (([], a) ∷ [])) true true) ∙ records_go.itself (record_of (([], a) ∷ []) true))));
      alone = λ a b h.
          let p = sym (record-left (([], a) ∷ []) true) ∙ records_go.alone (record_of (([], a) ∷ []) true) (record_of (([], b) ∷ []) true)
          (records_made (([], a) ∷ []) (([], b) ∷ []) true true ∙ both (both (both refl h) refl) refl) ∙ record-left (([], b) ∷ []) true in
          let q = sym (out-roll-RecordType N (record { attributes = ([], left_attribute a) ∷ []; additional_attributes = true })) ∙ ap (out-RecordType N) p ∙ out-roll-RecordType N (record { attributes = ([], left_attribute b) ∷ []; additional_attributes = true }) in
          ap (λ r. first_in r.attributes (left_attribute a)) q;
    }
