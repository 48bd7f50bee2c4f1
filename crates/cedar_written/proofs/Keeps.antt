-- SPDX-License-Identifier: Apache-2.0
-- Where a step keeps what is read of a name, taking a type through the step keeps what is read of the type.
use Rattle.std.proofs.Common.{◌≡◌, List, [], ◌∷◌, map, Option, Some, None, option_map, IfOk, refl, sym, ◌∙◌, subst}
use Rattle.std.specs.List.{AllByRecursion}
use Rattle.std.specs.declared.result.Result.{Result}
use Rattle.std.specs.declared.result.Result.TheVariants.{Ok, Err}
use Rattle.cedar_print.specs.of_data.Maps.{map_values}
use Rattle.cedar_written.specs.Answers.{and_then, all_items, all_values, in_option}
use Rattle.cedar_written.specs.Through.{through_names, through_type, through_variant, through_record, through_attribute}
use Rattle.cedar_written.specs.Reference.{Reference, named, renamed}
use Rattle.cedar_written.specs.declared.reference_type.ReferenceType.{ReferenceType}
use Rattle.cedar_written.specs.declared.reference_type.ReferenceType.TheVariants as kind
use Rattle.cedar_written.specs.declared.ty.SchemaType.{SchemaType}
use Rattle.cedar_written.specs.declared.ty.SchemaType.TheVariants as type
use Rattle.cedar_written.specs.declared.ty.TypeVariant.{TypeVariant}
use Rattle.cedar_written.specs.declared.ty.TypeVariant.TheVariants as variant
use Rattle.cedar_written.specs.declared.ty.RecordType.{RecordType}
use Rattle.cedar_written.specs.declared.ty.TypeOfAttribute.{TypeOfAttribute}
use Rattle.cedar_written.proofs.TypeInduction.{record_of, attribute_of, by_cases}
use Rattle.cedar_written.proofs.ThroughEquations.{through-Variant, through-CommonTypeRef, through-String, through-Long, through-Boolean, through-Set, through-Record, through-Entity, through-EntityOrCommon, through-Extension, through-record_of, through-attribute_of}

-- what holds of what comes of each value
pub kept : {A B E : Type 0} (p : Result A E) (k : A → Result B E) (P : A → Type 0) (Q : B → Type 0) → IfOk p P → ((a : A) → P a → IfOk (k a) Q) → IfOk (and_then p k) Q
kept (Ok a) k P Q is so = so a is
kept (Err e) k P Q is so = tt

-- something made of one part
one_part : {A B A' B' E F : Type 0} (part : Result A E) (made : A → B) (part' : A → Result A' F) (made' : A' → B') (whole : Result B E) (whole' : B → Result B' F) (read : Result A' F) (all : Result B' F)
    → IfOk part (λ a. part' a ≡ read) → whole ≡ and_then part (λ a. Ok (made a)) → ((a : A) → whole' (made a) ≡ and_then (part' a) (λ a. Ok (made' a))) → all ≡ and_then read (λ a. Ok (made' a))
    → IfOk whole (λ b. whole' b ≡ all)
one_part part made part' made' whole whole' read all is from here there =
    subst (λ r. IfOk r (λ b. whole' b ≡ all)) (sym from)
    (kept part (λ a. Ok (made a)) (λ a. part' a ≡ read) (λ b. whole' b ≡ all) is (λ a same. here a ∙ (λ i. and_then (same i) (λ a. Ok (made' a))) ∙ sym there))

-- something with no name in it
no_part : {B B' E F : Type 0} {whole : Result B E} {all here' : Result B' F} (made : B) (whole' : B → Result B' F) → whole ≡ Ok made → whole' made ≡ here' → all ≡ here' → IfOk whole (λ b. whole' b ≡ all)
no_part {all = all} made whole' from here there = subst (λ r. IfOk r (λ b. whole' b ≡ all)) (sym from) (here ∙ sym there)

-- the values of a map
pub values_kept : {K V W Z E F : Type 0} (f : V → Result W E) (h : W → Result Z F) (g : V → Result Z F) (es : List (K × V)) → AllByRecursion {X = K × V} (λ e. IfOk (f e.1) (λ w. h w ≡ g e.1)) es
    → IfOk (all_values (map_values f es)) (λ ws. all_values (map_values h ws) ≡ all_values (map_values g es))
values_kept f h g [] all = refl
values_kept f h g (e ∷ es) all =
    kept (f e.1) _ (λ w. h w ≡ g e.1) _ all.0 (λ w is.
    kept (all_values (map_values f es)) _ (λ ws. all_values (map_values h ws) ≡ all_values (map_values g es)) _ (values_kept f h g es all.1) (λ ws same i.
    and_then (is i) (λ z. and_then (same i) (λ zs. Ok ((e.0, z) ∷ zs)))))

module _ {V W Z E F : Type 0} (f : V → Result W E) (h : W → Result Z F) (g : V → Result Z F) (each : (v : V) → IfOk (f v) (λ w. h w ≡ g v)) where
  -- the values of a map, where it holds of each value
  pub map_kept : {K : Type 0} (es : List (K × V)) → IfOk (all_values (map_values f es)) (λ ws. all_values (map_values h ws) ≡ all_values (map_values g es))
  map_kept {K} es = values_kept f h g es (all es)
    where
      all : (es : List (K × V)) → AllByRecursion {X = K × V} (λ e. IfOk (f e.1) (λ w. h w ≡ g e.1)) es
      all [] = tt
      all (e ∷ es) = (each e.1, all es)

  -- a list
  pub items_kept : (vs : List V) → IfOk (all_items (map f vs)) (λ ws. all_items (map h ws) ≡ all_items (map g vs))
  items_kept [] = refl
  items_kept (v ∷ vs) =
      kept (f v) _ (λ w. h w ≡ g v) _ (each v) (λ w is.
      kept (all_items (map f vs)) _ (λ ws. all_items (map h ws) ≡ all_items (map g vs)) _ (items_kept vs) (λ ws same i.
      and_then (is i) (λ z. and_then (same i) (λ zs. Ok (z ∷ zs)))))

  -- a value that may be there
  pub option_kept : (o : Option V) → IfOk (in_option (option_map f o)) (λ w. in_option (option_map h w) ≡ in_option (option_map g o))
  option_kept None = refl
  option_kept (Some v) = kept (f v) _ (λ w. h w ≡ g v) _ (each v) (λ w is i. and_then (is i) (λ z. Ok (Some z)))

module _ {N M X E F : Type 0} (s : Reference N → Result M E) (h : Reference M → Result X F) (g : Reference N → Result X F) (keeps : (r : Reference N) → IfOk (s r) (λ m. h (renamed r m) ≡ g r)) where
  abbrev P : SchemaType N → Type 0
  P t = IfOk (through_type s t) (λ t'. through_type h t' ≡ through_type g t)

  abbrev Q : TypeVariant N → Type 0
  Q t = IfOk (through_variant s t) (λ t'. through_variant h t' ≡ through_variant g t)

  abbrev R : RecordType N → Type 0
  R t = IfOk (through_record s t) (λ t'. through_record h t' ≡ through_record g t)

  abbrev S : TypeOfAttribute N → Type 0
  S t = IfOk (through_attribute s t) (λ t'. through_attribute h t' ≡ through_attribute g t)

  -- a type
  pub type_kept : (t : SchemaType N) → P t
  type_kept = by_cases P Q R S (record {
    of_variant = λ v loc is. one_part (through_variant s v) (λ v. type.Variant v loc) (through_variant h) (λ v. type.Variant v loc) _ (through_type h) _ _ is
        (through-Variant s v loc) (λ v. through-Variant h v loc) (through-Variant g v loc);
    of_common = λ n loc. one_part (s (named kind.Common n)) (λ n. type.CommonTypeRef n loc) (λ n. h (named kind.Common n)) (λ n. type.CommonTypeRef n loc) _ (through_type h) _ _ (keeps (named kind.Common n))
        (through-CommonTypeRef s n loc) (λ n. through-CommonTypeRef h n loc) (through-CommonTypeRef g n loc);
    of_string = no_part variant.String (through_variant h) (through-String s) (through-String h) (through-String g);
    of_long = no_part variant.Long (through_variant h) (through-Long s) (through-Long h) (through-Long g);
    of_boolean = no_part variant.Boolean (through_variant h) (through-Boolean s) (through-Boolean h) (through-Boolean g);
    of_set = λ t is. one_part (through_type s t) (λ t. variant.Set t) (through_type h) (λ t. variant.Set t) _ (through_variant h) _ _ is
        (through-Set s t) (λ t. through-Set h t) (through-Set g t);
    of_record = λ r is. one_part (through_record s r) (λ r. variant.Record r) (through_record h) (λ r. variant.Record r) _ (through_variant h) _ _ is
        (through-Record s r) (λ r. through-Record h r) (through-Record g r);
    of_entity = λ n. one_part (s (named kind.Entity n)) (λ n. variant.Entity n) (λ n. h (named kind.Entity n)) (λ n. variant.Entity n) _ (through_variant h) _ _ (keeps (named kind.Entity n))
        (through-Entity s n) (λ n. through-Entity h n) (through-Entity g n);
    of_entity_or_common = λ n. one_part (s (named kind.CommonOrEntity n)) (λ n. variant.EntityOrCommon n) (λ n. h (named kind.CommonOrEntity n)) (λ n. variant.EntityOrCommon n) _ (through_variant h) _ _ (keeps (named kind.CommonOrEntity n))
        (through-EntityOrCommon s n) (λ n. through-EntityOrCommon h n) (through-EntityOrCommon g n);
    of_extension = λ w. no_part (variant.Extension w) (through_variant h) (through-Extension s w) (through-Extension h w) (through-Extension g w);
    of_attributes = λ es additional all. one_part (all_values (map_values (through_attribute s) es)) (λ es. record_of es additional) (λ es. all_values (map_values (through_attribute h) es)) (λ es. record_of es additional) _ (through_record h) _ _
        (values_kept (through_attribute s) (through_attribute h) (through_attribute g) es all)
        (through-record_of s es additional) (λ es. through-record_of h es additional) (through-record_of g es additional);
    of_attribute = λ t annotations required is. one_part (through_type s t) (λ t. attribute_of t annotations required) (through_type h) (λ t. attribute_of t annotations required) _ (through_attribute h) _ _ is
        (through-attribute_of s t annotations required) (λ t. through-attribute_of h t annotations required) (through-attribute_of g t annotations required);
  })

  -- names of one kind
  pub names_kept : (k : ReferenceType) (ns : List N) → IfOk (through_names s k ns) (λ ms. through_names h k ms ≡ through_names g k ns)
  names_kept k = items_kept (λ n. s (named k n)) (λ n. h (named k n)) (λ n. g (named k n)) (λ n. keeps (named k n))
