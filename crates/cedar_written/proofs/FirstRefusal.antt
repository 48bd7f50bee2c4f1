-- SPDX-License-Identifier: Apache-2.0
-- A type is refused with the first of its references that the step refuses.
use Rattle.std.proofs.Common.{◌≡◌, List, [], ◌∷◌, ◌++◌, map, Option, Some, None, option_map, option_to_list, refl, ap, sym, ◌∙◌}
use Rattle.std.proofs.lemmas.List.Folds.{flat_map-map}
use Rattle.std.specs.List.{AllByRecursion, flat_map}
use Rattle.std.specs.Option.{option_or}
use Rattle.std.specs.Result.{result_err}
use Rattle.std.specs.declared.result.Result.{Result}
use Rattle.std.specs.declared.result.Result.TheVariants.{Ok, Err}
use Rattle.cedar_print.specs.of_data.Maps.{map_values}
use Rattle.cedar_written.specs.Answers.{and_then, all_items, all_values, in_option}
use Rattle.cedar_written.specs.References.{Refs, first_refusal, references, references_of_variant, references_of_record, references_of_attribute, references_of_names, type_refs, variant_refs, record_refs, attribute_refs}
use Rattle.cedar_written.specs.Through.{through_names, through_type, through_variant, through_record, through_attribute}
use Rattle.cedar_written.specs.Reference.{Reference, named}
use Rattle.cedar_written.specs.declared.reference_type.ReferenceType.{ReferenceType}
use Rattle.cedar_written.specs.declared.reference_type.ReferenceType.TheVariants as kind
use Rattle.cedar_written.specs.declared.ty.SchemaType.{SchemaType}
use Rattle.cedar_written.specs.declared.ty.TypeVariant.{TypeVariant}
use Rattle.cedar_written.specs.declared.ty.RecordType.{RecordType}
use Rattle.cedar_written.specs.declared.ty.TypeOfAttribute.{TypeOfAttribute}
use Rattle.cedar_written.proofs.TypeInduction.{by_cases}
use Rattle.cedar_written.proofs.TypeFolds.{fold-Variant, fold-CommonTypeRef, fold-String, fold-Long, fold-Boolean, fold-Set, fold-Record, fold-Entity, fold-EntityOrCommon, fold-Extension, fold-record_of, fold-attribute_of}
use Rattle.cedar_written.proofs.ThroughEquations.{through-Variant, through-CommonTypeRef, through-String, through-Long, through-Boolean, through-Set, through-Record, through-Entity, through-EntityOrCommon, through-Extension, through-record_of, through-attribute_of}

or_none : {E : Type 0} (o : Option E) → o ≡ option_or o None
or_none None = refl
or_none (Some e) = refl

or_assoc : {E : Type 0} (a b c : Option E) → option_or (option_or a b) c ≡ option_or a (option_or b c)
or_assoc None b c = refl
or_assoc (Some e) b c = refl

module _ {N M E : Type 0} (s : Reference N → Result M E) where
  -- the result is refused exactly with the first of these references that is
  abbrev pub Follows : {B : Type 0} → Result B E → Refs N → Type 0
  Follows r refs = result_err r ≡ first_refusal s refs

  pub first_refusal-append : (xs ys : Refs N) → first_refusal s (xs ++ ys) ≡ option_or (first_refusal s xs) (first_refusal s ys)
  first_refusal-append [] ys = refl
  first_refusal-append (x ∷ xs) ys = ap (option_or (result_err (s x))) (first_refusal-append xs ys) ∙ sym (or_assoc (result_err (s x)) (first_refusal s xs) (first_refusal s ys))

  -- a name
  pub follows_name : (r : Reference N) → Follows (s r) (r ∷ [])
  follows_name r = or_none (result_err (s r))

  -- one part after another
  pub follows_then : {A B : Type 0} (p : Result A E) (k : A → Result B E) (xs ys : Refs N) → Follows p xs → ((a : A) → Follows (k a) ys) → Follows (and_then p k) (xs ++ ys)
  follows_then (Ok a) k xs ys is so = so a ∙ (λ i. option_or (is i) (first_refusal s ys)) ∙ sym (first_refusal-append xs ys)
  follows_then (Err e) k xs ys is so = (λ i. option_or (is i) (first_refusal s ys)) ∙ sym (first_refusal-append xs ys)

  -- the last part
  pub follows_last : {A B : Type 0} (p : Result A E) (made : A → B) (xs : Refs N) → Follows p xs → Follows (and_then p (λ a. Ok (made a))) xs
  follows_last (Ok a) made xs is = is
  follows_last (Err e) made xs is = is

  -- the values of a map
  follows_values : {K V W : Type 0} (f : V → Result W E) (refs : V → Refs N) (es : List (K × V)) → AllByRecursion {X = K × V} (λ e. Follows (f e.1) (refs e.1)) es → Follows (all_values (map_values f es)) (flat_map (λ e. refs e.1) es)
  follows_values f refs [] all = refl
  follows_values f refs (e ∷ es) all =
      follows_then (f e.1) _ (refs e.1) (flat_map (λ e. refs e.1) es) all.0 (λ w. follows_last (all_values (map_values f es)) (λ ws. (e.0, w) ∷ ws) (flat_map (λ e. refs e.1) es) (follows_values f refs es all.1))

  module _ {V W : Type 0} (f : V → Result W E) (refs : V → Refs N) (each : (v : V) → Follows (f v) (refs v)) where
    pub follows_map : {K : Type 0} (es : List (K × V)) → Follows (all_values (map_values f es)) (flat_map (λ e. refs e.1) es)
    follows_map {K} es = follows_values f refs es (all es)
      where
        all : (es : List (K × V)) → AllByRecursion {X = K × V} (λ e. Follows (f e.1) (refs e.1)) es
        all [] = tt
        all (e ∷ es) = (each e.1, all es)

    pub follows_items : (vs : List V) → Follows (all_items (map f vs)) (flat_map refs vs)
    follows_items [] = refl
    follows_items (v ∷ vs) = follows_then (f v) _ (refs v) (flat_map refs vs) (each v) (λ w. follows_last (all_items (map f vs)) (λ ws. w ∷ ws) (flat_map refs vs) (follows_items vs))

    pub follows_option : (o : Option V) → Follows (in_option (option_map f o)) (flat_map refs (option_to_list o))
    follows_option None = refl
    follows_option (Some v) = follows_then (f v) (λ w. Ok (Some w)) (refs v) [] (each v) (λ w. refl)

  abbrev Fits1 : SchemaType N → Type 0
  Fits1 t = Follows (through_type s t) (references t)

  abbrev Fits2 : TypeVariant N → Type 0
  Fits2 t = Follows (through_variant s t) (references_of_variant t)

  abbrev Fits3 : RecordType N → Type 0
  Fits3 t = Follows (through_record s t) (references_of_record t)

  abbrev Fits4 : TypeOfAttribute N → Type 0
  Fits4 t = Follows (through_attribute s t) (references_of_attribute t)

  -- a part with the same references
  same_refs : {A B : Type 0} {whole : Result B E} {refs all : Refs N} (part : Result A E) (made : A → B) → whole ≡ and_then part (λ a. Ok (made a)) → Follows part refs → all ≡ refs → Follows whole all
  same_refs {refs = refs} part made from is here = ap result_err from ∙ follows_last part made refs is ∙ sym (ap (first_refusal s) here)

  -- a name
  one_ref : {B : Type 0} {whole : Result B E} {all : Refs N} (r : Reference N) (made : M → B) → whole ≡ and_then (s r) (λ a. Ok (made a)) → all ≡ r ∷ [] → Follows whole all
  one_ref r made from here = same_refs {refs = r ∷ []} (s r) made from (follows_name r) here

  no_ref : {B : Type 0} {whole : Result B E} {all : Refs N} (made : B) → whole ≡ Ok made → all ≡ [] → Follows whole all
  no_ref made from here = ap result_err from ∙ sym (ap (first_refusal s) here)

  pub type_refused : (t : SchemaType N) → Fits1 t
  type_refused = by_cases Fits1 Fits2 Fits3 Fits4 (record {
    of_variant = λ v loc is. same_refs (through_variant s v) _ (through-Variant s v loc) is (fold-Variant type_refs variant_refs record_refs attribute_refs v loc);
    of_common = λ n loc. one_ref (named kind.Common n) _ (through-CommonTypeRef s n loc) (fold-CommonTypeRef type_refs variant_refs record_refs attribute_refs n loc);
    of_string = no_ref _ (through-String s) (fold-String type_refs variant_refs record_refs attribute_refs);
    of_long = no_ref _ (through-Long s) (fold-Long type_refs variant_refs record_refs attribute_refs);
    of_boolean = no_ref _ (through-Boolean s) (fold-Boolean type_refs variant_refs record_refs attribute_refs);
    of_set = λ t is. same_refs (through_type s t) _ (through-Set s t) is (fold-Set type_refs variant_refs record_refs attribute_refs t);
    of_record = λ r is. same_refs (through_record s r) _ (through-Record s r) is (fold-Record type_refs variant_refs record_refs attribute_refs r);
    of_entity = λ n. one_ref (named kind.Entity n) _ (through-Entity s n) (fold-Entity type_refs variant_refs record_refs attribute_refs n);
    of_entity_or_common = λ n. one_ref (named kind.CommonOrEntity n) _ (through-EntityOrCommon s n) (fold-EntityOrCommon type_refs variant_refs record_refs attribute_refs n);
    of_extension = λ w. no_ref _ (through-Extension s w) (fold-Extension type_refs variant_refs record_refs attribute_refs w);
    of_attributes = λ es additional all. same_refs (all_values (map_values (through_attribute s) es)) _ (through-record_of s es additional) (follows_values (through_attribute s) references_of_attribute es all) (fold-record_of type_refs variant_refs record_refs attribute_refs es additional ∙ flat_map-map (λ e. e.1) (λ e. (e.0, references_of_attribute e.1)) es);
    of_attribute = λ t annotations required is. same_refs (through_type s t) _ (through-attribute_of s t annotations required) is (fold-attribute_of type_refs variant_refs record_refs attribute_refs t annotations required);
  })

  -- names of one kind
  pub names_refused : (k : ReferenceType) (ns : List N) → Follows (through_names s k ns) (references_of_names k ns)
  names_refused k = follows_items (λ n. s (named k n)) (λ n. named k n ∷ []) (λ n. follows_name (named k n))
