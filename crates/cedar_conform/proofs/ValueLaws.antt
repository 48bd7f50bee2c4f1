-- SPDX-License-Identifier: Apache-2.0
-- A value passes the check of a type exactly where it fits the type.
use Rattle.std.proofs.Common.{◌≡◌, ℕ, ℤ, Bool, true, false, List, Option, Some, None, refl, ap, ◌∙◌}
use Rattle.std.specs.declared.result.Result.TheVariants.{Ok}
use Rattle.cedar_names.proofs.NameOrder.{words_eq-decides}
use Rattle.cedar_names.specs.Order.{words_eq}
use Rattle.serde_json.specs.Data.{Data, null, boolean, number, string, array, object, Members, no_members, member}
use Rattle.serde_json.specs.Find.{get}
use Rattle.cedar_json_values.specs.ActionValues.{long_of}
use Rattle.cedar_checks.specs.of_world.Schemas.{Schema}
use Rattle.cedar_schema_error.specs.FullNames.{FullName}
use Rattle.cedar_unfold.specs.Resolved.{Resolved, ResolvedAttributes, Boolean, Long, String, Extension, Set, Record, Entity, no_attributes, attribute}
use Rattle.cedar_conform.specs.Checks.{Check, each_item, each_member, in_array}
use Rattle.cedar_conform.specs.Fits.{Fits, HasAll, HasOnly, IsThere, KeysNamed, RefersTo, has_attribute}
use Rattle.cedar_conform.specs.ValueChecks.{attribute_check, attributes_check, boolean_check, entity_check, in_range, known_check, long_check, name_known_check, names_check, reference_check, same_type, string_check, value_check}
use Rattle.cedar_conform.proofs.CheckLaws.{array-pass, items-pass, object-pass, pass-items, pass-test, pass-under, test-pass, text-pass, under-pass}
use Rattle.cedar_checks.proofs.Steps.{both-pass, then-pass}
use Rattle.cedar_conform.proofs.ReferenceLaws.{known-pass, pass-known, pass-reference, reference-pass}

-- ---- plain values

boolean-pass : (d : Data) → boolean_check d ≡ Ok tt → (b : Bool) × (d ≡ boolean b)
boolean-pass null is = absurd (cc)
boolean-pass (boolean b) is = (b, refl)
boolean-pass (number n) is = absurd (cc)
boolean-pass (string s) is = absurd (cc)
boolean-pass (array ds) is = absurd (cc)
boolean-pass (object ms) is = absurd (cc)

range-pass : (o : Option ℤ) → in_range o ≡ Ok tt → (z : ℤ) × (o ≡ Some z)
range-pass None is = absurd (cc)
range-pass (Some z) is = (z, refl)

long-pass : (d : Data) → long_check d ≡ Ok tt → (z : ℤ) × (long_of d ≡ Some z)
long-pass null is = absurd (cc)
long-pass (boolean b) is = absurd (cc)
long-pass (number n) is = range-pass (long_of (number n)) is
long-pass (string s) is = absurd (cc)
long-pass (array ds) is = absurd (cc)
long-pass (object ms) is = absurd (cc)

pass-long : (d : Data) (z : ℤ) → long_of d ≡ Some z → long_check d ≡ Ok tt
pass-long null z is = absurd (cc)
pass-long (boolean b) z is = absurd (cc)
pass-long (number n) z is = ap in_range is
pass-long (string s) z is = absurd (cc)
pass-long (array ds) z is = absurd (cc)
pass-long (object ms) z is = absurd (cc)

string-pass : (d : Data) → string_check d ≡ Ok tt → (s : List ℕ) × (d ≡ string s)
string-pass d is = let text = text-pass (λ s. Ok tt) d tt is in (text.0, text.1)

-- ---- names of attributes

names-pass-members : (fields : ResolvedAttributes) (ms : Members) → each_member (λ k e. name_known_check fields k) ms ≡ Ok tt → KeysNamed fields ms
names-pass-members fields no_members is = tt
names-pass-members fields (member k d ms) is =
    let steps = both-pass (name_known_check fields k) (λ _. each_member (λ k e. name_known_check fields k) ms) tt is in
    ((test-pass (has_attribute fields k) tt steps.0 _ steps.1).0, names-pass-members fields ms steps.2)

pass-names-members : (fields : ResolvedAttributes) (ms : Members) → KeysNamed fields ms → each_member (λ k e. name_known_check fields k) ms ≡ Ok tt
pass-names-members fields no_members named = refl
pass-names-members fields (member k d ms) named =
    then-pass (name_known_check fields k) (λ _. each_member (λ k e. name_known_check fields k) ms) tt tt (pass-test (has_attribute fields k) tt _ named.0) (pass-names-members fields ms named.1)

names-pass : (fields : ResolvedAttributes) (d : Data) → names_check fields d ≡ Ok tt → HasOnly fields d
names-pass fields d is = let read = object-pass (each_member (λ k e. name_known_check fields k)) d tt is in (read.0, read.1, names-pass-members fields read.0 read.2)

pass-names : (fields : ResolvedAttributes) (d : Data) → HasOnly fields d → names_check fields d ≡ Ok tt
pass-names fields d is = ap (names_check fields) is.1 ∙ pass-names-members fields is.0 is.2

-- ---- references

module _ (S : Schema) where
  refers-pass : (name : FullName) (d : Data) → entity_check S name d ≡ Ok tt → RefersTo S name d
  unfolding entity_check
  refers-pass name d is =
      let read = both-pass (reference_check d) _ tt is in
      let same = both-pass (same_type name read.0.ty) _ tt read.2 in
      let known = both-pass (known_check S read.0) _ tt same.2 in
      let equal = test-pass (words_eq read.0.ty name) tt same.0 _ same.1 in
      (read.0, reference-pass d read.0 read.1, (words_eq-decides read.0.ty name).0 equal.0, (known.0, known-pass S read.0 known.0 known.1))

  pass-refers : (name : FullName) (d : Data) → RefersTo S name d → entity_check S name d ≡ Ok tt
  unfolding entity_check
  pass-refers name d is =
      let u = is.0 in
      then-pass (reference_check d) _ u tt (pass-reference d u is.1)
      (then-pass (same_type name u.ty) _ tt tt (pass-test (words_eq u.ty name) tt _ ((words_eq-decides u.ty name).1 is.2))
      (then-pass (known_check S u) _ is.3.0 tt (pass-known S u is.3.0 is.3.1) refl))

  -- ---- attributes that may be there

  there-pass : (name : List ℕ) (required : Bool) (check : Data → Check (Unit {0})) (o : Option Data) → attribute_check name required check o ≡ Ok tt → IsThere required (λ e. check e ≡ Ok tt) o
  there-pass name required check (Some e) is = under-pass name (check e) tt is
  there-pass name true check None is = absurd (cc)
  there-pass name false check None is = tt

  pass-there : (name : List ℕ) (required : Bool) (check : Data → Check (Unit {0})) (o : Option Data) → IsThere required (λ e. check e ≡ Ok tt) o → attribute_check name required check o ≡ Ok tt
  pass-there name required check (Some e) there = pass-under name (check e) tt there
  pass-there name true check None there = absurd there
  pass-there name false check None there = refl

  there-map : {P Q : Data → Type 0} (required : Bool) (o : Option Data) → ((e : Data) → P e → Q e) → IsThere required P o → IsThere required Q o
  there-map required (Some e) f there = f e there
  there-map true None f there = there
  there-map false None f there = there

  -- ---- values

  mutual
    pub value-pass : (T : Resolved) (d : Data) → value_check S T d ≡ Ok tt → Fits S T d
    value-pass Boolean d is = boolean-pass d is
    value-pass Long d is = long-pass d is
    value-pass String d is = string-pass d is
    value-pass (Extension name) d is = absurd (cc)
    value-pass (Set element) d is =
        let read = array-pass (each_item (value_check S element) 0) d tt is in
        (read.0, read.1, items-pass (value_check S element) 0 read.0 (value-pass element) read.2)
    value-pass (Record fields is_open) d is =
        let steps = both-pass (names_check fields d) (λ _. attributes_check S fields d) tt is in
        (names-pass fields d steps.1, fields-pass fields d steps.2)
    value-pass (Entity name) d is = refers-pass name d is

    pub fields-pass : (fields : ResolvedAttributes) (d : Data) → attributes_check S fields d ≡ Ok tt → HasAll S fields d
    fields-pass no_attributes d is = tt
    fields-pass (attribute name required ty others) d is =
        let steps = both-pass (attribute_check name required (value_check S ty) (get name d)) (λ _. attributes_check S others d) tt is in
        (there-map required (get name d) (value-pass ty) (there-pass name required (value_check S ty) (get name d) steps.1), fields-pass others d steps.2)

  mutual
    pub pass-value : (T : Resolved) (d : Data) → Fits S T d → value_check S T d ≡ Ok tt
    pass-value Boolean d fits = ap boolean_check fits.1
    pass-value Long d fits = pass-long d fits.0 fits.1
    pass-value String d fits = ap string_check fits.1
    pass-value (Extension name) d fits = absurd fits
    pass-value (Set element) d fits =
        ap (in_array (each_item (value_check S element) 0)) fits.1 ∙ pass-items (value_check S element) 0 fits.0 (pass-value element) fits.2
    pass-value (Record fields is_open) d fits =
        then-pass (names_check fields d) (λ _. attributes_check S fields d) tt tt (pass-names fields d fits.0) (pass-fields fields d fits.1)
    pass-value (Entity name) d fits = pass-refers name d fits

    pub pass-fields : (fields : ResolvedAttributes) (d : Data) → HasAll S fields d → attributes_check S fields d ≡ Ok tt
    pass-fields no_attributes d has = refl
    pass-fields (attribute name required ty others) d has =
        then-pass (attribute_check name required (value_check S ty) (get name d)) (λ _. attributes_check S others d) tt tt
        (pass-there name required (value_check S ty) (get name d) (there-map required (get name d) (pass-value ty) has.0)) (pass-fields others d has.1)
