-- SPDX-License-Identifier: Apache-2.0
-- Undeclared names that are put together one after another are the set of all.
use Rattle.std.proofs.Common.{◌≡◌, ◌++◌, ◌&&◌, ◌||◌, Bool, true, false, not, List, [], ◌∷◌, cond, fold, map, refl, sym, ap, ◌∙◌, subst}
use Rattle.std.proofs.lemmas.List.{map-append}
use Rattle.std.proofs.lemmas.List.Sums.{fold-append}
use Rattle.std.specs.BTreeMap.{is_at}
use Rattle.std.specs.BTreeSet.{insert_key}
use Rattle.std.specs.Cmp.{Equal-is, IsTotalOrder}
use Rattle.std.specs.List.{AllByRecursion}
use Rattle.std.specs.List.Sorted.{IsStrictlySortedBy}
use Rattle.std.specs.Ordering.{match_ordering, ordering_reverse}
use Rattle.std.specs.declared.cmp.Ordering.{Ordering}
use Rattle.std.specs.declared.cmp.Ordering.TheVariants.{Less, Equal, Greater}
use Rattle.cedar_data.specs.Sets.{contains, IsSetOf}
use Rattle.cedar_missing.proofs.of_declared.Looked.{any_insert_key}
use Rattle.cedar_missing.specs.of_declared.Names.{Names, is_entity}
use Rattle.cedar_names.proofs.NameOrder.{words_cmp-equal}
use Rattle.cedar_names.specs.Components.{components}
use Rattle.cedar_names.specs.Names.{internal_cmp}
use Rattle.cedar_names.specs.Order.{words_cmp}
use Rattle.cedar_names.specs.OrderLaws.{words-total}
use Rattle.cedar_names.specs.declared.internal_name.InternalName.{InternalName}
use Rattle.cedar_missing.specs.of_schema_error.FullNames.{FullName}
use Rattle.cedar_written.specs.Reference.{named, parent}
use Rattle.cedar_written.specs.References.{Refs}
use Rattle.cedar_written.specs.declared.reference_type.ReferenceType.TheVariants.{Common, Entity, CommonOrEntity}
use Rattle.cedar_written.specs.declared.ty.SchemaType.{SchemaType}
use Rattle.cedar_undeclared.specs.Gathering.{references_of_types, with_all_undeclared, with_references, with_undeclared}
use Rattle.cedar_undeclared.specs.Undeclared.{IsUndeclaredAmong, names_of_entities}
use Rattle.cedar_undeclared.proofs.EntityNames.{all_entities_seen, entities}

module _ {K : Type 0} (cmp : K → K → Ordering) (total : IsTotalOrder cmp) where
  -- what is below a key and all others is below them with the key put in
  below_inserted : (x k : K) (ks : List K) → cmp x k ≡ Less → AllByRecursion (λ y. cmp x y ≡ Less) ks → AllByRecursion (λ y. cmp x y ≡ Less) (insert_key cmp ks k)
  below_inserted x k [] less all = (less, tt)
  below_inserted x k (y ∷ ks) less all = by (cmp k y) (below_inserted x k ks less all.1)
    where
      by : (o : Ordering) → AllByRecursion (λ y. cmp x y ≡ Less) (insert_key cmp ks k) → AllByRecursion (λ y. cmp x y ≡ Less) (match_ordering o (k ∷ y ∷ ks) (y ∷ ks) (y ∷ insert_key cmp ks k))
      by Less rest = (less, all)
      by Equal rest = all
      by Greater rest = (all.0, rest)

  below_further : (k x : K) (ks : List K) → cmp k x ≡ Less → AllByRecursion (λ y. cmp x y ≡ Less) ks → AllByRecursion (λ y. cmp k y ≡ Less) ks
  below_further k x [] less all = tt
  below_further k x (y ∷ ks) less all = (total.trans k x y less all.0, below_further k x ks less all.1)

  -- a key put in keeps the order
  pub inserted_ascends : (ks : List K) (k : K) → IsStrictlySortedBy cmp ks → IsStrictlySortedBy cmp (insert_key cmp ks k)
  unfolding IsStrictlySortedBy
  inserted_ascends [] k sorted = (tt, tt)
  inserted_ascends (x ∷ ks) k sorted = by (cmp k x) refl (inserted_ascends ks k sorted.1)
    where
      by : (o : Ordering) → cmp k x ≡ o → IsStrictlySortedBy cmp (insert_key cmp ks k) → IsStrictlySortedBy cmp (match_ordering o (k ∷ x ∷ ks) (x ∷ ks) (x ∷ insert_key cmp ks k))
      by Less e rest = ((e, below_further k x ks e sorted.0), sorted)
      by Equal e rest = sorted
      by Greater e rest = (below_inserted x k ks (total.antisymm x k ∙ ap ordering_reverse e) sorted.0, rest)

-- a name put in, as its components
inserted_seen : (ks : List InternalName) (k : InternalName) → map components (insert_key internal_cmp ks k) ≡ insert_key words_cmp (map components ks) (components k)
inserted_seen [] k = refl
inserted_seen (x ∷ ks) k = by (words_cmp (components k) (components x)) (inserted_seen ks k)
  where
    by : (o : Ordering) → map components (insert_key internal_cmp ks k) ≡ insert_key words_cmp (map components ks) (components k)
        → map components (match_ordering o (k ∷ x ∷ ks) (x ∷ ks) (x ∷ insert_key internal_cmp ks k))
        ≡ match_ordering o (components k ∷ components x ∷ map components ks) (components x ∷ map components ks) (components x ∷ insert_key words_cmp (map components ks) (components k))
    by Less h = refl
    by Equal h = refl
    by Greater h = ap (λ l. components x ∷ l) h

-- the order of component lists is total
names_total : IsTotalOrder words_cmp
names_total = words-total (λ (n : FullName). n)

module _ (names : Names) where
  -- a name put to the others, unless it is a declared entity type
  abbrev put : List FullName → FullName → List FullName
  put ks n = cond (is_entity names n) ks (insert_key words_cmp ks n)

  put_seen : (ks : List InternalName) (n : InternalName) → map components (with_undeclared names ks n) ≡ put (map components ks) (components n)
  put_seen ks n = by (is_entity names (components n))
    where
      by : (b : Bool) → map components (cond b ks (insert_key internal_cmp ks n)) ≡ cond b (map components ks) (insert_key words_cmp (map components ks) (components n))
      by true = refl
      by false = inserted_seen ks n

  all_put_seen : (ks more : List InternalName) → map components (with_all_undeclared names ks more) ≡ fold put (map components ks) (map components more)
  all_put_seen ks [] = refl
  all_put_seen ks (n ∷ more) = all_put_seen (with_undeclared names ks n) more ∙ ap (λ l. fold put l (map components more)) (put_seen ks n)

  -- the order is kept
  put_ascends : (ks : List FullName) (n : FullName) → IsStrictlySortedBy words_cmp ks → IsStrictlySortedBy words_cmp (put ks n)
  put_ascends ks n sorted = by (is_entity names n)
    where
      by : (b : Bool) → IsStrictlySortedBy words_cmp (cond b ks (insert_key words_cmp ks n))
      by true = sorted
      by false = inserted_ascends words_cmp names_total ks n sorted

  all_put_ascend : (ks more : List FullName) → IsStrictlySortedBy words_cmp ks → IsStrictlySortedBy words_cmp (fold put ks more)
  all_put_ascend ks [] sorted = sorted
  all_put_ascend ks (n ∷ more) sorted = all_put_ascend (put ks n) more (put_ascends ks n sorted)

  -- what they contain then
  declared_too : (q n : FullName) → is_at (words_cmp q) n ≡ true → is_entity names q ≡ is_entity names n
  declared_too q n tied = ap (is_entity names) ((words_cmp-equal q n).0 ((Equal-is (words_cmp q n)).0 tied))

  put_contains : (ks : List FullName) (n q : FullName) → contains words_cmp (put ks n) q ≡ ((is_at (words_cmp q) n && not (is_entity names q)) || contains words_cmp ks q)
  put_contains ks n q = by (is_entity names n) (declared_too q n)
    where
      declared_not : (here also : Bool) → (here ≡ true → also ≡ true) → (here && not also) ≡ false
      declared_not true also same = ap not (same refl)
      declared_not false also same = refl

      undeclared_not : (here also : Bool) → (here ≡ true → also ≡ false) → (here && not also) ≡ here
      undeclared_not true also same = ap not (same refl)
      undeclared_not false also same = refl

      by : (declared : Bool) → (is_at (words_cmp q) n ≡ true → is_entity names q ≡ declared)
          → contains words_cmp (cond declared ks (insert_key words_cmp ks n)) q ≡ ((is_at (words_cmp q) n && not (is_entity names q)) || contains words_cmp ks q)
      by true same = sym (ap (λ b. b || contains words_cmp ks q) (declared_not (is_at (words_cmp q) n) (is_entity names q) same))
      by false same = any_insert_key names_total q n ks ∙ sym (ap (λ b. b || contains words_cmp ks q) (undeclared_not (is_at (words_cmp q) n) (is_entity names q) same))

  all_put_contain : (ks more : List FullName) (q : FullName) → contains words_cmp (fold put ks more) q ≡ ((contains words_cmp more q && not (is_entity names q)) || contains words_cmp ks q)
  all_put_contain ks [] q = refl
  all_put_contain ks (n ∷ more) q =
      all_put_contain (put ks n) more q
      ∙ ap (λ b. (contains words_cmp more q && not (is_entity names q)) || b) (put_contains ks n q)
      ∙ regroup (contains words_cmp more q) (is_at (words_cmp q) n) (not (is_entity names q)) (contains words_cmp ks q)
    where
      regroup : (m h d k : Bool) → ((m && d) || ((h && d) || k)) ≡ (((h || m) && d) || k)
      regroup true true true k = refl
      regroup true false true k = refl
      regroup false true true k = refl
      regroup false false true k = refl
      regroup true true false k = refl
      regroup true false false k = refl
      regroup false true false k = refl
      regroup false false false k = refl

  -- references that are put in are their names
  references_put : (ks : List InternalName) (rs : Refs InternalName) → with_references names ks rs ≡ with_all_undeclared names ks (entities rs)
  references_put ks [] = refl
  references_put ks (named Common n ∷ rs) = references_put ks rs
  references_put ks (named Entity n ∷ rs) = references_put (with_undeclared names ks n) rs
  references_put ks (named CommonOrEntity n ∷ rs) = references_put ks rs
  references_put ks (parent id ty ∷ rs) = references_put ks rs

  none_ascends : IsStrictlySortedBy words_cmp []
  unfolding IsStrictlySortedBy
  none_ascends = tt

  or_none : (b : Bool) → (b || false) ≡ b
  or_none true = refl
  or_none false = refl

  -- all that are put in are a set
  set_of_all : (more : List InternalName) → IsSetOf words_cmp (IsUndeclaredAmong names (map components more)) (map components (with_all_undeclared names [] more))
  set_of_all more = record {
    ascends = subst (IsStrictlySortedBy words_cmp) (sym (all_put_seen [] more)) (all_put_ascend [] (map components more) none_ascends);
    members = λ q. (λ here. sym (same q) ∙ here, λ there. same q ∙ there);
  }
    where
      same : (q : FullName) → contains words_cmp (map components (with_all_undeclared names [] more)) q ≡ (contains words_cmp (map components more) q && not (is_entity names q))
      same q = ap (λ l. contains words_cmp l q) (all_put_seen [] more) ∙ all_put_contain [] (map components more) q ∙ or_none (contains words_cmp (map components more) q && not (is_entity names q))

  module _ {K : Type 0} (commons : List (InternalName × SchemaType InternalName)) (uses : List (K × SchemaType InternalName)) (others : List InternalName) where
    abbrev all : List InternalName
    all = entities (references_of_types commons) ++ (entities (references_of_types uses) ++ others)

    all_seen : map components all ≡ names_of_entities commons uses others
    all_seen =
        map-append components (entities (references_of_types commons)) (entities (references_of_types uses) ++ others)
        ∙ ap (λ l. map components (entities (references_of_types commons)) ++ l) (map-append components (entities (references_of_types uses)) others)
        ∙ (λ i. sym (all_entities_seen commons) i ++ (sym (all_entities_seen uses) i ++ map components others))

    -- types and other names, put in one after another
    pub undeclared_set : (a b c d : List InternalName) → a ≡ [] → b ≡ with_references names a (references_of_types commons) → c ≡ with_references names b (references_of_types uses) → d ≡ with_all_undeclared names c others
        → IsSetOf words_cmp (IsUndeclaredAmong names (names_of_entities commons uses others)) (map components d)
    undeclared_set a b c d first second third fourth =
        subst (λ l. IsSetOf words_cmp (IsUndeclaredAmong names l) (map components d)) all_seen
        (subst (λ d. IsSetOf words_cmp (IsUndeclaredAmong names (map components all)) (map components d)) (sym whole) (set_of_all all))
      where
        whole : d ≡ with_all_undeclared names [] all
        whole =
            fourth
            ∙ ap (λ c. with_all_undeclared names c others) (third ∙ references_put b (references_of_types uses)
            ∙ ap (λ b. with_all_undeclared names b (entities (references_of_types uses))) (second ∙ ap (λ a. with_references names a (references_of_types commons)) first ∙ references_put [] (references_of_types commons)))
            ∙ sym (fold-append (with_undeclared names) (with_all_undeclared names [] (entities (references_of_types commons))) (entities (references_of_types uses)) others)
            ∙ sym (fold-append (with_undeclared names) [] (entities (references_of_types commons)) (entities (references_of_types uses) ++ others))
