-- SPDX-License-Identifier: Apache-2.0
-- Where a type widens to another, each value that fits it fits the other, if references stay.
use Rattle.std.proofs.Common.{◌≡◌, ℕ, Bool, true, false, if◌then◌else◌, List, Option, Some, None, refl, sym, ap, ◌∙◌, subst}
use Rattle.std.proofs.lemmas.Cmp.{tied_itself}
use Rattle.std.proofs.lemmas.Map.Lookups.{exact_bytes}
use Rattle.std.specs.Cmp.{Equal-is}
use Rattle.std.specs.Cmp.Lexicographic.{nat_list_cmp_total, slice_cmp}
use Rattle.std.specs.Ordering.{is_eq, match_ordering, nat_cmp}
use Rattle.std.specs.declared.cmp.Ordering.{Ordering}
use Rattle.std.specs.declared.cmp.Ordering.TheVariants.{Less, Equal, Greater}
use Rattle.serde_json.specs.Data.{Data, object, Items, no_items, item, Members, no_members, member}
use Rattle.serde_json.specs.Find.{get, get_member}
use Rattle.cedar_data.specs.Maps.{is_text}
use Rattle.cedar_schema_error.specs.FullNames.{FullName}
use Rattle.cedar_unfold.specs.Resolved.{Resolved, ResolvedAttributes, Boolean, Long, String, Extension, Set, Record, Entity, no_attributes, attribute}
use Rattle.cedar_world.specs.Schemas.{Schema}
use Rattle.cedar_compat.specs.Widening.{HasWidened, NeedsNoMore, Widens, attribute_named, is_required, needs}
use Rattle.cedar_compat_laws.specs.NamesDiffer.{NamesDiffer, TypeNamesDiffer}
use Rattle.cedar_conform.specs.Fits.{EachItem, Fits, HasAll, HasOnly, IsThere, KeysNamed, RefersTo, has_attribute}

-- ---- names of attributes

pub same-text : (a b : List ℕ) → is_text a b ≡ true → a ≡ b
same-text a b is = exact_bytes a b ((Equal-is (slice_cmp nat_cmp a b)).0 is)

text-itself : (a : List ℕ) → is_text a a ≡ true
text-itself a = ap is_eq (tied_itself nat_list_cmp_total a)

-- an attribute that is there is the one of its name
named-there : (fields : ResolvedAttributes) (k : List ℕ) → has_attribute fields k ≡ true → (o : Bool × Resolved) × (attribute_named fields k ≡ Some o)
named-there no_attributes k is = absurd (cc)
named-there (attribute name required ty others) k is = by_first (is_text k name) is (named-there others k)
  where
    by_first : (b : Bool) → (if b then true else has_attribute others k) ≡ true → (has_attribute others k ≡ true → (o : Bool × Resolved) × (attribute_named others k ≡ Some o)) → (o : Bool × Resolved) × ((if b then Some (required, ty) else attribute_named others k) ≡ Some o)
    by_first true is rest = ((required, ty), refl)
    by_first false is rest = rest is

there-named : (fields : ResolvedAttributes) (k : List ℕ) (o : Bool × Resolved) → attribute_named fields k ≡ Some o → has_attribute fields k ≡ true
there-named no_attributes k o is = absurd (cc)
there-named (attribute name required ty others) k o is = by_first (is_text k name) is (there-named others k o)
  where
    by_first : (b : Bool) → (if b then Some (required, ty) else attribute_named others k) ≡ Some o → (attribute_named others k ≡ Some o → has_attribute others k ≡ true) → (if b then true else has_attribute others k) ≡ true
    by_first true is rest = refl
    by_first false is rest = rest is

needed-there : (fields : ResolvedAttributes) (k : List ℕ) → needs fields k ≡ true → (o : Bool × Resolved) × (attribute_named fields k ≡ Some o) × (o.0 ≡ true)
needed-there fields k is = of_option (attribute_named fields k) is
  where
    of_option : (found : Option (Bool × Resolved)) → is_required found ≡ true → (o : Bool × Resolved) × (found ≡ Some o) × (o.0 ≡ true)
    of_option None is = absurd (cc)
    of_option (Some o) is = (o, refl, is)

-- of distinct names each attribute is the one of its name: what holds of those by name holds of all
apart : (others : ResolvedAttributes) (name k : List ℕ) (o : Bool × Resolved) → has_attribute others name ≡ false → attribute_named others k ≡ Some o → is_text k name ≡ false
apart others name k o new is = by_test (is_text k name) refl
  where
    clash : (k' : List ℕ) → has_attribute others k' ≡ false → attribute_named others k' ≡ Some o → ⊥
    clash k' new is = absurd (cc (there-named others k' o is))

    by_test : (b : Bool) → is_text k name ≡ b → b ≡ false
    by_test true same = absurd (clash k (subst (λ n. has_attribute others n ≡ false) (sym (same-text k name same)) new) is)
    by_test false same = refl

first-required : (p q : Bool × Resolved) → Some p ≡ Some q → p.0 ≡ q.0
first-required p q is = cc

first-type : (p q : Bool × Resolved) → Some p ≡ Some q → p.1 ≡ q.1
first-type p q is = cc

-- what new attributes require
needed-before : (old new : ResolvedAttributes) (k : List ℕ) (o : Bool × Resolved) → NeedsNoMore old new → attribute_named new k ≡ Some o → o.0 ≡ true → needs old k ≡ true
needed-before old no_attributes k o more is required = absurd (cc)
needed-before old (attribute name needed ty others) k o more is required = by_first (is_text k name) refl is (λ later. needed-before old others k o more.1 later required)
  where
    by_first : (b : Bool) → is_text k name ≡ b → (if b then Some (needed, ty) else attribute_named others k) ≡ Some o → (attribute_named others k ≡ Some o → needs old k ≡ true) → needs old k ≡ true
    by_first true same is rest = subst (λ n. needs old n ≡ true) (sym (same-text k name same)) (more.0 (first-required (needed, ty) o is ∙ required))
    by_first false same is rest = rest is

-- ---- members

-- a key that has a member is the name of an attribute
key-named : (fields : ResolvedAttributes) (ms : Members) (k : List ℕ) (e : Data) → KeysNamed fields ms → get_member k ms ≡ Some e → has_attribute fields k ≡ true
key-named fields no_members k e named is = absurd (cc)
key-named fields (member l d ms) k e named is = by_order (slice_cmp nat_cmp k l) refl is (key-named fields ms k e named.1)
  where
    by_order : (o : Ordering) → slice_cmp nat_cmp k l ≡ o → match_ordering o (get_member k ms) (Some d) (get_member k ms) ≡ Some e → (get_member k ms ≡ Some e → has_attribute fields k ≡ true) → has_attribute fields k ≡ true
    by_order Less same is rest = rest is
    by_order Equal same is rest = subst (λ n. has_attribute fields n ≡ true) (sym (exact_bytes k l same)) named.0
    by_order Greater same is rest = rest is

-- ---- values

items-map : {P Q : Data → Type 0} (ds : Items) → ((d : Data) → P d → Q d) → EachItem P ds → EachItem Q ds
items-map no_items f each = tt
items-map (item d ds) f each = (f d each.0, items-map ds f each.1)

there-map : {P Q : Data → Type 0} (required : Bool) (o : Option Data) → ((e : Data) → P e → Q e) → IsThere required P o → IsThere required Q o
there-map required (Some e) f there = f e there
there-map true None f there = there
there-map false None f there = there

-- names that the old record has, the new one has
names-stay : (fields wider : ResolvedAttributes) (k : List ℕ) → HasWidened fields wider → has_attribute fields k ≡ true → has_attribute wider k ≡ true
names-stay no_attributes wider k has is = absurd (cc)
names-stay (attribute name required ty others) wider k has is = by_first (is_text k name) refl is (names-stay others wider k has.1)
  where
    by_first : (b : Bool) → is_text k name ≡ b → (if b then true else has_attribute others k) ≡ true → (has_attribute others k ≡ true → has_attribute wider k ≡ true) → has_attribute wider k ≡ true
    by_first true same is rest = subst (λ n. has_attribute wider n ≡ true) (sym (same-text k name same)) (there-named wider name has.0.0 has.0.1)
    by_first false same is rest = rest is

keys-stay : (fields wider : ResolvedAttributes) (ms : Members) → HasWidened fields wider → KeysNamed fields ms → KeysNamed wider ms
keys-stay fields wider no_members has named = tt
keys-stay fields wider (member k d ms) has named = (names-stay fields wider k has named.0, keys-stay fields wider ms has named.1)

-- the type of an attribute of distinct names is one of distinct names
type-distinct : (wider : ResolvedAttributes) (k : List ℕ) (o : Bool × Resolved) → NamesDiffer wider → attribute_named wider k ≡ Some o → TypeNamesDiffer o.1
type-distinct no_attributes k o distinct is = absurd (cc)
type-distinct (attribute name required ty others) k o distinct is = by_first (is_text k name) is (type-distinct others k o distinct.2)
  where
    by_first : (b : Bool) → (if b then Some (required, ty) else attribute_named others k) ≡ Some o → (attribute_named others k ≡ Some o → TypeNamesDiffer o.1) → TypeNamesDiffer o.1
    by_first true is rest = subst (λ T. TypeNamesDiffer T) (first-type (required, ty) o is) distinct.1
    by_first false is rest = rest is

module _ (S R : Schema) (refers : (name : FullName) (d : Data) → RefersTo S name d → RefersTo R name d) where
  -- what is there under a name fits the new attribute of the name
  abbrev MovedAt : ResolvedAttributes → Data → Bool → List ℕ → Type 0
  MovedAt wider d required k = (found : Bool × Resolved) × (attribute_named wider k ≡ Some found) × IsThere required (Fits R found.1) (get k d)

  -- what is there under the names of the old attributes fits the new ones
  abbrev Moved : ResolvedAttributes → Data → ResolvedAttributes → Type 0
  Moved wider d no_attributes = Unit {0}
  Moved wider d (attribute name required ty others) = MovedAt wider d required name × Moved wider d others

  -- the same by name
  moved-named : (wider : ResolvedAttributes) (d : Data) (fields : ResolvedAttributes) (k : List ℕ) (o : Bool × Resolved) → Moved wider d fields → attribute_named fields k ≡ Some o → MovedAt wider d o.0 k
  moved-named wider d no_attributes k o moved is = absurd (cc)
  moved-named wider d (attribute name required ty others) k o moved is = by_first (is_text k name) refl is (moved-named wider d others k o moved.1)
    where
      by_first : (b : Bool) → is_text k name ≡ b → (if b then Some (required, ty) else attribute_named others k) ≡ Some o → (attribute_named others k ≡ Some o → MovedAt wider d o.0 k) → MovedAt wider d o.0 k
      by_first true same is rest =
          subst (λ n. MovedAt wider d o.0 n) (sym (same-text k name same)) (subst (λ b. MovedAt wider d b name) (first-required (required, ty) o is) moved.0)
      by_first false same is rest = rest is

  -- what is required is there
  not-missing : (b : Bool) (P : Data → Type 0) → b ≡ true → IsThere b P None → ⊥
  not-missing true P is there = there
  not-missing false P is there = absurd (cc)

  -- a new attribute of this name has what it needs
  by-name : (fields wider : ResolvedAttributes) (ms : Members) → KeysNamed fields ms → NeedsNoMore fields wider → Moved wider (object ms) fields → (k : List ℕ) (o : Bool × Resolved) → attribute_named wider k ≡ Some o → IsThere o.0 (Fits R o.1) (get_member k ms)
  by-name fields wider ms named more moved k o is = by_member (get_member k ms) refl
    where
      same-found : (p q : Bool × Resolved) → attribute_named wider k ≡ Some p → attribute_named wider k ≡ Some q → p.1 ≡ q.1
      same-found p q one other = first-type p q (sym one ∙ other)

      by_need : (b : Bool) → get_member k ms ≡ None → o.0 ≡ b → IsThere b (Fits R o.1) None
      by_need true none needed =
          let old = needed-there fields k (needed-before fields wider k o more is needed) in
          let new = moved-named wider (object ms) fields k old.0 moved old.1 in
          not-missing old.0.0 (Fits R new.0.1) old.2 (subst (λ m. IsThere old.0.0 (Fits R new.0.1) m) none new.2)
      by_need false none needed = tt

      by_member : (m : Option Data) → get_member k ms ≡ m → IsThere o.0 (Fits R o.1) m
      by_member (Some e) there =
          let old = named-there fields k (key-named fields ms k e named there) in
          let new = moved-named wider (object ms) fields k old.0 moved old.1 in
          let fits : IsThere old.0.0 (Fits R new.0.1) (Some e) = subst (λ m. IsThere old.0.0 (Fits R new.0.1) m) there new.2 in
          subst (λ T. Fits R T e) (same-found new.0 o new.1 is) fits
      by_member None none = by_need o.0 none refl

  -- of distinct names all have what they need where each has by its name
  all-by-name : (wider : ResolvedAttributes) (d : Data) → NamesDiffer wider → ((k : List ℕ) (o : Bool × Resolved) → attribute_named wider k ≡ Some o → IsThere o.0 (Fits R o.1) (get k d)) → HasAll R wider d
  all-by-name no_attributes d distinct each = tt
  all-by-name (attribute name required ty others) d distinct each = (
    each name (required, ty) (ap (λ b. if b then Some (required, ty) else attribute_named others name) (text-itself name)),
    all-by-name others d distinct.2 (λ k o is. each k o (ap (λ b. if b then Some (required, ty) else attribute_named others k) (apart others name k o distinct.0 is) ∙ is)),
  )

  -- a record
  record-stays : (fields wider : ResolvedAttributes) (d : Data) → HasWidened fields wider → NeedsNoMore fields wider → NamesDiffer wider → HasOnly fields d → Moved wider d fields → HasOnly wider d × HasAll R wider d
  record-stays fields wider d has more distinct only moved =
      let ms = only.0 in
      let there : HasAll R wider (object ms) =
      all-by-name wider (object ms) distinct (by-name fields wider ms only.2 more (subst (λ e. Moved wider e fields) only.1 moved)) in
      ((ms, only.1, keys-stay fields wider ms has only.2), subst (λ e. HasAll R wider e) (sym only.1) there)

  mutual
    pub fits-stay : (old new : Resolved) → Widens old new → TypeNamesDiffer new → (d : Data) → Fits S old d → Fits R new d
    fits-stay Boolean new widens distinct d fits = subst (λ T. Fits R T d) (sym widens) fits
    fits-stay Long new widens distinct d fits = subst (λ T. Fits R T d) (sym widens) fits
    fits-stay String new widens distinct d fits = subst (λ T. Fits R T d) (sym widens) fits
    fits-stay (Extension name) new widens distinct d fits = absurd fits
    fits-stay (Set element) new widens distinct d fits =
        let wider_distinct : TypeNamesDiffer widens.0 = subst TypeNamesDiffer widens.1 distinct in
        subst (λ T. Fits R T d) (sym widens.1) (fits.0, fits.1, items-map fits.0 (fits-stay element widens.0 widens.2 wider_distinct) fits.2)
    fits-stay (Record fields is_open) new widens distinct d fits =
        let wider_distinct : NamesDiffer widens.0 = subst TypeNamesDiffer widens.1.1 distinct in
        subst (λ T. Fits R T d) (sym widens.1.1)
        (record-stays fields widens.0 d widens.2.0 widens.2.1 wider_distinct fits.0 (attributes-move fields widens.0 widens.2.0 wider_distinct d fits.1))
    fits-stay (Entity name) new widens distinct d fits = subst (λ T. Fits R T d) (sym widens) (refers name d fits)

    pub attributes-move : (fields wider : ResolvedAttributes) → HasWidened fields wider → NamesDiffer wider → (d : Data) → HasAll S fields d → Moved wider d fields
    attributes-move no_attributes wider has distinct d all = tt
    attributes-move (attribute name required ty others) wider has distinct d all =
        let found = has.0.0 in
        ((found, has.0.1, there-map required (get name d) (fits-stay ty found.1 has.0.2 (type-distinct wider name found distinct has.0.1)) all.0), attributes-move others wider has.1 distinct d all.1)

  -- the attributes of an entity type
  pub attributes-stay : (fields wider : ResolvedAttributes) (is_open tag : Bool) → HasWidened fields wider → NeedsNoMore fields wider → NamesDiffer wider → (d : Data) → Fits S (Record fields is_open) d → Fits R (Record wider tag) d
  attributes-stay fields wider is_open tag has more distinct d fits =
      record-stays fields wider d has more distinct fits.0 (attributes-move fields wider has distinct d fits.1)
