-- SPDX-License-Identifier: Apache-2.0
-- Where a schema is compatible with an old one, entities of the old one are entities of the new one.
use Rattle.std.proofs.Common.{◌≡◌, ℕ, ◌||◌, Bool, true, false, if◌then◌else◌, List, [], ◌∷◌, codes, Option, Some, None, refl, sym, subst}
use Rattle.std.proofs.lemmas.Slice.Eq.{bytes_eq-Decides}
use Rattle.std.specs.BTreeMap.{is_at}
use Rattle.std.specs.Cmp.{Equal-is}
use Rattle.std.specs.List.{list_any}
use Rattle.std.specs.Map.{lookup}
use Rattle.std.specs.Prelude.{IfOk}
use Rattle.std.specs.Str.{bytes_eq}
use Rattle.std.specs.declared.result.Result.{Result}
use Rattle.std.specs.declared.result.Result.TheVariants.{Ok, Err}
use Rattle.serde_json.specs.Data.{Data, object, Items, no_items, item, Members, no_members, member}
use Rattle.serde_json.specs.Find.{get}
use Rattle.cedar_data.specs.Firsts.{AllPass}
use Rattle.cedar_names.proofs.NameOrder.{words_cmp-equal}
use Rattle.cedar_names.specs.Order.{words_cmp}
use Rattle.cedar_text.specs.Words.{has_word}
use Rattle.cedar_schema_error.specs.FullNames.{FullName, Uid}
use Rattle.cedar_unfold.specs.Resolved.{Resolved, ResolvedAttributes, Record, no_attributes, attribute}
use Rattle.cedar_world.specs.Schemas.{EntityKind, EnumeratedKind, Schema, SchemaEntity, StandardKind}
use Rattle.cedar_compat.specs.Compatible.{Compatible, KindStays, TagsStay, TypeStays}
use Rattle.cedar_compat.specs.of_checks.Lookups.{is_above}
use Rattle.cedar_compat.specs.Widening.{NeedsNoMore}
use Rattle.cedar_compat_laws.specs.NamesDiffer.{AllNamesDiffer, KindNamesDiffer, TagNamesDiffer}
use Rattle.cedar_compat_laws.proofs.TypesStay.{attributes-stay, fits-stay}
use Rattle.cedar_conform.specs.Entities.{AreEntities, AreTags, EachEntity, EachValue, HasData, IfThere, IsEmptyArray, IsEmptyObject, IsEntity, IsParentOf}
use Rattle.cedar_conform.specs.Fits.{EachItem, Fits, HasAll, IsListOf, IsThere, RefersTo}
use Rattle.cedar_conform.specs.References.{At, Known, may_have}

-- ---- lists and members

at-map : {P Q : Data → Type 0} (k : List ℕ) (d : Data) → ((e : Data) → P e → Q e) → At k P d → At k Q d
at-map k d f at = (at.0, at.1, f at.0 at.2)

if-there-map : {P Q : Data → Type 0} (o : Option Data) → ((e : Data) → P e → Q e) → IfThere P o → IfThere Q o
if-there-map None f there = tt
if-there-map (Some e) f there = f e there

items-map : {P Q : Data → Type 0} (ds : Items) → ((d : Data) → P d → Q d) → EachItem P ds → EachItem Q ds
items-map no_items f each = tt
items-map (item d ds) f each = (f d each.0, items-map ds f each.1)

values-map : {P Q : Data → Type 0} (ms : Members) → ((d : Data) → P d → Q d) → EachValue P ms → EachValue Q ms
values-map no_members f each = tt
values-map (member k d ms) f each = (f d each.0, values-map ms f each.1)

same-words : (a b : FullName) → is_at (words_cmp a) b ≡ true → a ≡ b
same-words a b is = (words_cmp-equal a b).0 ((Equal-is (words_cmp a b)).0 is)

-- what holds of each entity type holds of the one of a name
entry-named : (P : FullName → SchemaEntity → Type 0) (es : List (FullName × SchemaEntity)) (name : FullName) (ty : SchemaEntity) → AllPass (λ e. P e.0 e.1) es → lookup (is_at (words_cmp name)) es ≡ Some ty → P name ty
entry-named P [] name ty all is = absurd (cc)
entry-named P (e ∷ es) name ty all is = by_first (is_at (words_cmp name) e.0) refl is (entry-named P es name ty all.1)
  where
    same-type : Some e.1 ≡ Some ty → e.1 ≡ ty
    same-type is = cc

    by_first : (b : Bool) → is_at (words_cmp name) e.0 ≡ b → (if b then Some e.1 else lookup (is_at (words_cmp name)) es) ≡ Some ty → (lookup (is_at (words_cmp name)) es ≡ Some ty → P name ty) → P name ty
    by_first true same is rest = subst (λ n. P n ty) (sym (same-words name e.0 same)) (subst (λ t. P e.0 t) (same-type is) all.0)
    by_first false same is rest = rest is

-- what holds of each choice holds of one of them
word-among : (P : List ℕ → Type 0) (ids : List (List ℕ)) (id : List ℕ) → AllPass P ids → has_word ids id ≡ true → P id
word-among P [] id all is = absurd (cc)
word-among P (x ∷ xs) id all is = by_first (bytes_eq id x) refl is (word-among P xs id all.1)
  where
    by_first : (b : Bool) → bytes_eq id x ≡ b → b || has_word xs id ≡ true → (has_word xs id ≡ true → P id) → P id
    by_first true same is rest = subst P (sym ((bytes_eq-Decides id x).0 same)) all.0
    by_first false same is rest = rest is

-- what holds of each name holds of one of them
name-among : (P : FullName → Type 0) (names : List FullName) (name : FullName) → AllPass P names → list_any (is_at (words_cmp name)) names ≡ true → P name
name-among P [] name all is = absurd (cc)
name-among P (x ∷ xs) name all is = by_first (is_at (words_cmp name) x) refl is (name-among P xs name all.1)
  where
    by_first : (b : Bool) → is_at (words_cmp name) x ≡ b → b || list_any (is_at (words_cmp name)) xs ≡ true → (list_any (is_at (words_cmp name)) xs ≡ true → P name) → P name
    by_first true same is rest = subst P (sym (same-words name x same)) all.0
    by_first false same is rest = rest is

-- an object without members has the attributes, where none is required
none-required : (R : Schema) (fields : ResolvedAttributes) → NeedsNoMore no_attributes fields → HasAll R fields (object no_members)
none-required R no_attributes more = tt
none-required R (attribute name required ty others) more = (not-needed required more.0, none-required R others more.1)
  where
    not-needed : (required : Bool) → (required ≡ true → false ≡ true) → IsThere required (Fits R ty) None
    not-needed true more = absurd (never (more refl))
      where
        never : false ≡ true → ⊥
        never is = absurd (cc)
    not-needed false more = tt

module _ (S R : Schema) (compatible : Compatible S R) (distinct : AllNamesDiffer R) where
  -- ---- entities that are known

  may-have-stays : (old new : EntityKind) (id : List ℕ) → KindStays old new → may_have old id ≡ true → may_have new id ≡ true
  may-have-stays (StandardKind fields is_open tags) (StandardKind wider tag new) id stays may = refl
  may-have-stays (StandardKind fields is_open tags) (EnumeratedKind choices) id stays may = absurd stays
  may-have-stays (EnumeratedKind ids) (StandardKind wider tag new) id stays may = refl
  may-have-stays (EnumeratedKind ids) (EnumeratedKind choices) id stays may = word-among (λ x. has_word choices x ≡ true) ids id stays may

  -- what a type that is known is in the new schema
  abbrev StaysKnown : Uid → SchemaEntity → SchemaEntity → Type 0
  StaysKnown u old new = Known R u new × KindStays old.kind new.kind × AllPass (λ below. is_above new below ≡ true) old.descendants × KindNamesDiffer new.kind

  known-stays : (u : Uid) (old : SchemaEntity) → Known S u old → (new : SchemaEntity) × StaysKnown u old new
  known-stays u old known =
      let stays : TypeStays R u.ty old = entry-named (TypeStays R) S.entity_types u.ty old compatible known.0 in
      let new = stays.0 in
      (new, ((stays.1, may-have-stays old.kind new.kind u.id stays.2 known.1), stays.2, stays.3, entry-named (λ _ ty. KindNamesDiffer ty.kind) R.entity_types u.ty new distinct stays.1))

  refers-stays : (name : FullName) (d : Data) → RefersTo S name d → RefersTo R name d
  refers-stays name d is = let new = known-stays is.0 is.3.0 is.3.1 in (is.0, is.1, is.2, (new.0, new.1.0))

  parent-stays : (name : FullName) (d : Data) → IsParentOf S name d → IsParentOf R name d
  parent-stays name d is =
      let new = known-stays is.0 is.2.0 is.2.1 in
      (is.0, is.1, (new.0, new.1.0, name-among (λ below. is_above new.0 below ≡ true) is.2.0.descendants name new.1.2 is.2.2))

  parents-stay : (name : FullName) (d : Data) → IsListOf (IsParentOf S name) d → IsListOf (IsParentOf R name) d
  parents-stay name d are = (are.0, are.1, items-map are.0 (parent-stays name) are.2)

  -- ---- what entities have

  no-tags : (tags : Option Resolved) (d : Data) → IsEmptyObject d → AreTags R tags d
  no-tags None d empty = empty
  no-tags (Some tags) d empty = (no_members, empty, tt)

  tags-stay : (old new : Option Resolved) (d : Data) → TagsStay old new → TagNamesDiffer new → AreTags S old d → AreTags R new d
  tags-stay None new d stay once are = no-tags new d are
  tags-stay (Some tags) None d stay once are = absurd stay
  tags-stay (Some tags) (Some wider) d stay once are = (are.0, are.1, values-map are.0 (fits-stay S R refers-stays tags wider stay once) are.2)

  no-parents : (name : FullName) (d : Data) → IsEmptyArray d → IsListOf (IsParentOf R name) d
  no-parents name d empty = (no_items, empty, tt)

  nothing-fits : (fields : ResolvedAttributes) (tag : Bool) (d : Data) → NeedsNoMore no_attributes fields → IsEmptyObject d → Fits R (Record fields tag) d
  nothing-fits fields tag d more empty =
      ((no_members, empty, tt), subst (λ e. HasAll R fields e) (sym empty) (none-required R fields more))

  data-stays : (name : FullName) (old new : EntityKind) (d : Data) → KindStays old new → KindNamesDiffer new → HasData S name old d → HasData R name new d
  data-stays name (StandardKind fields is_open tags) (StandardKind wider tag new) d stays once has = (
    at-map (codes "attrs") d (attributes-stay S R refers-stays fields wider is_open tag stays.0 stays.1 once.0) has.0,
    at-map (codes "parents") d (parents-stay name) has.1,
    if-there-map (get (codes "tags") d) (λ e. tags-stay tags new e stays.2 once.1) has.2,
  )
  data-stays name (StandardKind fields is_open tags) (EnumeratedKind choices) d stays once has = absurd stays
  data-stays name (EnumeratedKind ids) (StandardKind wider tag new) d stays once has = (
    at-map (codes "attrs") d (λ e. nothing-fits wider tag e stays) has.0,
    at-map (codes "parents") d (no-parents name) has.1,
    if-there-map (get (codes "tags") d) (no-tags new) has.2,
  )
  data-stays name (EnumeratedKind ids) (EnumeratedKind choices) d stays once has = has

  -- ---- entities

  entity-stays : (d : Data) (u : Uid) → IsEntity S d u → IsEntity R d u
  entity-stays d u is =
      let old = is.2.0 in
      let new = known-stays u old is.2.1 in
      (is.0, is.1, (new.0, new.1.0, data-stays u.ty old.kind new.0.kind d new.1.1 new.1.3 is.2.2))

  each-stays : (ds : Items) (us : List Uid) → EachEntity S ds us → EachEntity R ds us
  each-stays no_items [] each = tt
  each-stays no_items (u ∷ us) each = absurd each
  each-stays (item d ds) [] each = absurd each
  each-stays (item d ds) (u ∷ us) each = (entity-stays d u each.0, each-stays ds us each.1)

  pub entities_stay : (d : Data) → AreEntities S d → AreEntities R d
  entities_stay d are = (are.0, are.1, (are.2.0, each-stays are.0 are.2.0 are.2.1, are.2.2))

-- where a call accepts only what is compatible
pub accepted-stay : {E : Type 0} (S R : Schema) (result : Result (Unit {0}) E) → IfOk result (λ u. Compatible S R) → AllNamesDiffer R → IfOk result (λ u. (d : Data) → AreEntities S d → AreEntities R d)
accepted-stay S R (Ok u) compatible differ = entities_stay S R compatible differ
accepted-stay S R (Err e) compatible differ = tt
