-- SPDX-License-Identifier: Apache-2.0
-- A list passes the check of entities exactly where it is one of entities of the schema, of which none stands twice.
use Rattle.std.proofs.Common.{◌≡◌, ◌≢◌, ℕ, ◌+◌, ◌||◌, Bool, true, false, if◌then◌else◌, List, [], ◌∷◌, codes, decimal, Option, Some, None, refl, sym, ap, ◌∙◌, subst}
use Rattle.std.specs.BTreeMap.{is_at}
use Rattle.std.specs.Cmp.{Equal-is}
use Rattle.std.specs.Ordering.{is_eq}
use Rattle.std.specs.declared.result.Result.TheVariants.{Ok}
use Rattle.serde_json.specs.Data.{Data, array, object, Items, no_items, item, Members, no_members, member}
use Rattle.serde_json.specs.Find.{get}
use Rattle.cedar_json_types.specs.Shapes.{Keyed}
use Rattle.cedar_checks.specs.of_world.Schemas.{EntityKind, EnumeratedKind, Schema, SchemaEntity, StandardKind}
use Rattle.cedar_schema_error.proofs.UidOrder.{uid_equal, uid_itself}
use Rattle.cedar_schema_error.specs.FullNames.{FullName, Uid, uid_cmp}
use Rattle.cedar_unfold.specs.Resolved.{Resolved, Record}
use Rattle.cedar_conform.specs.Checks.{Check, each_item, each_value, in_array, in_object, keys_check, needs, under}
use Rattle.cedar_conform.specs.Entities.{AreDistinct, AreEntities, AreTags, EachEntity, EachValue, HasData, IfThere, IsEmptyArray, IsEmptyObject, IsEntity, IsNone, IsParentOf, entity_keys}
use Rattle.cedar_conform.specs.EntityChecks.{above_check, data_check, each_entity, entities_check, entity_of, is_among, items_check, known_reference_check, no_items_check, no_members_check, no_tags_check, nothing_check, parent_check, repeated_check, repeats_check, tags_check}
use Rattle.cedar_conform.specs.Fits.{IsListOf}
use Rattle.cedar_conform.specs.References.{At, IsReference, Known}
use Rattle.cedar_checks.specs.Lookups.{is_above}
use Rattle.cedar_conform.specs.ValueChecks.{known_check, reference_check, value_check}
use Rattle.cedar_conform.proofs.CheckLaws.{allows-pass, array-pass, at-map, if-there-map, items-pass, keys-pass, needs-pass, object-pass, pass-allows, pass-items, pass-keys, pass-needs, pass-test, pass-under, test-pass, under-pass}
use Rattle.cedar_checks.proofs.Steps.{both-pass, then-pass}
use Rattle.cedar_conform.proofs.ReferenceLaws.{known-pass, pass-known, pass-reference, reference-pass}
use Rattle.cedar_conform.proofs.ValueLaws.{pass-value, value-pass}

-- ---- nothing

empty-object-pass : (d : Data) → in_object no_members_check d ≡ Ok tt → IsEmptyObject d
empty-object-pass d is = let read = object-pass no_members_check d tt is in read.1 ∙ ap object (none read.0 read.2)
  where
    none : (ms : Members) → no_members_check ms ≡ Ok tt → ms ≡ no_members
    none no_members is = refl
    none (member k e ms) is = absurd (cc)

pass-empty-object : (d : Data) → IsEmptyObject d → in_object no_members_check d ≡ Ok tt
pass-empty-object d is = ap (in_object no_members_check) is

empty-array-pass : (d : Data) → in_array no_items_check d ≡ Ok tt → IsEmptyArray d
empty-array-pass d is = let read = array-pass no_items_check d tt is in read.1 ∙ ap array (none read.0 read.2)
  where
    none : (ds : Items) → no_items_check ds ≡ Ok tt → ds ≡ no_items
    none no_items is = refl
    none (item e ds) is = absurd (cc)

pass-empty-array : (d : Data) → IsEmptyArray d → in_array no_items_check d ≡ Ok tt
pass-empty-array d is = ap (in_array no_items_check) is

untagged-pass : (d : Data) → in_object no_tags_check d ≡ Ok tt → IsEmptyObject d
untagged-pass d is = let read = object-pass no_tags_check d tt is in read.1 ∙ ap object (none read.0 read.2)
  where
    none : (ms : Members) → no_tags_check ms ≡ Ok tt → ms ≡ no_members
    none no_members is = refl
    none (member k e ms) is = absurd (cc)

-- ---- values of a map

values-pass : {P : Data → Type 0} (check : Data → Check (Unit {0})) (ms : Members) → ((d : Data) → check d ≡ Ok tt → P d) → each_value check ms ≡ Ok tt → EachValue P ms
values-pass check no_members f is = tt
values-pass check (member k d ms) f is =
    let steps = both-pass (under k (check d)) (λ _. each_value check ms) tt is in
    (f d (under-pass k (check d) tt steps.1), values-pass check ms f steps.2)

pass-values : {P : Data → Type 0} (check : Data → Check (Unit {0})) (ms : Members) → ((d : Data) → P d → check d ≡ Ok tt) → EachValue P ms → each_value check ms ≡ Ok tt
pass-values check no_members f each = refl
pass-values check (member k d ms) f each =
    then-pass (under k (check d)) (λ _. each_value check ms) tt tt (pass-under k (check d) tt (f d each.0)) (pass-values check ms f each.1)

-- ---- what stands twice

either-none : (a b : Bool) → a || b ≡ false → (a ≡ false) × (b ≡ false)
either-none true b is = absurd (cc)
either-none false b is = (refl, is)

none-either : (a b : Bool) → a ≡ false → b ≡ false → a || b ≡ false
none-either a b is also = ap (λ x. x || b) is ∙ also

-- tests of entities that differ, and of those that don't
apart : (u v : Uid) → is_at (uid_cmp v) u ≡ false → u ≢ v
apart u v is same = true-is-not-false (sym (ap is_eq (uid_itself v)) ∙ ap (λ w. is_at (uid_cmp v) w) (sym same) ∙ is)
  where
    true-is-not-false : true ≡ false → ⊥
    true-is-not-false e = absurd (cc)

differs : (u v : Uid) (b : Bool) → is_at (uid_cmp v) u ≡ b → u ≢ v → b ≡ false
differs u v true is apart = absurd (apart (sym (uid_equal v u ((Equal-is (uid_cmp v u)).0 is))))
differs u v false is apart = refl

-- the entity is none of these
none-among : (u : Uid) (us : List Uid) → is_among us u ≡ false → IsNone u us
none-among u [] is = tt
none-among u (v ∷ us) is = let both = either-none (is_at (uid_cmp v) u) (is_among us u) is in (apart u v both.0, none-among u us both.1)

among-none : (u : Uid) (us : List Uid) → IsNone u us → is_among us u ≡ false
among-none u [] none = refl
among-none u (v ∷ us) none = none-either (is_at (uid_cmp v) u) (is_among us u) (differs u v (is_at (uid_cmp v) u) refl none.0) (among-none u us none.1)

-- none of the second is one of the first
abbrev AllNew : List Uid → List Uid → Type 0
AllNew before [] = Unit {0}
AllNew before (u ∷ us) = IsNone u before × AllNew before us

new-fewer : (v : Uid) (before us : List Uid) → AllNew (v ∷ before) us → AllNew before us × IsNone v us
new-fewer v before [] all = (tt, tt)
new-fewer v before (u ∷ us) all =
    let rest = new-fewer v before us all.1 in
    ((all.0.1, rest.0), (λ same. all.0.0 (sym same), rest.1))

new-more : (v : Uid) (before us : List Uid) → AllNew before us → IsNone v us → AllNew (v ∷ before) us
new-more v before [] all none = tt
new-more v before (u ∷ us) all none = ((λ same. none.0 (sym same), all.0), new-more v before us all.1 none.1)

unrepeated : (b : Bool) (place : ℕ) (u : Uid) (rest : Check (Unit {0})) → (if b then under (decimal place) (repeated_check u) else rest) ≡ Ok tt → (b ≡ false) × (rest ≡ Ok tt)
unrepeated true place u rest is = absurd (cc)
unrepeated false place u rest is = (refl, is)

distinct-pass : (place : ℕ) (before us : List Uid) → repeats_check place before us ≡ Ok tt → AllNew before us × AreDistinct us
distinct-pass place before [] is = (tt, tt)
distinct-pass place before (u ∷ us) is =
    let new = unrepeated (is_among before u) place u (repeats_check (place + 1) (u ∷ before) us) is in
    let rest = distinct-pass (place + 1) (u ∷ before) us new.1 in
    let fewer = new-fewer u before us rest.0 in
    ((none-among u before new.0, fewer.0), (fewer.1, rest.1))

pass-distinct : (place : ℕ) (before us : List Uid) → AllNew before us → AreDistinct us → repeats_check place before us ≡ Ok tt
pass-distinct place before [] all distinct = refl
pass-distinct place before (u ∷ us) all distinct =
    ap (λ b. if b then under (decimal place) (repeated_check u) else repeats_check (place + 1) (u ∷ before) us) (among-none u before all.0)
    ∙ pass-distinct (place + 1) (u ∷ before) us (new-more u before us all.1 distinct.0) distinct.1

all-new : (us : List Uid) → AllNew [] us
all-new [] = tt
all-new (u ∷ us) = (tt, all-new us)

-- ---- entities

module _ (S : Schema) where
  tags-pass : (tags : Option Resolved) (d : Data) → tags_check S tags d ≡ Ok tt → AreTags S tags d
  tags-pass None d is = untagged-pass d is
  tags-pass (Some t) d is =
      let read = object-pass (each_value (value_check S t)) d tt is in
      (read.0, read.1, values-pass (value_check S t) read.0 (value-pass S t) read.2)

  pass-tags : (tags : Option Resolved) (d : Data) → AreTags S tags d → tags_check S tags d ≡ Ok tt
  pass-tags None d are = ap (in_object no_tags_check) are
  pass-tags (Some t) d are =
      ap (in_object (each_value (value_check S t))) are.1 ∙ pass-values (value_check S t) are.0 (pass-value S t) are.2

  parent-pass : (name : FullName) (d : Data) → parent_check S name d ≡ Ok tt → IsParentOf S name d
  parent-pass name d is =
      let read = both-pass (reference_check d) _ tt is in
      let known = both-pass (known_check S read.0) (above_check read.0.ty name) tt read.2 in
      let above = test-pass (is_above known.0 name) tt tt _ known.2 in
      (read.0, reference-pass d read.0 read.1, (known.0, known-pass S read.0 known.0 known.1, above.0))

  pass-parent : (name : FullName) (d : Data) → IsParentOf S name d → parent_check S name d ≡ Ok tt
  pass-parent name d is =
      then-pass (reference_check d) _ is.0 tt (pass-reference d is.0 is.1)
      (then-pass (known_check S is.0) (above_check is.0.ty name) is.2.0 tt (pass-known S is.0 is.2.0 is.2.1) (pass-test (is_above is.2.0 name) tt _ is.2.2))

  parents-pass : (name : FullName) (d : Data) → in_array (each_item (parent_check S name) 0) d ≡ Ok tt → IsListOf (IsParentOf S name) d
  parents-pass name d is = let read = array-pass (each_item (parent_check S name) 0) d tt is in (read.0, read.1, items-pass (parent_check S name) 0 read.0 (parent-pass name) read.2)

  pass-parents : (name : FullName) (d : Data) → IsListOf (IsParentOf S name) d → in_array (each_item (parent_check S name) 0) d ≡ Ok tt
  pass-parents name d are = ap (in_array (each_item (parent_check S name) 0)) are.1 ∙ pass-items (parent_check S name) 0 are.0 (pass-parent name) are.2

  nothing-pass : (d : Data) → nothing_check d ≡ Ok tt → At (codes "attrs") IsEmptyObject d × At (codes "parents") IsEmptyArray d × IfThere IsEmptyObject (get (codes "tags") d)
  nothing-pass d is =
      let attrs = both-pass (needs (codes "attrs") (in_object no_members_check) d) _ tt is in
      let parents = both-pass (needs (codes "parents") (in_array no_items_check) d) _ tt attrs.2 in (
        at-map (codes "attrs") d empty-object-pass (needs-pass (codes "attrs") (in_object no_members_check) d tt attrs.1),
        at-map (codes "parents") d empty-array-pass (needs-pass (codes "parents") (in_array no_items_check) d tt parents.1),
        if-there-map (get (codes "tags") d) empty-object-pass (allows-pass (codes "tags") (in_object no_members_check) (get (codes "tags") d) parents.2),
      )

  pass-nothing : (d : Data) → At (codes "attrs") IsEmptyObject d × At (codes "parents") IsEmptyArray d × IfThere IsEmptyObject (get (codes "tags") d) → nothing_check d ≡ Ok tt
  pass-nothing d has =
      then-pass (needs (codes "attrs") (in_object no_members_check) d) _ tt tt (pass-needs (codes "attrs") (in_object no_members_check) d tt (at-map (codes "attrs") d pass-empty-object has.0))
      (then-pass (needs (codes "parents") (in_array no_items_check) d) _ tt tt (pass-needs (codes "parents") (in_array no_items_check) d tt (at-map (codes "parents") d pass-empty-array has.1))
      (pass-allows (codes "tags") (in_object no_members_check) (get (codes "tags") d) (if-there-map (get (codes "tags") d) pass-empty-object has.2)))

  data-pass : (name : FullName) (kind : EntityKind) (d : Data) → data_check S name kind d ≡ Ok tt → HasData S name kind d
  data-pass name (StandardKind fields is_open tags) d is =
      let attrs = both-pass (needs (codes "attrs") (value_check S (Record fields is_open)) d) _ tt is in
      let parents = both-pass (needs (codes "parents") (in_array (each_item (parent_check S name) 0)) d) _ tt attrs.2 in (
        at-map (codes "attrs") d (value-pass S (Record fields is_open)) (needs-pass (codes "attrs") (value_check S (Record fields is_open)) d tt attrs.1),
        at-map (codes "parents") d (parents-pass name) (needs-pass (codes "parents") (in_array (each_item (parent_check S name) 0)) d tt parents.1),
        if-there-map (get (codes "tags") d) (tags-pass tags) (allows-pass (codes "tags") (tags_check S tags) (get (codes "tags") d) parents.2),
      )
  data-pass name (EnumeratedKind ids) d is = nothing-pass d is

  pass-data : (name : FullName) (kind : EntityKind) (d : Data) → HasData S name kind d → data_check S name kind d ≡ Ok tt
  pass-data name (StandardKind fields is_open tags) d has =
      then-pass (needs (codes "attrs") (value_check S (Record fields is_open)) d) _ tt tt (pass-needs (codes "attrs") (value_check S (Record fields is_open)) d tt (at-map (codes "attrs") d (pass-value S (Record fields is_open)) has.0))
      (then-pass (needs (codes "parents") (in_array (each_item (parent_check S name) 0)) d) _ tt tt (pass-needs (codes "parents") (in_array (each_item (parent_check S name) 0)) d tt (at-map (codes "parents") d (pass-parents name) has.1))
      (pass-allows (codes "tags") (tags_check S tags) (get (codes "tags") d) (if-there-map (get (codes "tags") d) (pass-tags tags) has.2)))
  pass-data name (EnumeratedKind ids) d has = pass-nothing d has

  known-reference-pass : (d : Data) (u : Uid) → known_reference_check S d ≡ Ok u → IsReference d u
  known-reference-pass d u is =
      let read = both-pass (reference_check d) _ u is in
      let known = both-pass (known_check S read.0) (λ ty. Ok read.0) u read.2 in
      subst (λ v. IsReference d v) (same-ok read.0 u known.2) (reference-pass d read.0 read.1)
    where
      same-ok : (v w : Uid) → ◌≡◌ {A = Check Uid} (Ok v) (Ok w) → v ≡ w
      same-ok v w is = cc

  pass-known-reference : (d : Data) (u : Uid) (ty : SchemaEntity) → Known S u ty → IsReference d u → known_reference_check S d ≡ Ok u
  pass-known-reference d u ty known is =
      then-pass (reference_check d) _ u u (pass-reference d u is) (then-pass (known_check S u) (λ t. Ok u) ty u (pass-known S u ty known) refl)

  entity-pass : (d : Data) (u : Uid) → entity_of S d ≡ Ok u → IsEntity S d u
  unfolding entity_of
  entity-pass d u is =
      let keys = both-pass (keys_check entity_keys d) _ u is in
      let read = both-pass (needs (codes "uid") (known_reference_check S) d) _ u keys.2 in
      let known = both-pass (known_check S read.0) _ u read.2 in
      let held = both-pass (data_check S read.0.ty known.0.kind d) (λ _. Ok read.0) u known.2 in
      with-uid read.0 u known.0 d (same-ok read.0 u held.2) (keys-pass entity_keys d keys.1) (needs-pass (codes "uid") (known_reference_check S) d read.0 read.1) (known-pass S read.0 known.0 known.1) (data-pass read.0.ty known.0.kind d held.1)
    where
      same-ok : (v w : Uid) → ◌≡◌ {A = Check Uid} (Ok v) (Ok w) → v ≡ w
      same-ok v w is = cc

      with-uid : (v w : Uid) (ty : SchemaEntity) (d : Data) → v ≡ w → Keyed entity_keys d → At (codes "uid") (λ e. known_reference_check S e ≡ Ok v) d → Known S v ty → HasData S v.ty ty.kind d → IsEntity S d w
      with-uid v w ty d same keyed at known has =
          subst (λ x. IsEntity S d x) same (keyed, at-map (codes "uid") d (λ e. known-reference-pass e v) at, (ty, known, has))

  pass-entity : (d : Data) (u : Uid) → IsEntity S d u → entity_of S d ≡ Ok u
  unfolding entity_of
  pass-entity d u is =
      let ty = is.2.0 in
      then-pass (keys_check entity_keys d) _ tt u (pass-keys entity_keys d is.0)
      (then-pass (needs (codes "uid") (known_reference_check S) d) _ u u (pass-needs (codes "uid") (known_reference_check S) d u (at-map (codes "uid") d (λ e. pass-known-reference e u ty is.2.1) is.1))
      (then-pass (known_check S u) _ ty u (pass-known S u ty is.2.1)
      (then-pass (data_check S u.ty ty.kind d) (λ _. Ok u) tt u (pass-data u.ty ty.kind d is.2.2) refl)))

  each-pass : (place : ℕ) (ds : Items) (us : List Uid) → each_entity S place ds ≡ Ok us → EachEntity S ds us
  each-pass place no_items [] is = tt
  each-pass place no_items (u ∷ us) is = absurd (cc)
  each-pass place (item d ds) us is =
      let first = both-pass (under (decimal place) (entity_of S d)) _ us is in
      let rest = both-pass (each_entity S (place + 1) ds) (λ vs. Ok (first.0 ∷ vs)) us first.2 in
      subst (λ vs. EachEntity S (item d ds) vs) (same-list (first.0 ∷ rest.0) us rest.2) (entity-pass d first.0 (under-pass (decimal place) (entity_of S d) first.0 first.1), each-pass (place + 1) ds rest.0 rest.1)
    where
      same-list : (vs ws : List Uid) → ◌≡◌ {A = Check (List Uid)} (Ok vs) (Ok ws) → vs ≡ ws
      same-list vs ws is = cc

  pass-each : (place : ℕ) (ds : Items) (us : List Uid) → EachEntity S ds us → each_entity S place ds ≡ Ok us
  pass-each place no_items [] each = refl
  pass-each place no_items (u ∷ us) each = absurd each
  pass-each place (item d ds) [] each = absurd each
  pass-each place (item d ds) (u ∷ us) each =
      then-pass (under (decimal place) (entity_of S d)) _ u (u ∷ us) (pass-under (decimal place) (entity_of S d) u (pass-entity d u each.0))
      (then-pass (each_entity S (place + 1) ds) (λ vs. Ok (u ∷ vs)) us (u ∷ us) (pass-each (place + 1) ds us each.1) refl)

  pub entities-pass : (d : Data) → entities_check S d ≡ Ok tt → AreEntities S d
  unfolding entities_check
  entities-pass d is =
      let read = array-pass (items_check S) d tt is in
      let steps = both-pass (each_entity S 0 read.0) (repeats_check 0 []) tt read.2 in
      (read.0, read.1, (steps.0, each-pass 0 read.0 steps.0 steps.1, (distinct-pass 0 [] steps.0 steps.2).1))

  pub pass-entities : (d : Data) → AreEntities S d → entities_check S d ≡ Ok tt
  unfolding entities_check
  pass-entities d are =
      ap (in_array (items_check S)) are.1
      ∙ then-pass (each_entity S 0 are.0) (repeats_check 0 []) are.2.0 tt (pass-each 0 are.0 are.2.0 are.2.1) (pass-distinct 0 [] are.2.0 (all-new are.2.0) are.2.2)
