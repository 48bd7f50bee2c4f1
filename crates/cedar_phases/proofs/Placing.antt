-- SPDX-License-Identifier: Apache-2.0
-- The places of a schema are those of outlines, and so those of the definitions that the outlines are of.
use Rattle.std.proofs.Common.{◌≡◌, ◌⊎◌, ◌++◌, ℕ, List, [], ◌∷◌, Option, None, map, fold, inl, inr, refl, sym, ap, ◌∙◌, subst}
use Rattle.std.proofs.lemmas.List.{append-nil, map-append}
use Rattle.std.proofs.lemmas.List.Concat.{flat_map-append}
use Rattle.std.specs.BTreeMap.{insert_entry}
use Rattle.std.specs.List.{AllZip, flat_map}
use Rattle.std.specs.Ordering.{match_ordering}
use Rattle.std.specs.declared.cmp.Ordering.{Ordering}
use Rattle.std.specs.declared.cmp.Ordering.TheVariants.{Less, Equal, Greater}
use Rattle.cedar_data.proofs.Exact.{IsExact}
use Rattle.cedar_data.proofs.MapsMade.{map-map_of}
use Rattle.cedar_data.proofs.Passing.{AllPass-map}
use Rattle.cedar_data.specs.Firsts.{AllPass}
use Rattle.cedar_data.specs.Maps.{get, map_of}
use Rattle.cedar_checks.specs.SchemaViews.{types_of}
use Rattle.cedar_declared.specs.Gathering.{action_cmp}
use Rattle.cedar_declared.specs.Names.{Names}
use Rattle.cedar_hierarchy.specs.Made.{MakesAction, MakesEntity}
use Rattle.cedar_hierarchy.specs.Uses.{Uses}
use Rattle.cedar_hierarchy.specs.of_outlines.Outlines.{ActionParts, EntityParts, action_place, entity_place}
use Rattle.cedar_hierarchy.specs.of_outlines.declared.outlines.ActionOutline.{ActionOutline}
use Rattle.cedar_hierarchy.specs.of_outlines.declared.outlines.EntityOutline.{EntityOutline}
use Rattle.cedar_names.specs.Names.{entity_cmp, entity_words}
use Rattle.cedar_names.specs.Order.{words_cmp}
use Rattle.cedar_names.specs.declared.entity_uid.EntityUID.{EntityUID}
use Rattle.cedar_names.specs.declared.name.EntityType.{EntityType}
use Rattle.cedar_phases.specs.Holding.{Definition}
use Rattle.cedar_phases.specs.Places.{IsPlaced, IsUnplaced, Places, action_places, entity_places, places_in, places_outlined}
use Rattle.cedar_qualified.specs.of_world.DefinitionViews.{namespace_in}
use Rattle.cedar_qualified.specs.of_world.Definitions.{Namespace}
use Rattle.cedar_qualified.specs.of_world.Worlds.{builtin_namespaces}
use Rattle.cedar_resolved.specs.Schemas.{action_loc, action_types}
use Rattle.cedar_resolved.specs.declared.action.ValidatorActionId.{ValidatorActionId}
use Rattle.cedar_resolved.specs.declared.entity_type.ValidatorEntityType.{ValidatorEntityType}
use Rattle.cedar_resolved.specs.declared.schema.ValidatorSchema.{ValidatorSchema}
use Rattle.cedar_schema_error.specs.FullNames.{FullName, Uid, uid_cmp, uid_in}
use Rattle.cedar_schema_error.specs.KeptDeclarations.{IsAmong}
use Rattle.cedar_sound.proofs.NameOrders.{names_exact, uids_exact}
use Rattle.cedar_tables.specs.Declarations as tables
use Rattle.cedar_text.specs.declared.location.Loc.{Loc}

-- ---- lists

module _ {A B C : Type 0} (f : A → C) (g : B → C) (R : A → B → Type 0) (same : (x : A) (y : B) → R x y → f x ≡ g y) where
  -- items of which each is made of one of others are seen among these
  made_among : (xs : List A) (ys : List B) → AllZip R xs ys → AllPass (λ y. IsAmong (map f xs) (g y)) ys
  made_among [] [] z = tt
  made_among [] (y ∷ ys) z = absurd z
  made_among (x ∷ xs) [] z = absurd z
  made_among (x ∷ xs) (y ∷ ys) z = (inl (same x y z.0), AllPass-map (λ y among. inr among) ys (made_among xs ys z.1))

module _ {K V : Type 0} {cmp : K → K → Ordering} (order : IsExact cmp) where
  -- an entry of a map is one of the pairs that were put in
  among_insert : (es : List (K × V)) (k : K) (v : V) (x : K × V) → IsAmong (insert_entry cmp es k v) x → ((k, v) ≡ x) ⊎ IsAmong es x
  among_insert [] k v x among = among
  among_insert (e ∷ es) k v x among = by (cmp k e.0) refl (among_insert es k v x) among
    where
      behind : ((k, v) ≡ x) ⊎ IsAmong es x → ((k, v) ≡ x) ⊎ IsAmong (e ∷ es) x
      behind (inl here) = inl here
      behind (inr there) = inr (inr there)

      by : (o : Ordering) → cmp k e.0 ≡ o → (IsAmong (insert_entry cmp es k v) x → ((k, v) ≡ x) ⊎ IsAmong es x)
          → IsAmong (match_ordering o ((k, v) ∷ e ∷ es) ((e.0, v) ∷ es) (e ∷ insert_entry cmp es k v)) x → ((k, v) ≡ x) ⊎ IsAmong (e ∷ es) x
      by Less is later among = among
      by Equal is later (inl here) = inl (ap (λ j. (j, v)) (order.exact k e.0 is) ∙ here)
      by Equal is later (inr there) = inr (inr there)
      by Greater is later (inl here) = inr (inl here)
      by Greater is later (inr there) = behind (later there)

  among_from : (es pairs : List (K × V)) (x : K × V) → IsAmong (fold (λ es pair. insert_entry cmp es pair.0 pair.1) es pairs) x → IsAmong es x ⊎ IsAmong pairs x
  among_from es [] x among = inl among
  among_from es (p ∷ pairs) x among = first (among_from (insert_entry cmp es p.0 p.1) pairs x among)
    where
      put : (p ≡ x) ⊎ IsAmong es x → IsAmong es x ⊎ IsAmong (p ∷ pairs) x
      put (inl here) = inr (inl here)
      put (inr there) = inl there

      first : IsAmong (insert_entry cmp es p.0 p.1) x ⊎ IsAmong pairs x → IsAmong es x ⊎ IsAmong (p ∷ pairs) x
      first (inl early) = put (among_insert es p.0 p.1 x early)
      first (inr later) = inr (inr later)

  among_pairs : (pairs : List (K × V)) (x : K × V) → IsAmong (map_of cmp pairs) x → IsAmong pairs x
  among_pairs pairs x among = by (among_from [] pairs x among)
    where
      by : ⊥ ⊎ IsAmong pairs x → IsAmong pairs x
      by (inl none) = absurd none
      by (inr there) = there

pub seen_twice : {A B C : Type 0} (f : B → C) (g : A → B) (h : A → C) → ((x : A) → f (g x) ≡ h x) → (xs : List A) → map f (map g xs) ≡ map h xs
seen_twice f g h same [] = refl
seen_twice f g h same (x ∷ xs) = λ i. same x i ∷ seen_twice f g h same xs i

-- what is gathered, seen through a function
pub gathered : {A B C : Type 0} (f : A → List B) (view : B → C) (g : A → List C) → ((x : A) → map view (f x) ≡ g x) → (xs : List A) → map view (flat_map f xs) ≡ flat_map g xs
gathered f view g each [] = refl
gathered f view g each (x ∷ xs) = map-append view (f x) (flat_map f xs) ∙ (λ i. each x i ++ gathered f view g each xs i)

-- what holds of each item holds of one of them
pub holds_among : {A : Type 0} (P : A → Type 0) (xs : List A) → AllPass P xs → (x : A) → IsAmong xs x → P x
holds_among P [] all x among = absurd among
holds_among P (y ∷ xs) all x (inl here) = subst P here all.0
holds_among P (y ∷ xs) all x (inr there) = holds_among P xs all.1 x there

-- ---- schemas

-- a schema whose places are among others has these
pub placed_among : (ps qs : Places) → ((x : FullName × Option Loc) → IsAmong ps.entity_types x → IsAmong qs.entity_types x) → ((x : Uid × Option Loc) → IsAmong ps.actions x → IsAmong qs.actions x)
    → (S : ValidatorSchema) → IsPlaced ps S → IsPlaced qs S
placed_among ps qs types_there actions_there S placed = record {
  entity_types = AllPass-map (λ e among. types_there (entity_words e.0, e.1.loc) among) (types_of S) placed.entity_types;
  actions = AllPass-map (λ a among. actions_there (uid_in a.0, action_loc a.1) among) (action_types S) placed.actions;
}

-- where no declaration has a place, none of a schema has one
pub unplaced_among : (ps : Places) → AllPass (λ p. p.1 ≡ None) ps.entity_types → AllPass (λ p. p.1 ≡ None) ps.actions → (S : ValidatorSchema) → IsPlaced ps S → IsUnplaced S
unplaced_among ps types_none actions_none S placed = record {
  entity_types = AllPass-map (λ e among. holds_among (λ p. p.1 ≡ None) ps.entity_types types_none (entity_words e.0, e.1.loc) among) (types_of S) placed.entity_types;
  actions = AllPass-map (λ a among. holds_among (λ p. p.1 ≡ None) ps.actions actions_none (uid_in a.0, action_loc a.1) among) (action_types S) placed.actions;
}

-- ---- outlines

module _ (declared : Names) (used : Uses) (types : List (EntityType × EntityOutline)) (acts : List (EntityUID × ActionOutline)) where
  entity_kept : (os : List (FullName × EntityParts)) (o : EntityType × EntityOutline) (m : EntityType × ValidatorEntityType) → MakesEntity declared os used o m
      → ◌≡◌ {A = FullName × Option Loc} (entity_words o.0, o.1.loc) (entity_words m.0, m.1.loc)
  entity_kept os o m made = λ i. (entity_words (sym made.described.key i), sym made.described.loc i)

  action_kept : (os : List (Uid × ActionParts)) (o : EntityUID × ActionOutline) (m : EntityUID × ValidatorActionId) → MakesAction declared os used o m
      → ◌≡◌ {A = Uid × Option Loc} (uid_in o.0, o.1.loc) (uid_in m.0, action_loc m.1)
  action_kept os o m made = λ i. (uid_in (sym made.described.key i), sym made.described.loc i)

  -- a schema that is made of outlines has their places
  pub placed : (os : List (FullName × EntityParts)) (as' : List (Uid × ActionParts)) (S : ValidatorSchema) (made : List (EntityUID × ValidatorActionId))
      → AllZip (MakesEntity declared os used) types (types_of S) → AllZip (MakesAction declared as' used) acts made → action_types S ≡ made → IsPlaced (places_outlined types acts) S
  placed os as' S made zip acts_zip is = record {
    entity_types = made_among (λ e. (entity_words e.0, e.1.loc)) (λ e. (entity_words e.0, e.1.loc)) (MakesEntity declared os used) (entity_kept os) types (types_of S) zip;
    actions = made_among (λ a. (uid_in a.0, a.1.loc)) (λ a. (uid_in a.0, action_loc a.1)) (MakesAction declared as' used) (action_kept as') acts (action_types S)
        (subst (λ (l : List (EntityUID × ValidatorActionId)). AllZip (MakesAction declared as' used) acts l) (sym is) acts_zip);
  }

-- ---- definitions

module _ (ds : List Definition) where
  entity_views : map (λ e. (entity_words e.0, e.1)) (flat_map tables.entity_places ds) ≡ flat_map entity_places ds
  entity_views = gathered tables.entity_places (λ e. (entity_words e.0, e.1)) entity_places (λ d. seen_twice (λ e. (entity_words e.0, e.1)) _ _ (λ e. refl) d.entity_types.defs) ds

  action_views : map (λ a. (uid_in a.0, a.1)) (flat_map tables.action_places ds) ≡ flat_map action_places ds
  action_views = gathered tables.action_places (λ a. (uid_in a.0, a.1)) action_places (λ d. seen_twice (λ a. (uid_in a.0, a.1)) _ _ (λ a. refl) d.actions.actions) ds

  module _ (types : List (EntityType × EntityOutline)) (acts : List (EntityUID × ActionOutline)) (types_are : map entity_place types ≡ map_of entity_cmp (flat_map tables.entity_places ds)) (acts_are : map action_place acts ≡ map_of action_cmp (flat_map tables.action_places ds)) where
    entities_are : (places_outlined types acts).entity_types ≡ map_of words_cmp (flat_map entity_places ds)
    entities_are =
        sym (seen_twice (λ e. (entity_words e.0, e.1)) entity_place _ (λ e. refl) types)
        ∙ ap (map (λ e. (entity_words e.0, e.1))) types_are
        ∙ map-map_of entity_cmp words_cmp entity_words (λ (l : Option Loc). l) (λ a b. refl) (flat_map tables.entity_places ds)
        ∙ ap (map_of words_cmp) entity_views

    actions_are : (places_outlined types acts).actions ≡ map_of uid_cmp (flat_map action_places ds)
    actions_are =
        sym (seen_twice (λ a. (uid_in a.0, a.1)) action_place _ (λ a. refl) acts)
        ∙ ap (map (λ a. (uid_in a.0, a.1))) acts_are
        ∙ map-map_of action_cmp uid_cmp uid_in (λ (l : Option Loc). l) (λ a b. refl) (flat_map tables.action_places ds)
        ∙ ap (map_of uid_cmp) action_views

    -- the places of outlines of definitions are those of the definitions
    pub placed_there : (S : ValidatorSchema) → IsPlaced (places_outlined types acts) S → IsPlaced (places_in ds) S
    placed_there S placed =
        placed_among (places_outlined types acts) (places_in ds) (λ x among. among_pairs names_exact (flat_map entity_places ds) x (subst (λ ps. IsAmong ps x) entities_are among))
        (λ x among. among_pairs uids_exact (flat_map action_places ds) x (subst (λ ps. IsAmong ps x) actions_are among)) S placed

-- ---- definitions without entity types and actions

-- a namespace declares common types alone
abbrev IsBare : Namespace → Type 0
IsBare n = (n.entity_types ≡ []) × (n.actions ≡ [])

nothing_seen : {A B C : Type 0} (f : A → B) (g : A → C) (xs : List A) → map f xs ≡ [] → map g xs ≡ []
nothing_seen f g [] none = refl
nothing_seen f g (x ∷ xs) none = absurd (cc)

bare_places : (ds : List Definition) → AllPass IsBare (map namespace_in ds) → places_in ds ≡ record { entity_types = []; actions = [] }
bare_places [] bare = refl
bare_places (d ∷ ds) bare =
    let rest = bare_places ds bare.1 in
    λ i. record {
      entity_types = nothing_seen _ (λ e. (entity_words e.0, get entity_cmp d.entity_types.locs e.0)) d.entity_types.defs bare.0.0 i ++ (rest i).entity_types;
      actions = nothing_seen _ (λ a. (uid_in a.0, a.1.loc)) d.actions.actions bare.0.1 i ++ (rest i).actions;
    }

-- they add no places
pub places_of_first : (given more : List Definition) → AllPass IsBare (map namespace_in more) → places_in (given ++ more) ≡ places_in given
places_of_first given more bare =
    let none = bare_places more bare in
    λ i. record {
      entity_types = (flat_map-append entity_places given more ∙ ap (λ p. flat_map entity_places given ++ p.entity_types) none ∙ append-nil (flat_map entity_places given)) i;
      actions = (flat_map-append action_places given more ∙ ap (λ p. flat_map action_places given ++ p.actions) none ∙ append-nil (flat_map action_places given)) i;
    }

-- nor do the builtin definitions
pub builtins_add_none : (own : Names) (extensions : List (List ℕ)) (given builtins all : List Definition) → map namespace_in builtins ≡ builtin_namespaces own extensions → all ≡ given ++ builtins → places_in all ≡ places_in given
builtins_add_none own extensions given builtins all built joined =
    ap places_in joined ∙ places_of_first given builtins (subst (AllPass IsBare) (sym built) ((refl, refl), ((refl, refl), tt)))
