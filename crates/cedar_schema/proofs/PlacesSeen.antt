-- SPDX-License-Identifier: Apache-2.0
-- The places that the definitions of a fragment have are those of the fragment.
use Rattle.std.proofs.Common.{◌≡◌, ◌⊎◌, ◌++◌, List, [], ◌∷◌, Option, Some, None, Result, Ok, Err, IfOk, map, cond, inl, inr, refl, sym, ap, ◌∙◌, subst}
use Rattle.std.proofs.lemmas.Cmp.{tied_itself}
use Rattle.std.specs.List.{flat_map}
use Rattle.std.specs.Option.{option_map}
use Rattle.std.specs.Ordering.{is_eq}
use Rattle.std.specs.declared.cmp.Ordering.{Ordering}
use Rattle.std.specs.declared.cmp.Ordering.TheVariants.{Less, Equal, Greater}
use Rattle.cedar_data.proofs.Exact.{IsExact}
use Rattle.cedar_data.specs.Maps.{get}
use Rattle.cedar_fragment.specs.ActionUids.{over_conditional, over_raw}
use Rattle.cedar_fragment.specs.declared.definitions.ActionType.{ActionType}
use Rattle.cedar_fragment.specs.declared.definitions.EntityType as declared
use Rattle.cedar_fragment.specs.declared.definitions.Fragment as held
use Rattle.cedar_fragment.specs.declared.definitions.NamespaceDefinition.{NamespaceDefinition}
use Rattle.cedar_fragment_world.proofs.NamesSeen.{named, words_of, words_seen}
use Rattle.cedar_fragment_world.specs.FragmentWorlds.{action_uid, full_name}
use Rattle.cedar_fragment_world.specs.of_convert_fragment.Views.{action_seen, definition_seen, entity_seen, fragment_seen, namespaces_seen}
use Rattle.cedar_namespace_definitions.proofs.SureSteps.{sure_two}
use Rattle.cedar_namespace_definitions.specs.Definitions.{AreDefinitionsOf, IsDefinitionOf, action_in, action_made_in, entity_in, entity_name, entity_place, entry_of, with_keys}
use Rattle.cedar_namespace_definitions.specs.NamesIn.{ActionKey, action_key, entity_key}
use Rattle.cedar_namespace_definitions.specs.of_definitions.declared.structures.ActionFragment.{ActionFragment}
use Rattle.cedar_namespace_definitions.specs.of_definitions.declared.structures.EntityTypeFragment.{EntityTypeFragment}
use Rattle.cedar_names.specs.Components.{components}
use Rattle.cedar_names.specs.Identifiers.{id_of, unreserved_word}
use Rattle.cedar_names.specs.Names.{entity_cmp, entity_words, internal_cmp, internal_of}
use Rattle.cedar_names.specs.Order.{words_cmp}
use Rattle.cedar_names.specs.declared.id.UnreservedId.{UnreservedId}
use Rattle.cedar_names.specs.declared.internal_name.InternalName.{InternalName}
use Rattle.cedar_names.specs.declared.name.EntityType.{EntityType}
use Rattle.cedar_names.specs.declared.name.Name.{Name}
use Rattle.cedar_phases.proofs.of_sound.NameOrders.{names_exact}
use Rattle.cedar_phases.proofs.of_declared.Among.{among_either, among_left, among_right}
use Rattle.cedar_phases.proofs.Placing.{placed_among, seen_twice}
use Rattle.cedar_phases.specs.Holding.{Definition}
use Rattle.cedar_phases.specs.Places as phases
use Rattle.cedar_phases.specs.Places.{IsPlaced, places_in}
use Rattle.cedar_phases.specs.of_resolved.declared.schema.ValidatorSchema.{ValidatorSchema}
use Rattle.cedar_schema.specs.DeclaredPlaces.{action_places, entity_places, places_of}
use Rattle.cedar_schema_error.specs.FullNames.{FullName, Uid, uid_in}
use Rattle.cedar_schema_error.specs.KeptDeclarations.{IsAmong}
use Rattle.cedar_text.specs.declared.location.Loc.{Loc}
use Rattle.cedar_written.specs.Qualifying.{action_id}
use Rattle.cedar_written.specs.declared.conditional_name.ConditionalName.{ConditionalName}
use Rattle.cedar_written.specs.declared.raw_name.RawName.{RawName}

-- ---- lists

-- items that are each seen as one of others
seen_among : {A B : Type 0} (f : A → B) (ps : List A) (qs : List B) → ((p : A) → IsAmong ps p → IsAmong qs (f p)) → (x : B) → IsAmong (map f ps) x → IsAmong qs x
seen_among f [] qs each x among = absurd among
seen_among f (p ∷ ps) qs each x (inl here) = subst (IsAmong qs) here (each p (inl refl))
seen_among f (p ∷ ps) qs each x (inr there) = seen_among f ps qs (λ p among. each p (inr among)) x there

-- ---- what is found under a key

some_none : {A B : Type 0} (x : A) → Some x ≡ None → B
some_none x e = absurd (cc)

none_some : {A B : Type 0} (x : A) → None ≡ Some x → B
none_some x e = absurd (cc)

module _ {K V : Type 0} {cmp : K → K → Ordering} (order : IsExact cmp) where
  -- an entry for each key that has a value
  abbrev entries : List (K × Option V) → List (K × V)
  entries ps = flat_map (λ p. entry_of p.0 p.1) ps

  module _ (p : K × Option V) (ps : List (K × Option V)) (k : K) (v : V) (later : get cmp (entries ps) k ≡ Some v → IsAmong ps (k, Some v)) where
    found_at : (w : V) → p.1 ≡ Some w → (o : Ordering) → cmp k p.0 ≡ o → cond (is_eq o) (Some w) (get cmp (entries ps) k) ≡ Some v → IsAmong (p ∷ ps) (k, Some v)
    found_at w is Less tied e = inr (later e)
    found_at w is Equal tied e = inl (λ i. (sym (order.exact k p.0 tied) i, (is ∙ e) i))
    found_at w is Greater tied e = inr (later e)

    found_with : (o : Option V) → p.1 ≡ o → get cmp (entry_of p.0 o ++ entries ps) k ≡ Some v → IsAmong (p ∷ ps) (k, Some v)
    found_with None is e = inr (later e)
    found_with (Some w) is e = found_at w is (cmp k p.0) refl e

  -- a value that is found stands there
  found_among : (ps : List (K × Option V)) (k : K) (v : V) → get cmp (entries ps) k ≡ Some v → IsAmong ps (k, Some v)
  found_among [] k v e = none_some v e
  found_among (p ∷ ps) k v e = found_with p ps k v (found_among ps k v) p.1 refl e

  module _ (q : K × Option V) (ps : List (K × Option V)) (p : K × Option V) where
    missed_here : (o : Option V) → q ≡ p → q.1 ≡ o → get cmp (entry_of q.0 o ++ entries ps) p.0 ≡ None → p.1 ≡ None
    missed_here None here is e = ap (λ x. x.1) (sym here) ∙ is
    missed_here (Some w) here is e =
        let tied : cmp p.0 q.0 ≡ Equal = ap (λ x. cmp p.0 x.0) here ∙ tied_itself order.total p.0 in
        some_none w (sym (ap (λ o. cond (is_eq o) (Some w) (get cmp (entries ps) p.0)) tied) ∙ e)

    missed_at : (w : V) (o : Ordering) → cond (is_eq o) (Some w) (get cmp (entries ps) p.0) ≡ None → get cmp (entries ps) p.0 ≡ None
    missed_at w Less e = e
    missed_at w Equal e = some_none w e
    missed_at w Greater e = e

    missed_later : (o : Option V) → get cmp (entry_of q.0 o ++ entries ps) p.0 ≡ None → get cmp (entries ps) p.0 ≡ None
    missed_later None e = e
    missed_later (Some w) e = missed_at w (cmp p.0 q.0) e

  -- where nothing is found, there is no value
  missed : (ps : List (K × Option V)) (p : K × Option V) → IsAmong ps p → get cmp (entries ps) p.0 ≡ None → p.1 ≡ None
  missed [] p among e = absurd among
  missed (q ∷ ps) p (inl here) e = missed_here q ps p q.1 here refl e
  missed (q ∷ ps) p (inr there) e = missed ps p there (missed_later q ps p q.1 e)

  -- so a key stands with what is found under it
  found_itself : (ps : List (K × Option V)) (p : K × Option V) → IsAmong ps p → IsAmong ps (p.0, get cmp (entries ps) p.0)
  found_itself ps p among = by (get cmp (entries ps) p.0) refl
    where
      by : (o : Option V) → get cmp (entries ps) p.0 ≡ o → IsAmong ps (p.0, o)
      by None is = subst (λ o. IsAmong ps (p.0, o)) (missed ps p among is) among
      by (Some v) is = found_among ps p.0 v is

-- ---- namespaces

-- an entity type that is told by its name, with what is found under it
abbrev type_told : List (InternalName × Loc) → InternalName × EntityTypeFragment ConditionalName → FullName × Option Loc
type_told locs k = (components k.0, get internal_cmp locs k.0)

-- an action that is told by its key, with its place
abbrev action_told : ActionKey × ActionFragment ConditionalName ConditionalName over_conditional → Uid × Option Loc
action_told k = (record { ty = components k.0.ty; id = k.0.id }, k.1.loc)

module _ (ns : Option InternalName) where
  -- the full name of an entity type
  abbrev type_words : UnreservedId × declared.EntityType RawName → FullName
  type_words e = full_name (words_of ns) (unreserved_word e.0)

  -- its place
  abbrev type_place : UnreservedId × declared.EntityType RawName → FullName × Option Loc
  type_place e = (type_words e, e.1.loc)

  -- a place is found by a name, and by its words
  found_by_key : (es : List (EntityType × Loc)) (name : EntityType) → get entity_cmp es name ≡ get internal_cmp (with_keys entity_key es) (entity_key name)
  found_by_key [] name = refl
  found_by_key (e ∷ es) name = ap (λ o. cond (is_eq (entity_cmp name e.0)) (Some e.1) o) (found_by_key es name)

  found_by_words : (ts : List (UnreservedId × declared.EntityType RawName)) (key : InternalName)
      → get internal_cmp (flat_map (entity_place ns) ts) key ≡ get words_cmp (entries names_exact (map type_place ts)) (components key)
  found_by_words [] key = refl
  found_by_words (t ∷ ts) key = by t.1.loc (found_by_words ts key)
    where
      by : (o : Option Loc) → get internal_cmp (flat_map (entity_place ns) ts) key ≡ get words_cmp (entries names_exact (map type_place ts)) (components key)
          → get internal_cmp (entry_of (entity_name ns t) o ++ flat_map (entity_place ns) ts) key ≡ get words_cmp (entry_of (type_words t) o ++ entries names_exact (map type_place ts)) (components key)
      by None later = later
      by (Some l) later = λ i. cond (is_eq (words_cmp (components key) (named ns (id_of t.0) t.1.loc i))) (Some l) (later i)

  module _ (n : NamespaceDefinition RawName over_raw) (d : Definition) (is : IsDefinitionOf ns n d) where
    -- the places of the entity types are found by their words
    types_found : phases.entity_places d ≡ map (λ p. (p.0, get words_cmp (entries names_exact (map type_place n.entity_types)) p.0)) (map type_place n.entity_types)
    types_found =
        let found : List (FullName × Loc) = entries names_exact (map type_place n.entity_types) in
        sym (seen_twice (type_told (with_keys entity_key d.entity_types.locs)) (λ e. (entity_key e.0, e.1)) (λ e. (entity_words e.0, get entity_cmp d.entity_types.locs e.0))
        (λ e i. (entity_words e.0, sym (found_by_key d.entity_types.locs e.0) i)) d.entity_types.defs)
        ∙ (λ i. map (type_told (is.entity_types_are.places_are i)) (is.entity_types_are.types_are i))
        ∙ seen_twice (type_told (flat_map (entity_place ns) n.entity_types)) (entity_in ns) (λ e. (type_words e, get words_cmp found (type_words e)))
        (λ e i. (named ns (id_of e.0) e.1.loc i, (found_by_words n.entity_types (entity_name ns e) ∙ ap (get words_cmp found) (named ns (id_of e.0) e.1.loc)) i)) n.entity_types
        ∙ sym (seen_twice (λ p. (p.0, get words_cmp found p.0)) type_place (λ e. (type_words e, get words_cmp found (type_words e))) (λ e. refl) n.entity_types)

    types_seen : entity_places (words_of ns, definition_seen n) ≡ map type_place n.entity_types
    types_seen = seen_twice (λ s. (full_name (words_of ns) s.0, s.1.loc)) (λ e. (unreserved_word e.0, entity_seen e.1)) type_place (λ e. refl) n.entity_types

    types_among : (x : FullName × Option Loc) → IsAmong (phases.entity_places d) x → IsAmong (entity_places (words_of ns, definition_seen n)) x
    types_among x among =
        subst (λ ps. IsAmong ps x) (sym types_seen)
        (seen_among (λ p. (p.0, get words_cmp (entries names_exact (map type_place n.entity_types)) p.0)) (map type_place n.entity_types) (map type_place n.entity_types) (found_itself names_exact (map type_place n.entity_types)) x
        (subst (λ ps. IsAmong ps x) types_found among))

    -- an action keeps its place
    place_kept : (a : ActionType RawName over_raw) → (action_made_in ns a).loc ≡ a.loc
    unfolding action_made_in
    place_kept a = ap {A = ActionType ConditionalName over_conditional} (λ made. made.loc) (sure_two _ _ (λ applies_to member_of. record { attributes = a.attributes; applies_to = applies_to; member_of = member_of; annotations = a.annotations; loc = a.loc }))

    actions_seen : phases.action_places d ≡ action_places (words_of ns, definition_seen n)
    actions_seen =
        sym (seen_twice action_told (λ a. (action_key a.0, a.1)) (λ a. (uid_in a.0, a.1.loc)) (λ a. refl) d.actions.actions)
        ∙ ap (map action_told) is.actions_are
        ∙ seen_twice action_told (action_in ns) (λ a. (action_uid (words_of ns) a.0, a.1.loc)) (λ a i. (record { ty = named ns action_id None i; id = a.0 }, place_kept a.1 i)) n.actions
        ∙ sym (seen_twice (λ s. (action_uid (words_of ns) s.0, s.1.loc)) (λ a. (a.0, action_seen a.1)) (λ a. (action_uid (words_of ns) a.0, a.1.loc)) (λ a. refl) n.actions)

-- ---- fragments

types_all : (ns : List (Option Name × NamespaceDefinition RawName over_raw)) (ds : List Definition) → AreDefinitionsOf ns ds
    → (x : FullName × Option Loc) → IsAmong (flat_map phases.entity_places ds) x → IsAmong (flat_map entity_places (namespaces_seen ns)) x
types_all [] [] are x among = among
types_all [] (d ∷ ds) are x among = elim are [ ]
types_all (n ∷ ns) [] are x among = elim are [ ]
types_all (n ∷ ns) (d ∷ ds) are x among = by (types_all ns ds are.1 x) (among_either (phases.entity_places d) (flat_map phases.entity_places ds) x among)
  where
    by : (IsAmong (flat_map phases.entity_places ds) x → IsAmong (flat_map entity_places (namespaces_seen ns)) x)
        → IsAmong (phases.entity_places d) x ⊎ IsAmong (flat_map phases.entity_places ds) x → IsAmong (flat_map entity_places (namespaces_seen (n ∷ ns))) x
    by rest (inl first) = among_left _ (flat_map entity_places (namespaces_seen ns)) x
        (subst (λ name. IsAmong (entity_places (name, definition_seen n.1)) x) (words_seen n.0) (types_among (option_map internal_of n.0) n.1 d are.0 x first))
    by rest (inr later) = among_right _ (flat_map entity_places (namespaces_seen ns)) x (rest later)

actions_all : (ns : List (Option Name × NamespaceDefinition RawName over_raw)) (ds : List Definition) → AreDefinitionsOf ns ds → flat_map phases.action_places ds ≡ flat_map action_places (namespaces_seen ns)
actions_all [] [] are = refl
actions_all [] (d ∷ ds) are = elim are [ ]
actions_all (n ∷ ns) [] are = elim are [ ]
actions_all (n ∷ ns) (d ∷ ds) are =
    let first = actions_seen (option_map internal_of n.0) n.1 d are.0 ∙ ap (λ name. action_places (name, definition_seen n.1)) (words_seen n.0) in
    λ i. first i ++ actions_all ns ds are.1 i

-- a schema that is placed by the definitions of a fragment is placed by the fragment
pub placed_seen : (f : held.Fragment RawName over_raw) (ds : List Definition) → AreDefinitionsOf f.0 ds → (S : ValidatorSchema) → IsPlaced (places_in ds) S → IsPlaced (places_of (fragment_seen f)) S
placed_seen f ds are S placed =
    placed_among (places_in ds) (places_of (fragment_seen f)) (λ x among. types_all f.0 ds are x among) (λ x among. subst (λ ps. IsAmong ps x) (actions_all f.0 ds are) among) S placed

-- so is an answer
pub placed_made : (f : held.Fragment RawName over_raw) (ds : List Definition) → AreDefinitionsOf f.0 ds → {E : Type 0} (r : Result ValidatorSchema E) → IfOk r (IsPlaced (places_in ds)) → IfOk r (IsPlaced (places_of (fragment_seen f)))
placed_made f ds are (Ok S) placed = placed_seen f ds are S placed
placed_made f ds are (Err e) placed = tt
