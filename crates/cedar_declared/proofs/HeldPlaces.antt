-- SPDX-License-Identifier: Apache-2.0
-- The names that are held, each with its place, are of those that were gathered.
use Rattle.std.proofs.Common.{◌≡◌, ◌||◌, ◌++◌, Bool, true, false, cond, List, [], ◌∷◌, map, fold, Option, Some, None, IfSome, is_some, inl, inr, refl, sym, ◌∙◌, subst}
use Rattle.std.specs.BTreeMap.{insert_entry, is_at}
use Rattle.std.specs.BTreeSet.{insert_key}
use Rattle.std.specs.List.{flat_map}
use Rattle.std.specs.Ordering.{is_eq, match_ordering}
use Rattle.std.specs.declared.alloc.Global.{Global}
use Rattle.std.specs.declared.cmp.Ordering.{Ordering}
use Rattle.std.specs.declared.cmp.Ordering.TheVariants.{Less, Equal, Greater}
use Rattle.cedar_data.proofs.Exact.{texts_exact}
use Rattle.cedar_data.proofs.Passing.{AllPass-append, AllPass-back, AllPass-front, AllPass-map}
use Rattle.cedar_data.specs.Firsts.{AllPass}
use Rattle.cedar_data.specs.Maps.{get}
use Rattle.cedar_data.specs.Sets.{contains}
use Rattle.cedar_names.specs.Components.{basename_of, components, loc_of, namespace_of}
use Rattle.cedar_names.specs.Identifiers.{id_word, id_words}
use Rattle.cedar_names.specs.Names.{internal_cmp, internal_of, name_of}
use Rattle.cedar_names.specs.Order.{words_cmp}
use Rattle.cedar_names.specs.declared.entity_uid.EntityUID.{EntityUID}
use Rattle.cedar_names.specs.declared.id.Id.{Id}
use Rattle.cedar_names.specs.declared.internal_name.InternalName.{InternalName}
use Rattle.cedar_names.specs.of_text.declared.location.Loc.{Loc}
use Rattle.cedar_written.specs.declared.ref_name.RefName as ref_name
use Rattle.cedar_written.specs.declared.reference_type.ReferenceType.TheVariants.{CommonOrEntity}
use Rattle.cedar_schema_error.specs.FullNames.{FullName, Uid}
use Rattle.cedar_schema_error.specs.KeptDeclarations.{IsAmong, placed, placed_action}
use Rattle.cedar_definitions.specs.DeclaredNames.{actions_of, all_actions, all_types, types_of}
use Rattle.cedar_definitions.specs.Structures.{definitions_of}
use Rattle.cedar_definitions.specs.declared.structures.ValidatorNamespaceDef.{ValidatorNamespaceDef}
use Rattle.cedar_definitions.specs.declared.structures.ValidatorSchemaFragment.{ValidatorSchemaFragment}
use Rattle.cedar_declared.specs.Basenames.{id_cmp}
use Rattle.cedar_declared.specs.Gathering.{action_cmp, no_names, with_actions, with_definition, with_fragment}
use Rattle.cedar_declared.specs.Held.{names_of, type_names}
use Rattle.cedar_declared.specs.HeldPlaces.{HeldAmong, IsHeldAction, IsHeldType, actions_at, names_at, types_at}
use Rattle.cedar_declared.specs.Names.{is_declared}
use Rattle.cedar_declared.specs.TypeNames.{first_place, place_alone, put_name, with_name}
use Rattle.cedar_declared.specs.declared.all_defs.AllDefs.{AllDefs}
use Rattle.cedar_declared.specs.declared.type_names.TypeNames.{TypeNames}
use Rattle.cedar_declared.proofs.Among.{among_left, among_map, among_right, each_seen}
use Rattle.cedar_declared.proofs.Gains.{fragments_folded}
use Rattle.cedar_declared.proofs.Looked.{single_kept}

-- a name of one component, with its place
abbrev single : Id × Option Loc → FullName × Option Loc
single e = (id_word e.0 ∷ [], e.1)

-- what holds of the keys of a set and of the one that is put holds of all then
key_put : {K B : Type 0} (cmp : K → K → Ordering) (f : K → B) (P : B → Type 0) (ks : List K) (k : K) → AllPass P (map f ks) → P (f k) → AllPass P (map f (insert_key cmp ks k))
key_put cmp f P [] k all p = (p, tt)
key_put cmp f P (x ∷ ks) k all p = by (cmp k x) (key_put cmp f P ks k all.1 p)
  where
    by : (o : Ordering) → AllPass P (map f (insert_key cmp ks k)) → AllPass P (map f (match_ordering o (k ∷ x ∷ ks) (x ∷ ks) (x ∷ insert_key cmp ks k)))
    by Less more = (p, all)
    by Equal more = all
    by Greater more = (all.0, more)

module _ (P : FullName × Option Loc → Type 0) where
  -- so of the entries of a map
  entry_put : (es : List (Id × Option Loc)) (k : Id) (v : Option Loc) → AllPass P (map single es) → P (id_word k ∷ [], v) → AllPass P (map single (insert_entry id_cmp es k v))
  entry_put [] k v all p = (p, tt)
  entry_put (e ∷ es) k v all p = by (id_cmp k e.0) refl (entry_put es k v all.1 p)
    where
      by : (o : Ordering) → id_cmp k e.0 ≡ o → AllPass P (map single (insert_entry id_cmp es k v))
          → AllPass P (map single (match_ordering o ((k, v) ∷ e ∷ es) ((e.0, v) ∷ es) (e ∷ insert_entry id_cmp es k v)))
      by Less is more = (p, all)
      by Equal is more = (subst (λ w. P (w ∷ [], v)) (texts_exact.exact (id_word k) (id_word e.0) is) p, all.1)
      by Greater is more = (all.0, more)

  -- a name that is put to others
  name_put : (t : TypeNames) (n : InternalName) (ns : List Id) → namespace_of n ≡ ns → AllPass P (names_at t) → P (placed n) → AllPass P (names_at (put_name t n ns))
  name_put t n [] alone all p =
      AllPass-append P (map single (insert_entry id_cmp t.unqualified (basename_of n) (loc_of n))) (map placed t.qualified)
      (entry_put t.unqualified (basename_of n) (loc_of n) (AllPass-front P (map single t.unqualified) (map placed t.qualified) all)
      (subst (λ (ns : List Id). P (id_words (ns ++ basename_of n ∷ []), loc_of n)) alone p))
      (AllPass-back P (map single t.unqualified) (map placed t.qualified) all)
  name_put t n (i ∷ ids) qualified all p =
      AllPass-append P (map single t.unqualified) (map placed (insert_key internal_cmp t.qualified n))
      (AllPass-front P (map single t.unqualified) (map placed t.qualified) all)
      (key_put internal_cmp placed P t.qualified n (AllPass-back P (map single t.unqualified) (map placed t.qualified) all) p)

  name_with : (t : TypeNames) (n : InternalName) → AllPass P (names_at t) → P (placed n) → AllPass P (names_at (with_name t n))
  name_with t n all p = by (contains words_cmp (type_names t) (components n))
    where
      by : (b : Bool) → AllPass P (names_at (cond b t (put_name t n (namespace_of n))))
      by true = all
      by false = name_put t n (namespace_of n) refl all p

  -- names put one after another
  names_put : {E : Type 0} (name : E → InternalName) (t : TypeNames) (es : List E) → AllPass P (names_at t) → AllPass (λ n. P (placed n)) (map name es)
      → AllPass P (names_at (fold (λ t e. with_name t (name e)) t es))
  names_put name t [] all ps = all
  names_put name t (e ∷ es) all ps = names_put name (with_name t (name e)) es (name_with t (name e) all ps.0) ps.1

  module _ {N A : Type 0} {R : ref_name.Ghosts N} where
    -- those of definitions
    types_put : (all : AllDefs) (ds : List (ValidatorNamespaceDef N A R)) → AllPass P (names_at all.entity_types) → AllPass P (names_at all.common_types) → AllPass (λ n. P (placed n)) (all_types ds)
        → AllPass P (types_at (fold with_definition all ds))
    types_put all [] entities commons ps = AllPass-append P (names_at all.entity_types) (names_at all.common_types) entities commons
    types_put all (d ∷ ds) entities commons ps =
        let these : AllPass (λ n. P (placed n)) (types_of d) = AllPass-front (λ (n : InternalName). P (placed n)) (types_of d) (all_types ds) ps in
        types_put (with_definition all d) ds
        (names_put (λ e. internal_of (name_of e.0)) all.entity_types d.entity_types.defs entities
        (AllPass-back (λ (n : InternalName). P (placed n)) (map (λ e. e.0) d.common_types.defs) (map (λ e. internal_of (name_of e.0)) d.entity_types.defs) these))
        (names_put (λ e. e.0) all.common_types d.common_types.defs commons
        (AllPass-front (λ (n : InternalName). P (placed n)) (map (λ e. e.0) d.common_types.defs) (map (λ e. internal_of (name_of e.0)) d.entity_types.defs) these))
        (AllPass-back (λ (n : InternalName). P (placed n)) (types_of d) (all_types ds) ps)

module _ (P : Uid × Option Loc → Type 0) where
  -- actions put one after another
  actions_put : {V : Type 0} (us : List EntityUID) (es : List (EntityUID × V)) → AllPass P (map placed_action us) → AllPass (λ u. P (placed_action u)) (map (λ e. e.0) es)
      → AllPass P (map placed_action (with_actions us es))
  actions_put us [] all ps = all
  actions_put us (e ∷ es) all ps = actions_put (insert_key action_cmp us e.0) es (key_put action_cmp placed_action P us e.0 all ps.0) ps.1

  module _ {N A : Type 0} {R : ref_name.Ghosts N} where
    all_actions_put : (all : AllDefs) (ds : List (ValidatorNamespaceDef N A R)) → AllPass P (actions_at all) → AllPass (λ u. P (placed_action u)) (all_actions ds) → AllPass P (actions_at (fold with_definition all ds))
    all_actions_put all [] held ps = held
    all_actions_put all (d ∷ ds) held ps =
        all_actions_put (with_definition all d) ds (actions_put all.actions d.actions.actions held (AllPass-front (λ (u : EntityUID). P (placed_action u)) (actions_of d) (all_actions ds) ps)) (AllPass-back (λ (u : EntityUID). P (placed_action u)) (actions_of d) (all_actions ds) ps)

module _ {N A : Type 0} {R : ref_name.Ghosts N} where
  gathered_among : (alloc : Global) (ds : List (ValidatorNamespaceDef N A R)) → HeldAmong (map placed (all_types ds)) (map placed_action (all_actions ds)) (fold with_definition (no_names alloc) ds)
  gathered_among alloc ds = record {
    types_are = types_put (IsAmong (map placed (all_types ds))) (no_names alloc) ds tt tt (each_seen placed (all_types ds));
    actions_are = all_actions_put (IsAmong (map placed_action (all_actions ds))) (no_names alloc) ds tt (each_seen placed_action (all_actions ds));
  }

  -- what is gathered of fragments is of their definitions
  pub holds_declared : (all : AllDefs) (alloc : Global) (fs : List (ValidatorSchemaFragment N A R)) → all ≡ fold with_fragment (no_names alloc) fs
      → HeldAmong (map placed (all_types (flat_map definitions_of fs))) (map placed_action (all_actions (flat_map definitions_of fs))) all
  holds_declared all alloc fs is =
      subst (HeldAmong (map placed (all_types (flat_map definitions_of fs))) (map placed_action (all_actions (flat_map definitions_of fs)))) (sym (is ∙ fragments_folded (no_names alloc) fs))
      (gathered_among alloc (flat_map definitions_of fs))

-- what holds of what is found may be said more weakly
pub some_weaker : {A : Type 0} (P Q : A → Type 0) → ((x : A) → P x → Q x) → (o : Option A) → IfSome o P → IfSome o Q
some_weaker P Q to None p = p
some_weaker P Q to (Some x) p = to x p

-- the place that is found by a component is held with it
found_held : (es : List (Id × Option Loc)) (id : Id) → IfSome (get id_cmp es id) (λ place. IsAmong (map single es) (id_word id ∷ [], place))
found_held [] id = tt
found_held (e ∷ es) id = by (is_at (id_cmp id) e.0) refl (found_held es id)
  where
    same_word : (o : Ordering) → id_cmp id e.0 ≡ o → is_eq o ≡ true → id_word id ≡ id_word e.0
    same_word Equal is e' = texts_exact.exact (id_word id) (id_word e.0) is
    same_word Less is e' = let p : false ≡ true = e' in absurd (cc)
    same_word Greater is e' = let p : false ≡ true = e' in absurd (cc)

    by : (b : Bool) → is_at (id_cmp id) e.0 ≡ b → IfSome (get id_cmp es id) (λ place. IsAmong (map single es) (id_word id ∷ [], place))
        → IfSome (cond b (Some e.1) (get id_cmp es id)) (λ place. IsAmong (map single (e ∷ es)) (id_word id ∷ [], place))
    by true is later = inl (λ i. (sym (same_word (id_cmp id e.0) refl is) i ∷ [], e.1))
    by false is later =
        some_weaker (λ place. IsAmong (map single es) (id_word id ∷ [], place)) (λ place. IsAmong (map single (e ∷ es)) (id_word id ∷ [], place)) (λ place among. inr among) (get id_cmp es id) later

module _ (d : AllDefs) where
  -- names that are held as those of entity types or as those of common types
  entity_among : (x : FullName × Option Loc) → IsAmong (names_at d.entity_types) x → IsAmong (types_at d) x
  entity_among x among = among_left (names_at d.entity_types) (names_at d.common_types) x among

  common_among : (x : FullName × Option Loc) → IsAmong (names_at d.common_types) x → IsAmong (types_at d) x
  common_among x among = among_right (names_at d.entity_types) (names_at d.common_types) x among

  qualified_among : (t : TypeNames) → ((x : FullName × Option Loc) → IsAmong (names_at t) x → IsAmong (types_at d) x) → (ns : List InternalName) → ns ≡ t.qualified → AllPass (IsHeldType d) ns
  qualified_among t there ns are =
      AllPass-map (λ n among. there (placed n) (among_right (map single t.unqualified) (map placed t.qualified) (placed n) (subst (λ (l : List InternalName). IsAmong (map placed l) (placed n)) are among))) ns
      (each_seen placed ns)

  -- those that have a namespace
  pub qualified_entities : (ns : List InternalName) → ns ≡ d.entity_types.qualified → AllPass (IsHeldType d) ns
  qualified_entities = qualified_among d.entity_types entity_among

  pub qualified_commons : (ns : List InternalName) → ns ≡ d.common_types.qualified → AllPass (IsHeldType d) ns
  qualified_commons = qualified_among d.common_types common_among

  -- actions of those that are held
  pub action_held : (o : Option EntityUID) → IfSome o (IsAmong d.actions) → IfSome o (IsHeldAction d)
  action_held o among = some_weaker (IsAmong d.actions) (IsHeldAction d) (λ u there. among_map placed_action d.actions u there) o among

  pub actions_held : (us : List EntityUID) → us ≡ d.actions → AllPass (IsHeldAction d) us
  actions_held us are = subst (λ (l : List EntityUID). AllPass (IsHeldAction d) l) (sym are) (each_seen placed_action d.actions)

  -- a declared type that is a component alone is held at the place that is told of it
  pub alone_held : (id : Id) → is_declared (names_of d) CommonOrEntity (id_word id ∷ []) ≡ true → IsAmong (types_at d) (id_word id ∷ [], place_alone d id)
  alone_held id declared =
      by (get id_cmp d.entity_types.unqualified id) (get id_cmp d.common_types.unqualified id) (found_held d.entity_types.unqualified id) (found_held d.common_types.unqualified id)
      (sym (λ i. single_kept d.common_types id i || single_kept d.entity_types id i) ∙ declared)
    where
      by : (o p : Option (Option Loc)) → IfSome o (λ place. IsAmong (map single d.entity_types.unqualified) (id_word id ∷ [], place)) → IfSome p (λ place. IsAmong (map single d.common_types.unqualified) (id_word id ∷ [], place))
          → (is_some p || is_some o) ≡ true → IsAmong (types_at d) (id_word id ∷ [], first_place o p)
      by (Some place) p first second some = entity_among (id_word id ∷ [], place) (among_left (map single d.entity_types.unqualified) (map placed d.entity_types.qualified) (id_word id ∷ [], place) first)
      by None (Some place) first second some = common_among (id_word id ∷ [], place) (among_left (map single d.common_types.unqualified) (map placed d.common_types.qualified) (id_word id ∷ [], place) second)
      by None None first second some = let p : false ≡ true = some in absurd (cc)
