-- SPDX-License-Identifier: Apache-2.0
-- From what is declared to the types and actions that a refusal keeps.
use Rattle.std.proofs.Common.{◌≡◌, ◌⊎◌, ◌++◌, Bool, false, List, [], ◌∷◌, Option, Some, None, Result, Ok, Err, IfOk, map, fold, inl, inr, refl, sym, ap, ◌∙◌, subst}
use Rattle.std.proofs.lemmas.List.{append-nil, append_cancel_left, map-append}
use Rattle.std.specs.BTreeMap.{insert_entry}
use Rattle.std.specs.List.{flat_map}
use Rattle.std.specs.Map.{keys_of}
use Rattle.std.specs.Ordering.{match_ordering}
use Rattle.std.specs.declared.cmp.Ordering.{Ordering}
use Rattle.std.specs.declared.cmp.Ordering.TheVariants.{Less, Equal, Greater}
use Rattle.cedar_data.proofs.Passing.{AllPass-map}
use Rattle.cedar_data.specs.Firsts.{AllPass}
use Rattle.cedar_data.specs.Maps.{map_of, map_values}
use Rattle.cedar_declared.specs.Gathering.{action_cmp}
use Rattle.cedar_declared.proofs.Among.{among_either, among_left, among_map, among_right, each_seen}
use Rattle.cedar_declared.specs.Held.{names_of}
use Rattle.cedar_declared.specs.HeldPlaces.{HeldAmong, actions_at, types_at}
use Rattle.cedar_declared.specs.declared.all_defs.AllDefs.{AllDefs}
use Rattle.cedar_declared.specs.of_definitions.DeclaredNames.{actions_of, all_actions, all_types, types_of}
use Rattle.cedar_declared.specs.of_definitions.Structures.{definitions_of}
use Rattle.cedar_hierarchy.specs.of_outlines.Outlines.{action_place}
use Rattle.cedar_hierarchy.specs.of_outlines.declared.outlines.Tables.{Tables}
use Rattle.cedar_names.specs.Names.{internal_cmp, internal_of, name_of}
use Rattle.cedar_names.specs.declared.extensions.Extensions.{Extensions}
use Rattle.cedar_names.specs.declared.internal_name.InternalName.{InternalName}
use Rattle.cedar_phases.proofs.KeptReferences.{Missed}
use Rattle.cedar_phases.proofs.Placing.{gathered, holds_among, seen_twice}
use Rattle.cedar_phases.specs.Holding.{Definition, Definitions, Holds, world_of}
use Rattle.cedar_phases.specs.Kept.{KeepsDeclarations, KeepsDeclared, tells_declared}
use Rattle.cedar_qualified.specs.of_missing.Undeclared.{Parent, missing_in_definition, missing_in_each, refusal_by}
use Rattle.cedar_qualified.specs.of_world.DefinitionViews.{namespace_in}
use Rattle.cedar_qualified.specs.of_world.Definitions.{Namespace}
use Rattle.cedar_qualified.specs.of_world.Worlds.{World, builtin_namespaces, own}
use Rattle.cedar_schema_error.specs.FullNames.{FullName, Uid}
use Rattle.cedar_schema_error.specs.KeptDeclarations.{IsAmong, KeepsAmong, kept_actions, kept_types, placed, placed_action}
use Rattle.cedar_schema_error.specs.Refusals.{Refusal}
use Rattle.cedar_schema_error.specs.Refusals as refusal
use Rattle.cedar_schema_error.specs.Told.{told}
use Rattle.cedar_schema_error.specs.declared.schema_error.SchemaError.{SchemaError}
use Rattle.cedar_schema_error.specs.declared.schema_error.SchemaError.TheVariants as error
use Rattle.cedar_tables.specs.Declarations as tables
use Rattle.cedar_text.specs.declared.location.Loc.{Loc}
use Rattle.cedar_undeclared.specs.Undeclared.{undeclared_refusal}
use Rattle.cedar_written.specs.Answers.{all_values, and_then}
use Rattle.cedar_written.specs.declared.conditional_name.ConditionalName.{ConditionalName}

-- ---- lists

module _ {A B : Type 0} where
  -- items that are among others are so when they are seen through a function
  among_seen : (f : A → B) (xs ys : List A) → ((x : A) → IsAmong xs x → IsAmong ys x) → (z : B) → IsAmong (map f xs) z → IsAmong (map f ys) z
  among_seen f [] ys each z among = absurd among
  among_seen f (x ∷ xs) ys each z (inl here) = subst (IsAmong (map f ys)) here (among_map f ys x (each x (inl refl)))
  among_seen f (x ∷ xs) ys each z (inr there) = among_seen f xs ys (λ y among. each y (inr among)) z there

  -- what is gathered of some is among what is gathered of more
  among_gathered : (g h : A → List B) → ((a : A) (x : B) → IsAmong (g a) x → IsAmong (h a) x) → (xs : List A) (x : B) → IsAmong (flat_map g xs) x → IsAmong (flat_map h xs) x
  among_gathered g h each [] x among = among
  among_gathered g h each (a ∷ xs) x among = by (among_gathered g h each xs x) (among_either (g a) (flat_map g xs) x among)
    where
      by : (IsAmong (flat_map g xs) x → IsAmong (flat_map h xs) x) → IsAmong (g a) x ⊎ IsAmong (flat_map g xs) x → IsAmong (flat_map h (a ∷ xs)) x
      by others (inl first) = among_left (h a) (flat_map h xs) x (each a x first)
      by others (inr later) = among_right (h a) (flat_map h xs) x (others later)

-- ---- keys

module _ {K V : Type 0} (cmp : K → K → Ordering) where
  -- a key of a map is one of those that were put in, whichever of two that tie is kept
  key_put : (es : List (K × V)) (k : K) (v : V) (x : K) → IsAmong (keys_of (insert_entry cmp es k v)) x → (k ≡ x) ⊎ IsAmong (keys_of es) x
  key_put [] k v x among = among
  key_put (e ∷ es) k v x among = by (cmp k e.0) (key_put es k v x) among
    where
      behind : (k ≡ x) ⊎ IsAmong (keys_of es) x → (k ≡ x) ⊎ IsAmong (e.0 ∷ keys_of es) x
      behind (inl here) = inl here
      behind (inr there) = inr (inr there)

      by : (o : Ordering) → (IsAmong (keys_of (insert_entry cmp es k v)) x → (k ≡ x) ⊎ IsAmong (keys_of es) x)
          → IsAmong (keys_of (match_ordering o ((k, v) ∷ e ∷ es) ((e.0, v) ∷ es) (e ∷ insert_entry cmp es k v))) x → (k ≡ x) ⊎ IsAmong (e.0 ∷ keys_of es) x
      by Less later among = among
      by Equal later among = inr among
      by Greater later (inl here) = inr (inl here)
      by Greater later (inr there) = behind (later there)

  keys_from : (es pairs : List (K × V)) (x : K) → IsAmong (keys_of (fold (λ es pair. insert_entry cmp es pair.0 pair.1) es pairs)) x → IsAmong (keys_of es) x ⊎ IsAmong (keys_of pairs) x
  keys_from es [] x among = inl among
  keys_from es (p ∷ pairs) x among = first (keys_from (insert_entry cmp es p.0 p.1) pairs x among)
    where
      put : (p.0 ≡ x) ⊎ IsAmong (keys_of es) x → IsAmong (keys_of es) x ⊎ IsAmong (keys_of (p ∷ pairs)) x
      put (inl here) = inr (inl here)
      put (inr there) = inl there

      first : IsAmong (keys_of (insert_entry cmp es p.0 p.1)) x ⊎ IsAmong (keys_of pairs) x → IsAmong (keys_of es) x ⊎ IsAmong (keys_of (p ∷ pairs)) x
      first (inl early) = put (key_put es p.0 p.1 x early)
      first (inr later) = inr (inr later)

  keys_among : (pairs : List (K × V)) (x : K) → IsAmong (keys_of (map_of cmp pairs)) x → IsAmong (keys_of pairs) x
  keys_among pairs x among = by (keys_from [] pairs x among)
    where
      by : ⊥ ⊎ IsAmong (keys_of pairs) x → IsAmong (keys_of pairs) x
      by (inl none) = absurd none
      by (inr there) = there

-- values that become others keep their keys
module _ {K V U E : Type 0} (f : V → Result U E) where
  keys_made : (es : List (K × V)) → IfOk (all_values (map_values f es)) (λ us. keys_of us ≡ keys_of es)
  keys_made [] = refl
  keys_made (e ∷ es) = by (f e.1) (all_values (map_values f es)) (keys_made es)
    where
      by : (r : Result U E) (rest : Result (List (K × U)) E) → IfOk rest (λ us. keys_of us ≡ keys_of es)
          → IfOk (and_then r (λ v. and_then rest (λ vs. Ok ((e.0, v) ∷ vs)))) (λ us. keys_of us ≡ e.0 ∷ keys_of es)
      by (Ok v) (Ok vs) is = λ i. e.0 ∷ is i
      by (Ok v) (Err x) is = tt
      by (Err x) rest is = tt

  pub keys_kept : (es : List (K × V)) (us : List (K × U)) → all_values (map_values f es) ≡ Ok us → keys_of us ≡ keys_of es
  keys_kept es us is = subst (λ r. IfOk r (λ us. keys_of us ≡ keys_of es)) is (keys_made es)

-- ---- errors

-- what is kept among some is kept among more
pub keeps_more : (ts us : List (FullName × Option Loc)) (as' bs : List (Uid × Option Loc)) → ((x : FullName × Option Loc) → IsAmong ts x → IsAmong us x) → ((x : Uid × Option Loc) → IsAmong as' x → IsAmong bs x)
    → (e : SchemaError) → KeepsAmong ts as' e → KeepsAmong us bs e
keeps_more ts us as' bs types_there actions_there e k = record {
  types = AllPass-map (λ name among. types_there (placed name) among) (kept_types e) k.types;
  actions = AllPass-map (λ uid among. actions_there (placed_action uid) among) (kept_actions e) k.actions;
}

-- an error that tells something else keeps no declaration
pub keeps_none : (types : List (FullName × Option Loc)) (acts : List (Uid × Option Loc)) (e : SchemaError) → tells_declared (told e) ≡ false → KeepsAmong types acts e
keeps_none types acts (error.TypeShadowing e) is = absurd (cc)
keeps_none types acts (error.ActionShadowing e) is = absurd (cc)
keeps_none types acts (error.DuplicateEntityType e) is = absurd (cc)
keeps_none types acts (error.DuplicateCommonType e) is = absurd (cc)
keeps_none types acts (error.DuplicateAction e) is = absurd (cc)
keeps_none types acts (error.CycleInCommonTypeReferences e) is = absurd (cc)
keeps_none types acts (error.CycleInActionHierarchy e) is = absurd (cc)
keeps_none types acts (error.JsonDeserialization e) is = record { types = tt; actions = tt }
keeps_none types acts (error.JsonSerialization e) is = record { types = tt; actions = tt }
keeps_none types acts (error.UnsupportedFeature e) is = record { types = tt; actions = tt }
keeps_none types acts (error.UndeclaredEntityTypes e) is = record { types = tt; actions = tt }
keeps_none types acts (error.TypeNotDefined e) is = record { types = tt; actions = tt }
keeps_none types acts (error.ActionNotDefined e) is = record { types = tt; actions = tt }
keeps_none types acts (error.ActionEntityTypeDeclared e) is = record { types = tt; actions = tt }
keeps_none types acts (error.ContextOrShapeNotRecord e) is = record { types = tt; actions = tt }
keeps_none types acts (error.ActionAttributesContainEmptySet e) is = record { types = tt; actions = tt }
keeps_none types acts (error.UnsupportedActionAttribute e) is = record { types = tt; actions = tt }
keeps_none types acts (error.ActionAttrEval e) is = record { types = tt; actions = tt }
keeps_none types acts (error.ExprEscapeUsed e) is = record { types = tt; actions = tt }
keeps_none types acts (error.UnknownExtensionType e) is = record { types = tt; actions = tt }
keeps_none types acts (error.CommonTypeInvariantViolation e) is = record { types = tt; actions = tt }
keeps_none types acts (error.ActionInvariantViolation e) is = record { types = tt; actions = tt }
keeps_none types acts (error.ActionTransitiveClosure e) is = record { types = tt; actions = tt }
keeps_none types acts (error.EntityTypeTransitiveClosure e) is = record { types = tt; actions = tt }
keeps_none types acts (error.ReservedName e) is = record { types = tt; actions = tt }
keeps_none types acts (error.TooDeep e) is = record { types = tt; actions = tt }

-- such as names that must be entity types
pub undeclared_other : (names : List FullName) (r : Refusal) → undeclared_refusal names ≡ Some r → tells_declared r ≡ false
undeclared_other [] r is = absurd (cc)
undeclared_other (name ∷ names) r is = let same : refusal.UndeclaredEntityTypes name names ≡ r = cc in ap tells_declared (sym same)

abbrev other_of : Option SchemaError → Bool
other_of None = false
other_of (Some e) = tells_declared (told e)

-- and references that mean nothing
missing_other : (ts : List ConditionalName) (ps : List Parent) (rs : List InternalName) (e : SchemaError) → refusal_by ts ps rs ≡ Some e → tells_declared (told e) ≡ false
missing_other (t ∷ ts) ps rs e is = ap (λ o. other_of o) (sym is)
missing_other [] (p ∷ ps) rs e is = ap (λ o. other_of o) (sym is)
missing_other [] [] (r ∷ rs) e is = ap (λ o. other_of o) (sym is)
missing_other [] [] [] e is = absurd (cc)

pub missed_keep_none : (all_defs : AllDefs) (whole : Definitions) (types : List (FullName × Option Loc)) (acts : List (Uid × Option Loc)) (e : SchemaError) → Missed all_defs whole e → KeepsAmong types acts e
missed_keep_none all_defs whole types acts e missed =
    keeps_none types acts e (missing_other
    (missing_in_each (missing_in_definition (names_of all_defs)) (definitions_of whole)).types
    (missing_in_each (missing_in_definition (names_of all_defs)) (definitions_of whole)).actions
    (missing_in_each (missing_in_definition (names_of all_defs)) (definitions_of whole)).reserved e missed)

-- ---- definitions

module _ (ds : List Definition) where
  commons_among : (x : InternalName) → IsAmong (keys_of (tables.common_types_of ds)) x → IsAmong (all_types ds) x
  commons_among x among =
      among_gathered (λ (d : Definition). keys_of d.common_types.defs) types_of (λ d x here. among_left (keys_of d.common_types.defs) (map (λ e. internal_of (name_of e.0)) d.entity_types.defs) x here) ds x
      (subst (λ ks. IsAmong ks x) (gathered (λ (d : Definition). d.common_types.defs) (λ e. e.0) (λ d. keys_of d.common_types.defs) (λ d. refl) ds) among)

  action_keys : keys_of (flat_map tables.action_places ds) ≡ all_actions ds
  action_keys = gathered tables.action_places (λ a. a.0) actions_of (λ d. seen_twice (λ a. a.0) _ _ (λ a. refl) d.actions.actions) ds

  -- the tables of definitions are under the names that these declare
  pub tables_keep : (t : Tables) → t.common_types ≡ map_of internal_cmp (tables.common_types_of ds) → map action_place t.actions ≡ map_of action_cmp (flat_map tables.action_places ds)
      → (e : SchemaError) → KeepsAmong (map placed (keys_of t.common_types)) (map placed_action (keys_of t.actions)) e → KeepsDeclared ds e
  tables_keep t commons_are acts_are e k =
      let acts : keys_of t.actions ≡ keys_of (map_of action_cmp (flat_map tables.action_places ds)) = sym (seen_twice (λ a. a.0) action_place _ (λ a. refl) t.actions) ∙ ap keys_of acts_are in
      keeps_more (map placed (keys_of t.common_types)) (map placed (all_types ds)) (map placed_action (keys_of t.actions)) (map placed_action (all_actions ds))
      (among_seen placed (keys_of t.common_types) (all_types ds) (λ x among. commons_among x (keys_among internal_cmp (tables.common_types_of ds) x (subst (λ es. IsAmong (keys_of es) x) commons_are among))))
      (among_seen placed_action (keys_of t.actions) (all_actions ds) (λ x among. subst (λ ks. IsAmong ks x) action_keys (keys_among action_cmp (flat_map tables.action_places ds) x (subst (λ ks. IsAmong ks x) acts among)))) e k

  -- so are the names that are held, where these are declared
  pub held_keeps : (all_defs : AllDefs) → HeldAmong (map placed (all_types ds)) (map placed_action (all_actions ds)) all_defs → (e : SchemaError) → KeepsAmong (types_at all_defs) (actions_at all_defs) e → KeepsDeclared ds e
  held_keeps all_defs held e k =
      keeps_more (types_at all_defs) (map placed (all_types ds)) (actions_at all_defs) (map placed_action (all_actions ds))
      (holds_among (IsAmong (map placed (all_types ds))) (types_at all_defs) held.types_are)
      (holds_among (IsAmong (map placed_action (all_actions ds))) (actions_at all_defs) held.actions_are) e k

-- ---- worlds

-- definitions alone
pub keeps_own : (W : World) (ds : List Definition) (e : SchemaError) → KeepsDeclared ds e → KeepsDeclarations W ds e
keeps_own W ds e k = record { builtins = []; are_builtin = tt; kept = subst (λ all. KeepsDeclared all e) (sym (append-nil ds)) k }

module _ (fragments : List Definitions) (X : Extensions) where
  abbrev ds : List Definition
  ds = flat_map definitions_of fragments

  abbrev builtin : List Namespace
  builtin = builtin_namespaces (own (world_of fragments X)) (world_of fragments X).extensions

  -- definitions with all builtin ones
  pub keeps_all : (all_defs : AllDefs) (whole : Definitions) (e : SchemaError) → Holds (world_of fragments X) all_defs (definitions_of whole) X
      → (builtins : List Definition) × (definitions_of whole ≡ ds ++ builtins) → KeepsDeclared (definitions_of whole) e → KeepsDeclarations (world_of fragments X) ds e
  keeps_all all_defs whole e h behind k = record {
    builtins = behind.0;
    are_builtin = subst (λ ns. AllPass (λ d. IsAmong ns (namespace_in d)) behind.0) rest (each_seen namespace_in behind.0);
    kept = subst (λ all. KeepsDeclared all e) behind.1 k;
  }
    where
      rest : map namespace_in behind.0 ≡ builtin
      rest = append_cancel_left (map namespace_in ds) (map namespace_in behind.0) builtin (sym (map-append namespace_in ds behind.0) ∙ ap (map namespace_in) (sym behind.1) ∙ h.namespaces_are)
