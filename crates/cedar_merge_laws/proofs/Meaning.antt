-- SPDX-License-Identifier: Apache-2.0
-- What namespaces declare makes one world, and has faults or none, in whatever order and however it is spread over them.
use Rattle.std.proofs.Common.{◌≡◌, ◌++◌, ℕ, Bool, true, false, cond, List, [], ◌∷◌, map, codes, Option, Some, None, refl, sym, ap, ◌∙◌}
use Rattle.std.proofs.lemmas.List.{append-nil, map-append}
use Rattle.std.proofs.lemmas.List.Elements.{filter_map-append}
use Rattle.std.specs.List.{AllZip, cons_option, filter, filter_map, flat_map}
use Rattle.std.specs.Map.{keys_of}
use Rattle.std.specs.Prelude.{⊤, IfOk}
use Rattle.std.specs.declared.result.Result.{Result}
use Rattle.std.specs.declared.result.Result.TheVariants.{Ok, Err}
use Rattle.std.specs.Option.{is_some}
use Rattle.std.specs.Str.{bytes_eq}
use Rattle.cedar_data.proofs.Passing.{AllPass-append, AllPass-back, AllPass-front}
use Rattle.cedar_data.specs.Firsts.{AllPass}
use Rattle.cedar_names.specs.Identifiers.{unreserved_word}
use Rattle.cedar_names.specs.declared.id.UnreservedId.{UnreservedId}
use Rattle.cedar_names.specs.declared.name.Name.{Name}
use Rattle.cedar_written.specs.declared.common_type_id.CommonTypeId.{CommonTypeId}
use Rattle.cedar_written.specs.declared.conditional_name.ConditionalName.{ConditionalName}
use Rattle.cedar_written.specs.declared.raw_name.RawName.{RawName}
use Rattle.cedar_fragment.specs.ActionUids.{over_conditional, over_raw}
use Rattle.cedar_fragment.specs.declared.definitions.ActionType.{ActionType}
use Rattle.cedar_fragment.specs.declared.definitions.CommonType.{CommonType}
use Rattle.cedar_fragment.specs.declared.definitions.EntityType.{EntityType}
use Rattle.cedar_convert_fragment.specs.Fragments as tree
use Rattle.cedar_convert_fragment.specs.Views.{action_seen, actions_seen, common_seen, definition_seen, entities_seen, entity_seen, fragment_seen, namespaces_seen}
use Rattle.cedar_definitions.specs.Structures.{definitions_of}
use Rattle.cedar_definitions.specs.declared.structures.ValidatorSchemaFragment.{ValidatorSchemaFragment}
use Rattle.cedar_fragment_world.specs.FragmentFaults.{action_faults, action_types, definition_faults, entity_faults, fragment_faults, with_attributes}
use Rattle.cedar_fragment_world.specs.FragmentWorlds.{action_at, common_at, entity_at, namespace_of, namespaces_of, world_of_fragment}
use Rattle.cedar_fragment_world.proofs.NamespacesSeen.{namespaces_are}
use Rattle.cedar_merge.specs.Lookups.{Declaration, Definition, Fragment, Path, Place, action, common_type, common_word, entity_type, path_of}
use Rattle.cedar_merge.specs.Merged.{Merged, NoClash, NoConflict}
use Rattle.cedar_merge.specs.declared.errors.DeclKind.TheVariants.{Common, Entity, Action}
use Rattle.cedar_merge_laws.specs.Together.{InOrder, MeansTogether, all_namespaces, seen_together}
use Rattle.cedar_merge_laws.proofs.Listing.{Row, row, rows, rows_of}
use Rattle.cedar_merge_laws.proofs.Loops.{fragment_seen_in_order}
use Rattle.cedar_merge_laws.proofs.Together.{declares_alike}
use Rattle.cedar_namespace_definitions.specs.Definitions.{AreDefinitionsOf}
use Rattle.cedar_namespace_definitions.specs.Faults.{all_refused, prohibited}
use Rattle.cedar_resolving_laws.specs.Reordered.{DeclareAlike, Reordered, same, swapped, behind, both}
use Rattle.cedar_resolving_laws.proofs.Reordering.{pass_reordered, turned}
use Rattle.cedar_resolving_laws.proofs.WorldsReordered.{denotes_alike, sound_alike}
use Rattle.cedar_schema.specs.Fragments.{SoundFragment}
use Rattle.cedar_schema_error.specs.FullNames.{FullName, Uid}
use Rattle.cedar_schema_error.specs.NameReferences.{ActionReference, NameReference}
use Rattle.cedar_schema_error.specs.Refusals.{ActionEntityTypeDeclared}
use Rattle.cedar_schema_error.specs.declared.action_behavior.ActionBehavior.{ActionBehavior}
use Rattle.cedar_schema_error.specs.declared.action_behavior.ActionBehavior.TheVariants.{PermitAttributes, ProhibitAttributes}
use Rattle.cedar_types.specs.declared.value.ValueMap.{ValueMap}
use Rattle.cedar_unfold.specs.Written.{Written}
use Rattle.cedar_world.specs.DefinitionViews.{namespace_in}
use Rattle.cedar_world.specs.Definitions.{ActionDefinition, EntityDefinition, Namespace}
use Rattle.cedar_world.specs.Denotes.{Denotes}
use Rattle.cedar_world.specs.Schemas.{Schema}

-- ---- what is kept of rows

module _ {A B : Type 0} (kept : A → Option B) where
  keeps_all : {X Y : Type 0} (f : X → A) (g : Y → B) (h : X → Y) → ((x : X) → kept (f x) ≡ Some (g (h x))) → (xs : List X) → filter_map kept (map f xs) ≡ map g (map h xs)
  keeps_all f g h is [] = refl
  keeps_all f g h is (x ∷ xs) = λ i. cons_option (is x i) (keeps_all f g h is xs i)

  keeps_none : {X : Type 0} (f : X → A) → ((x : X) → kept (f x) ≡ None) → (xs : List X) → filter_map kept (map f xs) ≡ []
  keeps_none f is [] = refl
  keeps_none f is (x ∷ xs) = λ i. cons_option (is x i) (keeps_none f is xs i)

  kept_reordered : {xs ys : List A} → Reordered xs ys → Reordered (filter_map kept xs) (filter_map kept ys)
  kept_reordered same = same
  kept_reordered (swapped {x = x} {y = y} {xs = xs}) = by (kept x) (kept y)
    where
      by : (o p : Option B) → Reordered (cons_option o (cons_option p (filter_map kept xs))) (cons_option p (cons_option o (filter_map kept xs)))
      by None None = same
      by None (Some b) = same
      by (Some a) None = same
      by (Some a) (Some b) = swapped
  kept_reordered (behind {x = x} {xs = xs} {ys = ys} r) = by (kept x) (kept_reordered r)
    where
      by : (o : Option B) → Reordered (filter_map kept xs) (filter_map kept ys) → Reordered (cons_option o (filter_map kept xs)) (cons_option o (filter_map kept ys))
      by None h = h
      by (Some b) h = behind h
  kept_reordered (both r s) = both (kept_reordered r) (kept_reordered s)

abbrev Commons : Type 0
Commons = FullName × Written NameReference

abbrev Entities : Type 0
Entities = FullName × EntityDefinition NameReference

abbrev Actions : Type 0
Actions = Uid × ActionDefinition NameReference ActionReference

abbrev common_part : Place → Declaration → Option Commons
common_part p (common_type c) = Some (common_at p.namespace (p.name, common_seen c))
common_part p (entity_type e) = None
common_part p (action a) = None

abbrev entity_part : Place → Declaration → Option Entities
entity_part p (common_type c) = None
entity_part p (entity_type e) = Some (entity_at p.namespace (p.name, entity_seen e))
entity_part p (action a) = None

abbrev action_part : Place → Declaration → Option Actions
action_part p (common_type c) = None
action_part p (entity_type e) = None
action_part p (action a) = Some (action_at p.namespace (p.name, action_seen a))

module _ (n : Option Name × Definition) where
  abbrev commons : List Row
  commons = map (row (path_of n.0) Common common_word common_type) n.1.common_types

  abbrev entities : List Row
  entities = map (row (path_of n.0) Entity unreserved_word entity_type) n.1.entity_types

  abbrev actions : List Row
  actions = map (row (path_of n.0) Action (λ id. id) action) n.1.actions

  abbrev seen : Namespace
  seen = namespace_of (path_of n.0, definition_seen n.1)

  parts : {B : Type 0} (kept : Row → Option B) (xs ys zs : List B) → filter_map kept commons ≡ xs → filter_map kept entities ≡ ys → filter_map kept actions ≡ zs → filter_map kept (rows_of n) ≡ xs ++ (ys ++ zs)
  parts kept xs ys zs p q r = filter_map-append kept commons (entities ++ actions) ∙ (λ i. p i ++ (filter_map-append kept entities actions ∙ (λ j. q j ++ r j)) i)

  common_row : filter_map (λ r. common_part r.0 r.1) (rows_of n) ≡ seen.common_types
  common_row =
      parts (λ r. common_part r.0 r.1) seen.common_types [] []
      (keeps_all (λ r. common_part r.0 r.1) (row (path_of n.0) Common common_word common_type) (common_at (path_of n.0)) (λ e. (common_word e.0, common_seen e.1)) (λ e. refl) n.1.common_types)
      (keeps_none (λ r. common_part r.0 r.1) (row (path_of n.0) Entity unreserved_word entity_type) (λ e. refl) n.1.entity_types)
      (keeps_none (λ r. common_part r.0 r.1) (row (path_of n.0) Action (λ id. id) action) (λ e. refl) n.1.actions)
      ∙ append-nil seen.common_types

  entity_row : filter_map (λ r. entity_part r.0 r.1) (rows_of n) ≡ seen.entity_types
  entity_row =
      parts (λ r. entity_part r.0 r.1) [] seen.entity_types []
      (keeps_none (λ r. entity_part r.0 r.1) (row (path_of n.0) Common common_word common_type) (λ e. refl) n.1.common_types)
      (keeps_all (λ r. entity_part r.0 r.1) (row (path_of n.0) Entity unreserved_word entity_type) (entity_at (path_of n.0)) (λ e. (unreserved_word e.0, entity_seen e.1)) (λ e. refl) n.1.entity_types)
      (keeps_none (λ r. entity_part r.0 r.1) (row (path_of n.0) Action (λ id. id) action) (λ e. refl) n.1.actions)
      ∙ append-nil seen.entity_types

  action_row : filter_map (λ r. action_part r.0 r.1) (rows_of n) ≡ seen.actions
  action_row =
      parts (λ r. action_part r.0 r.1) [] [] seen.actions
      (keeps_none (λ r. action_part r.0 r.1) (row (path_of n.0) Common common_word common_type) (λ e. refl) n.1.common_types)
      (keeps_none (λ r. action_part r.0 r.1) (row (path_of n.0) Entity unreserved_word entity_type) (λ e. refl) n.1.entity_types)
      (keeps_all (λ r. action_part r.0 r.1) (row (path_of n.0) Action (λ id. id) action) (action_at (path_of n.0)) (λ e. (e.0, action_seen e.1)) (λ e. refl) n.1.actions)

-- ---- the world of rows

module _ {B : Type 0} (kept : Row → Option B) (part : Namespace → List B) (each : (n : Option Name × Definition) → filter_map kept (rows_of n) ≡ part (namespace_of (path_of n.0, definition_seen n.1))) where
  all_parts : (ns : List (Option Name × Definition)) → flat_map part (namespaces_of (namespaces_seen ns)) ≡ filter_map kept (rows ns)
  all_parts [] = refl
  all_parts (n ∷ ns) = (λ i. sym (each n) i ++ all_parts ns i) ∙ sym (filter_map-append kept (rows_of n) (rows ns))

  parts_alike : (ns ms : List (Option Name × Definition)) → Reordered (rows ns) (rows ms) → Reordered (flat_map part (namespaces_of (namespaces_seen ns))) (flat_map part (namespaces_of (namespaces_seen ms)))
  parts_alike ns ms r = Rattle.cedar_resolving_laws.proofs.Spread.renamed (all_parts ns) (kept_reordered kept r) (sym (all_parts ms))

-- namespaces with the same rows declare the same
world_alike : (ns ms : List (Option Name × Definition)) → Reordered (rows ns) (rows ms) → DeclareAlike (namespaces_of (namespaces_seen ns)) (namespaces_of (namespaces_seen ms))
world_alike ns ms r = record {
  common_types = parts_alike (λ r. common_part r.0 r.1) (λ n. n.common_types) common_row ns ms r;
  entity_types = parts_alike (λ r. entity_part r.0 r.1) (λ n. n.entity_types) entity_row ns ms r;
  actions = parts_alike (λ r. action_part r.0 r.1) (λ n. n.actions) action_row ns ms r;
}

-- ---- the faults of rows

no_left : {A : Type 0} (xs ys : List A) → xs ++ ys ≡ [] → xs ≡ []
no_left [] ys e = refl
no_left (x ∷ xs) ys e = absurd (cc)

no_right : {A : Type 0} (xs ys : List A) → xs ++ ys ≡ [] → ys ≡ []
no_right [] ys e = e
no_right (x ∷ xs) ys e = absurd (cc)

nothing : {A : Type 0} {xs ys : List A} → xs ≡ [] → ys ≡ [] → xs ++ ys ≡ []
nothing p q = λ i. p i ++ q i

-- an action may have these attributes
abbrev Permits : ActionBehavior → Option ValueMap → Type 0
Permits PermitAttributes o = ⊤
Permits ProhibitAttributes o = is_some o ≡ false

-- nothing is wrong with a declaration at its place
abbrev Clean : ActionBehavior → Place → Declaration → Type 0
Clean b p (common_type c) = ⊤
Clean b p (entity_type e) = (bytes_eq p.name (codes "Action") ≡ false) × (entity_faults p.namespace (p.name, entity_seen e) ≡ [])
Clean b p (action a) = Permits b a.attributes × (action_faults p.namespace (p.name, action_seen a) ≡ [])

abbrev CleanRow : ActionBehavior → Row → Type 0
CleanRow b r = Clean b r.0 r.1

abbrev Entry : Type 0
Entry = UnreservedId × EntityType RawName

abbrev Act : Type 0
Act = List ℕ × ActionType RawName over_raw

abbrev entry_seen : Entry → List ℕ × tree.Declared tree.EntityContent
entry_seen e = (unreserved_word e.0, entity_seen e.1)

abbrev act_seen : Act → List ℕ × tree.Declared tree.ActionContent
act_seen a = (a.0, action_seen a.1)

-- the entity types named `Action`
abbrev named_action : List Entry → tree.ByName tree.EntityContent
named_action es = filter (λ f. bytes_eq f.0 (codes "Action")) (entities_seen es)

-- the actions with attributes
abbrev attributed : List Act → tree.ByName tree.ActionContent
attributed acts = filter (λ f. is_some f.1.content.attributes) (actions_seen acts)

abbrev common_rows : Path → List (CommonTypeId × CommonType RawName) → List Row
common_rows ns es = map (row ns Common common_word common_type) es

abbrev entity_rows : Path → List Entry → List Row
entity_rows ns es = map (row ns Entity unreserved_word entity_type) es

abbrev action_rows : Path → List Act → List Row
action_rows ns acts = map (row ns Action (λ id. id) action) acts

-- no action has attributes
abbrev NoneHas : List Act → Type 0
NoneHas acts = AllPass (λ a. is_some a.1.attributes ≡ false) acts

-- each action may have its attributes
abbrev AllPermit : ActionBehavior → List Act → Type 0
AllPermit b acts = AllPass (λ a. Permits b a.1.attributes) acts

none_refused : (ids : List (List ℕ)) → all_refused ids ≡ [] → ids ≡ []
none_refused [] e = refl
none_refused (id ∷ ids) e = absurd (cc)

none_has : (acts : List Act) → keys_of (attributed acts) ≡ [] → NoneHas acts
none_has [] e = tt
none_has (a ∷ acts) e = by (is_some a.1.attributes) refl e (none_has acts)
  where
    by : (c : Bool) → is_some a.1.attributes ≡ c → keys_of (cond c (act_seen a ∷ attributed acts) (attributed acts)) ≡ [] → (keys_of (attributed acts) ≡ [] → NoneHas acts) → NoneHas (a ∷ acts)
    by true is h others = absurd (cc)
    by false is h others = (is, others h)

has_none : (acts : List Act) → NoneHas acts → keys_of (attributed acts) ≡ []
has_none [] h = refl
has_none (a ∷ acts) h = ap (λ c. keys_of (cond c (act_seen a ∷ attributed acts) (attributed acts))) h.0 ∙ has_none acts h.1

all_permitted : (acts : List Act) → AllPermit PermitAttributes acts
all_permitted [] = tt
all_permitted (a ∷ acts) = (tt, all_permitted acts)

permitted : (b : ActionBehavior) (acts : List Act) → prohibited b (with_attributes (actions_seen acts)) ≡ [] → AllPermit b acts
permitted PermitAttributes acts e = all_permitted acts
permitted ProhibitAttributes acts e = none_has acts (none_refused (keys_of (attributed acts)) e)

none_prohibited : (b : ActionBehavior) (acts : List Act) → AllPermit b acts → prohibited b (with_attributes (actions_seen acts)) ≡ []
none_prohibited PermitAttributes acts h = refl
none_prohibited ProhibitAttributes acts h = ap all_refused (has_none acts h)

module _ (b : ActionBehavior) (ns : Path) where
  commons_clean : (es : List (CommonTypeId × CommonType RawName)) → AllPass (CleanRow b) (common_rows ns es)
  commons_clean [] = tt
  commons_clean (e ∷ es) = (tt, commons_clean es)

  entities_clean : (es : List Entry) → action_types (entities_seen es) ≡ [] → flat_map (entity_faults ns) (entities_seen es) ≡ [] → AllPass (CleanRow b) (entity_rows ns es)
  entities_clean [] p q = tt
  entities_clean (e ∷ es) p q =
      by (bytes_eq (unreserved_word e.0) (codes "Action")) refl p
      (λ none. entities_clean es none (no_right (entity_faults ns (entry_seen e)) (flat_map (entity_faults ns) (entities_seen es)) q))
    where
      by : (c : Bool) → bytes_eq (unreserved_word e.0) (codes "Action") ≡ c → map (λ f. ActionEntityTypeDeclared) (cond c (entry_seen e ∷ named_action es) (named_action es)) ≡ []
          → (action_types (entities_seen es) ≡ [] → AllPass (CleanRow b) (entity_rows ns es)) → AllPass (CleanRow b) (entity_rows ns (e ∷ es))
      by true is h others = absurd (cc)
      by false is h others = ((is, no_left (entity_faults ns (entry_seen e)) (flat_map (entity_faults ns) (entities_seen es)) q), others h)

  clean_types : (es : List Entry) → AllPass (CleanRow b) (entity_rows ns es) → action_types (entities_seen es) ≡ []
  clean_types [] h = refl
  clean_types (e ∷ es) h = ap (λ c. map (λ f. ActionEntityTypeDeclared) (cond c (entry_seen e ∷ named_action es) (named_action es))) h.0.0 ∙ clean_types es h.1

  clean_entities : (es : List Entry) → AllPass (CleanRow b) (entity_rows ns es) → flat_map (entity_faults ns) (entities_seen es) ≡ []
  clean_entities [] h = refl
  clean_entities (e ∷ es) h = nothing h.0.1 (clean_entities es h.1)

  actions_clean : (acts : List Act) → AllPermit b acts → flat_map (action_faults ns) (actions_seen acts) ≡ [] → AllPass (CleanRow b) (action_rows ns acts)
  actions_clean [] p q = tt
  actions_clean (a ∷ acts) p q = (
    (p.0, no_left (action_faults ns (act_seen a)) (flat_map (action_faults ns) (actions_seen acts)) q),
    actions_clean acts p.1 (no_right (action_faults ns (act_seen a)) (flat_map (action_faults ns) (actions_seen acts)) q),
  )

  clean_permitted : (acts : List Act) → AllPass (CleanRow b) (action_rows ns acts) → AllPermit b acts
  clean_permitted [] h = tt
  clean_permitted (a ∷ acts) h = (h.0.0, clean_permitted acts h.1)

  clean_actions : (acts : List Act) → AllPass (CleanRow b) (action_rows ns acts) → flat_map (action_faults ns) (actions_seen acts) ≡ []
  clean_actions [] h = refl
  clean_actions (a ∷ acts) h = nothing h.0.1 (clean_actions acts h.1)

module _ (b : ActionBehavior) where
  -- a namespace without faults
  one_clean : (n : Option Name × Definition) → definition_faults b (path_of n.0, definition_seen n.1) ≡ [] → AllPass (CleanRow b) (rows_of n)
  one_clean n e =
      let ns = path_of n.0 in
      let types = action_types (entities_seen n.1.entity_types) in
      let behaved = prohibited b (with_attributes (actions_seen n.1.actions)) in
      let of_actions = flat_map (action_faults ns) (actions_seen n.1.actions) in
      let of_entities = flat_map (entity_faults ns) (entities_seen n.1.entity_types) in
      let whole = no_left (types ++ behaved) (of_actions ++ of_entities) e in
      let each = no_right (types ++ behaved) (of_actions ++ of_entities) e in
      AllPass-append (CleanRow b) (commons n) (entities n ++ actions n) (commons_clean b ns n.1.common_types)
      (AllPass-append (CleanRow b) (entities n) (actions n)
      (entities_clean b ns n.1.entity_types (no_left types behaved whole) (no_right of_actions of_entities each))
      (actions_clean b ns n.1.actions (permitted b n.1.actions (no_right types behaved whole)) (no_left of_actions of_entities each)))

  clean_one : (n : Option Name × Definition) → AllPass (CleanRow b) (rows_of n) → definition_faults b (path_of n.0, definition_seen n.1) ≡ []
  clean_one n h =
      let ns = path_of n.0 in
      let others = AllPass-back (CleanRow b) (commons n) (entities n ++ actions n) h in
      let of_entities = AllPass-front (CleanRow b) (entities n) (actions n) others in
      let of_actions = AllPass-back (CleanRow b) (entities n) (actions n) others in
      nothing (nothing (clean_types b ns n.1.entity_types of_entities) (none_prohibited b n.1.actions (clean_permitted b ns n.1.actions of_actions)))
      (nothing (clean_actions b ns n.1.actions of_actions) (clean_entities b ns n.1.entity_types of_entities))

  all_clean : (ns : List (Option Name × Definition)) → fragment_faults b (namespaces_seen ns) ≡ [] → AllPass (CleanRow b) (rows ns)
  all_clean [] e = tt
  all_clean (n ∷ ns) e =
      AllPass-append (CleanRow b) (rows_of n) (rows ns)
      (one_clean n (no_left (definition_faults b (path_of n.0, definition_seen n.1)) (fragment_faults b (namespaces_seen ns)) e))
      (all_clean ns (no_right (definition_faults b (path_of n.0, definition_seen n.1)) (fragment_faults b (namespaces_seen ns)) e))

  clean_all : (ns : List (Option Name × Definition)) → AllPass (CleanRow b) (rows ns) → fragment_faults b (namespaces_seen ns) ≡ []
  clean_all [] h = refl
  clean_all (n ∷ ns) h = nothing (clean_one n (AllPass-front (CleanRow b) (rows_of n) (rows ns) h)) (clean_all ns (AllPass-back (CleanRow b) (rows_of n) (rows ns) h))

  -- namespaces with the same rows have faults where these have some
  faultless_alike : (ns ms : List (Option Name × Definition)) → Reordered (rows ns) (rows ms) → fragment_faults b (namespaces_seen ns) ≡ [] → fragment_faults b (namespaces_seen ms) ≡ []
  faultless_alike ns ms r e = clean_all ms (pass_reordered (CleanRow b) r (all_clean ns e))

-- ---- meaning

module _ (b : ActionBehavior) (X : List (List ℕ)) (ns ms : List (Option Name × Definition)) (r : Reordered (rows ns) (rows ms)) where
  sound_there : SoundFragment b X (namespaces_seen ns) → SoundFragment b X (namespaces_seen ms)
  sound_there h = record {
    faultless = faultless_alike b ns ms r h.faultless;
    sound = sound_alike (world_of_fragment (namespaces_seen ns) X) (namespaces_of (namespaces_seen ms)) (world_alike ns ms r) h.sound;
  }

  denotes_there : (S : Schema) → SoundFragment b X (namespaces_seen ns) → Denotes (world_of_fragment (namespaces_seen ns) X) S → Denotes (world_of_fragment (namespaces_seen ms) X) S
  denotes_there S h d = denotes_alike (world_of_fragment (namespaces_seen ns) X) (namespaces_of (namespaces_seen ms)) (world_alike ns ms r) S h.sound d

-- the merged fragment means what the list means
pub means_together : (L : List Fragment) (F : Fragment) → AllPass (λ f. InOrder (fragment_seen f)) L → NoClash L → Merged L F → MeansTogether L F
means_together L F sorted none merged =
    let r = declares_alike L F sorted (fragment_seen_in_order F merged.ordered) none merged in
    let ms = all_namespaces L in
    record {
      declares = world_alike F.0 ms r;
      sound = λ b X. (sound_there b X F.0 ms r, sound_there b X ms F.0 (turned r));
      denotes = λ b X S h. (denotes_there b X F.0 ms r S (sound_there b X ms F.0 (turned r) h), denotes_there b X ms F.0 (turned r) S h);
    }

-- where a call accepts only what is merged of fragments that are apart
pub merged-together : {E : Type 0} (L : List Fragment) (result : Result Fragment E) → AllPass (λ f. InOrder (fragment_seen f)) L → IfOk result (Merged L) → IfOk result (λ F. NoClash L × NoConflict L) → IfOk result (MeansTogether L)
merged-together L (Ok F) sorted merged apart = means_together L F sorted apart.0 merged
merged-together L (Err e) sorted merged apart = tt

-- ---- definitions

-- the definitions that fragments become are of the world of all
pub worlds_together : (L : List Fragment) (made : List (ValidatorSchemaFragment ConditionalName ConditionalName over_conditional)) → AllZip (λ f d. AreDefinitionsOf f.0 (definitions_of d)) L made
    → map namespace_in (flat_map definitions_of made) ≡ namespaces_of (seen_together L)
worlds_together [] [] z = refl
worlds_together [] (d ∷ made) z = absurd z
worlds_together (f ∷ L) [] z = absurd z
worlds_together (f ∷ L) (d ∷ made) z =
    map-append namespace_in (definitions_of d) (flat_map definitions_of made)
    ∙ (λ i. namespaces_are f.0 (definitions_of d) z.0 i ++ worlds_together L made z.1 i)
    ∙ sym (ap (map namespace_of) (map-append _ f.0 (all_namespaces L)) ∙ map-append namespace_of (namespaces_seen f.0) (seen_together L))
