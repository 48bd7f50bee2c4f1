-- SPDX-License-Identifier: Apache-2.0
-- Where types unfold, and parents and what actions apply to have targets, nothing is missing in namespaces.
use Rattle.std.proofs.Common.{◌≡◌, ◌++◌, List, [], ◌∷◌, map, refl, ap}
use Rattle.std.specs.List.{flat_map}
use Rattle.cedar_data.specs.Firsts.{AllPass}
use Rattle.cedar_declared.specs.Names.{Names, undefined}
use Rattle.cedar_reread_world.proofs.Faultless.{none_missing, targeted}
use Rattle.cedar_reread_world.proofs.Zipped.{pass_both}
use Rattle.cedar_schema_error.specs.NameReferences.{ActionReference, NameReference}
use Rattle.cedar_schema_error.specs.Refusals.{Context, Shape, Tags, UsePlace}
use Rattle.cedar_sound.proofs.NothingMissed.{AreWhole, IsWhole, none_of_all, pass_each, pass_flat, pass_left, pass_right, pass_unmap, pass_weaker}
use Rattle.cedar_unfold.specs.Resolved.{Resolved}
use Rattle.cedar_unfold.specs.UnfoldPhases.{UsePasses}
use Rattle.cedar_unfold.specs.Unfolds.{Unfolds}
use Rattle.cedar_unfold.specs.Written.{Written, references}
use Rattle.cedar_world.specs.Definitions.{ActionDefinition, EntityDefinition, Namespace, parents_of, shape_of, tags_of}
use Rattle.cedar_world.specs.Missing.{first_alone, missing_in, missing_in_action, missing_in_entity, missing_in_namespace, missing_types, or_else}
use Rattle.cedar_world.specs.Worlds.{World, actions, entity_types, meanings, names, uses}

pub empty_left : {A : Type 0} (xs ys : List A) → xs ++ ys ≡ [] → xs ≡ []
empty_left [] ys e = refl
empty_left (x ∷ xs) ys e = absurd (cc)

pub empty_right : {A : Type 0} (xs ys : List A) → xs ++ ys ≡ [] → ys ≡ []
empty_right [] ys e = e
empty_right (x ∷ xs) ys e = absurd (cc)

none_of_each : {A B : Type 0} (f : A → List B) (xs : List A) → flat_map f xs ≡ [] → AllPass (λ x. f x ≡ []) xs
none_of_each f [] e = tt
none_of_each f (x ∷ xs) e = (empty_left (f x) (flat_map f xs) e, none_of_each f xs (empty_right (f x) (flat_map f xs) e))

or_else_left : {A : Type 0} (xs ys : List A) → or_else xs ys ≡ [] → xs ≡ []
or_else_left [] ys e = refl
or_else_left (x ∷ xs) ys e = absurd (cc)

or_else_right : {A : Type 0} (xs ys : List A) → or_else xs ys ≡ [] → ys ≡ []
or_else_right [] ys e = e
or_else_right (x ∷ xs) ys e = absurd (cc)

or_else_none : {A : Type 0} (xs ys : List A) → xs ≡ [] → ys ≡ [] → or_else xs ys ≡ []
or_else_none [] ys p q = q
or_else_none (x ∷ xs) ys p q = absurd (cc)

-- a type that unfolds misses nothing
pub unfolds_whole : (U : World) (t : Written NameReference) (T : Resolved) → Unfolds (meanings U) t T → IsWhole (names U) t
unfolds_whole U t T d = ap first_alone (none_missing (meanings U) (references t) (targeted (meanings U) t T d))

module _ (N : Names) where
  -- the parents of an entity type, and what an action applies to, miss nothing
  abbrev pub ParentsWhole : EntityDefinition NameReference → Type 0
  ParentsWhole e = undefined N (parents_of e) ≡ []

  abbrev pub ApplicationsWhole : ActionDefinition NameReference ActionReference → Type 0
  ApplicationsWhole a = undefined N a.principals ++ undefined N a.resources ≡ []

  pub entity_none : (e : EntityDefinition NameReference) → ParentsWhole e → AreWhole N e → missing_in_entity N e ≡ []
  entity_none e p w = or_else_none (undefined N (parents_of e)) (flat_map (missing_in N) (shape_of e) ++ flat_map (missing_in N) (tags_of e)) p
      (λ i. none_of_all (missing_in N) (shape_of e) w.0 i ++ none_of_all (missing_in N) (tags_of e) w.1 i)

  pub action_none : (a : ActionDefinition NameReference ActionReference) → ApplicationsWhole a → IsWhole N a.context → missing_in_action N a ≡ []
  action_none a p w = or_else_none (missing_in N a.context) (undefined N a.principals ++ undefined N a.resources) w p

  -- where nothing is missing in any declaration, nothing is missing in namespaces
  pub from_each : (all : List Namespace) → AllPass (λ c. missing_in N c.1 ≡ []) (flat_map (λ (ns : Namespace). ns.common_types) all) → AllPass (λ e. missing_in_entity N e.1 ≡ []) (flat_map (λ (ns : Namespace). ns.entity_types) all)
      → AllPass (λ a. missing_in_action N a.1 ≡ []) (flat_map (λ (ns : Namespace). ns.actions) all) → missing_types N all ≡ []
  from_each [] c e a = refl
  from_each (ns ∷ all) c e a = λ i.
      ((none_of_all (λ c. missing_in N c.1) ns.common_types (pass_left (λ c. missing_in N c.1 ≡ []) ns.common_types (flat_map (λ (ns : Namespace). ns.common_types) all) c) i
      ++ none_of_all (λ e. missing_in_entity N e.1) ns.entity_types (pass_left (λ e. missing_in_entity N e.1 ≡ []) ns.entity_types (flat_map (λ (ns : Namespace). ns.entity_types) all) e) i)
      ++ none_of_all (λ a. missing_in_action N a.1) ns.actions (pass_left (λ a. missing_in_action N a.1 ≡ []) ns.actions (flat_map (λ (ns : Namespace). ns.actions) all) a) i)
      ++ from_each all (pass_right (λ c. missing_in N c.1 ≡ []) ns.common_types (flat_map (λ (ns : Namespace). ns.common_types) all) c)
      (pass_right (λ e. missing_in_entity N e.1 ≡ []) ns.entity_types (flat_map (λ (ns : Namespace). ns.entity_types) all) e)
      (pass_right (λ a. missing_in_action N a.1 ≡ []) ns.actions (flat_map (λ (ns : Namespace). ns.actions) all) a) i

  abbrev commons_of : Namespace → List NameReference
  commons_of ns = flat_map (λ c. missing_in N c.1) ns.common_types

  abbrev entities_of : Namespace → List NameReference
  entities_of ns = flat_map (λ e. missing_in_entity N e.1) ns.entity_types

  abbrev actions_of : Namespace → List NameReference
  actions_of ns = flat_map (λ a. missing_in_action N a.1) ns.actions

  -- and the other way round, of parents and applications
  pub parents_whole : (all : List Namespace) → missing_types N all ≡ [] → AllPass (λ e. ParentsWhole e.1) (flat_map (λ (ns : Namespace). ns.entity_types) all)
  parents_whole all none = pass_flat (λ e. ParentsWhole e.1) (λ ns. ns.entity_types) all
      (pass_weaker (λ ns. missing_in_namespace N ns ≡ []) (λ ns. AllPass (λ e. ParentsWhole e.1) ns.entity_types)
      (λ ns h. pass_weaker (λ e. missing_in_entity N e.1 ≡ []) (λ e. ParentsWhole e.1)
      (λ e h. or_else_left (undefined N (parents_of e.1)) (flat_map (missing_in N) (shape_of e.1) ++ flat_map (missing_in N) (tags_of e.1)) h) ns.entity_types
      (none_of_each (λ e. missing_in_entity N e.1) ns.entity_types (empty_right (commons_of ns) (entities_of ns) (empty_left (commons_of ns ++ entities_of ns) (actions_of ns) h)))) all
      (none_of_each (missing_in_namespace N) all none))

  pub applications_whole : (all : List Namespace) → missing_types N all ≡ [] → AllPass (λ a. ApplicationsWhole a.1) (flat_map (λ (ns : Namespace). ns.actions) all)
  applications_whole all none = pass_flat (λ a. ApplicationsWhole a.1) (λ ns. ns.actions) all
      (pass_weaker (λ ns. missing_in_namespace N ns ≡ []) (λ ns. AllPass (λ a. ApplicationsWhole a.1) ns.actions)
      (λ ns h. pass_weaker (λ a. missing_in_action N a.1 ≡ []) (λ a. ApplicationsWhole a.1) (λ a h. or_else_right (missing_in N a.1.context) (undefined N a.1.principals ++ undefined N a.1.resources) h) ns.actions
      (none_of_each (λ a. missing_in_action N a.1) ns.actions (empty_right (commons_of ns ++ entities_of ns) (actions_of ns) h))) all
      (none_of_each (missing_in_namespace N) all none))

module _ (U : World) (passes : AllPass (UsePasses (meanings U)) (uses U)) where
  abbrev shapes : List (UsePlace × Written NameReference)
  shapes = flat_map (λ e. map (λ t. (Shape e.0, t)) (shape_of e.1)) (entity_types U)

  abbrev tagged : List (UsePlace × Written NameReference)
  tagged = flat_map (λ e. map (λ t. (Tags e.0, t)) (tags_of e.1)) (entity_types U)

  abbrev contexts : List (UsePlace × Written NameReference)
  contexts = map (λ a. (Context a.0, a.1.context)) (actions U)

  abbrev Whole : UsePlace × Written NameReference → Type 0
  Whole u = IsWhole (names U) u.1

  whole : AllPass Whole (uses U)
  whole = pass_weaker (UsePasses (meanings U)) Whole (λ u h. unfolds_whole U u.1 h.resolved h.unfolds) (uses U) passes

  -- shapes, tags and contexts miss nothing
  pub entities_whole : AllPass (λ e. AreWhole (names U) e.1) (entity_types U)
  entities_whole =
      let both = pass_left Whole (shapes ++ tagged) contexts whole in
      pass_both (λ e. AllPass (IsWhole (names U)) (shape_of e.1)) (λ e. AllPass (IsWhole (names U)) (tags_of e.1)) (entity_types U)
      (pass_weaker (λ e. AllPass Whole (map (λ t. (Shape e.0, t)) (shape_of e.1))) (λ e. AllPass (IsWhole (names U)) (shape_of e.1)) (λ e h. pass_unmap Whole (λ t. (Shape e.0, t)) (shape_of e.1) h) (entity_types U)
      (pass_each Whole (λ e. map (λ t. (Shape e.0, t)) (shape_of e.1)) (entity_types U) (pass_left Whole shapes tagged both)))
      (pass_weaker (λ e. AllPass Whole (map (λ t. (Tags e.0, t)) (tags_of e.1))) (λ e. AllPass (IsWhole (names U)) (tags_of e.1)) (λ e h. pass_unmap Whole (λ t. (Tags e.0, t)) (tags_of e.1) h) (entity_types U)
      (pass_each Whole (λ e. map (λ t. (Tags e.0, t)) (tags_of e.1)) (entity_types U) (pass_right Whole shapes tagged both)))

  pub contexts_whole : AllPass (λ a. IsWhole (names U) a.1.context) (actions U)
  contexts_whole = pass_unmap Whole (λ a. (Context a.0, a.1.context)) (actions U) (pass_right Whole (shapes ++ tagged) contexts whole)
