-- SPDX-License-Identifier: Apache-2.0
-- Where namespaces miss nothing, none of their types does; and where they mean no name with `__cedar`, no action does.
use Rattle.std.proofs.Common.{◌≡◌, ◌++◌, Bool, true, false, cond, List, [], ◌∷◌, fold, map, refl, ap, ◌∙◌}
use Rattle.std.specs.BTreeMap.{insert_entry}
use Rattle.std.specs.List.{filter, flat_map}
use Rattle.std.specs.Ordering.{match_ordering}
use Rattle.std.specs.declared.cmp.Ordering.{Ordering}
use Rattle.std.specs.declared.cmp.Ordering.TheVariants.{Less, Equal, Greater}
use Rattle.cedar_data.specs.Firsts.{AllPass}
use Rattle.cedar_data.specs.Maps.{map_of}
use Rattle.cedar_shadowing.specs.of_declared.Names.{Names, targets, undefined}
use Rattle.cedar_names.specs.Components.{has_cedar}
use Rattle.cedar_duplicates.specs.of_schema_error.FullNames.{FullName, Uid}
use Rattle.cedar_duplicates.specs.of_schema_error.NameReferences.{ActionReference, NameReference}
use Rattle.cedar_duplicates.specs.of_schema_error.Refusals.{Context, Shape, Tags, UsePlace}
use Rattle.cedar_world.specs.of_unfold.Written.{Written}
use Rattle.cedar_world.specs.Definitions.{ActionDefinition, EntityDefinition, Namespace, parents_of, shape_of, tags_of}
use Rattle.cedar_world.specs.Missing.{action_memberships, entity_memberships, memberships, missing_in, missing_in_action, missing_in_entity, missing_in_namespace, missing_types, or_else, parent_types, reserved_targets}
use Rattle.cedar_world.specs.Worlds.{actions_in, common_types_in, entity_types_in, uses_in}

empty_left : {A : Type 0} (xs ys : List A) → xs ++ ys ≡ [] → xs ≡ []
empty_left [] ys e = refl
empty_left (x ∷ xs) ys e = absurd (cc)

empty_right : {A : Type 0} (xs ys : List A) → xs ++ ys ≡ [] → ys ≡ []
empty_right [] ys e = e
empty_right (x ∷ xs) ys e = absurd (cc)

-- nothing is given of all, so nothing of each
none_of_each : {A B : Type 0} (f : A → List B) (xs : List A) → flat_map f xs ≡ [] → AllPass (λ x. f x ≡ []) xs
none_of_each f [] e = tt
none_of_each f (x ∷ xs) e = (empty_left (f x) (flat_map f xs) e, none_of_each f xs (empty_right (f x) (flat_map f xs) e))

-- and the other way round
pub none_of_all : {A B : Type 0} (f : A → List B) (xs : List A) → AllPass (λ x. f x ≡ []) xs → flat_map f xs ≡ []
none_of_all f [] all = refl
none_of_all f (x ∷ xs) all = ap (λ l. l ++ flat_map f xs) all.0 ∙ none_of_all f xs all.1

pub pass_append : {A : Type 0} (P : A → Type 0) (xs ys : List A) → AllPass P xs → AllPass P ys → AllPass P (xs ++ ys)
pass_append P [] ys p q = q
pass_append P (x ∷ xs) ys p q = (p.0, pass_append P xs ys p.1 q)

pub pass_left : {A : Type 0} (P : A → Type 0) (xs ys : List A) → AllPass P (xs ++ ys) → AllPass P xs
pass_left P [] ys p = tt
pass_left P (x ∷ xs) ys p = (p.0, pass_left P xs ys p.1)

pub pass_right : {A : Type 0} (P : A → Type 0) (xs ys : List A) → AllPass P (xs ++ ys) → AllPass P ys
pass_right P [] ys p = p
pass_right P (x ∷ xs) ys p = pass_right P xs ys p.1

pub pass_flat : {A B : Type 0} (P : B → Type 0) (f : A → List B) (xs : List A) → AllPass (λ x. AllPass P (f x)) xs → AllPass P (flat_map f xs)
pass_flat P f [] all = tt
pass_flat P f (x ∷ xs) all = pass_append P (f x) (flat_map f xs) all.0 (pass_flat P f xs all.1)

pub pass_each : {A B : Type 0} (P : B → Type 0) (f : A → List B) (xs : List A) → AllPass P (flat_map f xs) → AllPass (λ x. AllPass P (f x)) xs
pass_each P f [] all = tt
pass_each P f (x ∷ xs) all = (pass_left P (f x) (flat_map f xs) all, pass_each P f xs (pass_right P (f x) (flat_map f xs) all))

pub pass_weaker : {A : Type 0} (P Q : A → Type 0) → ((x : A) → P x → Q x) → (xs : List A) → AllPass P xs → AllPass Q xs
pass_weaker P Q f [] all = tt
pass_weaker P Q f (x ∷ xs) all = (f x all.0, pass_weaker P Q f xs all.1)

pub pass_map : {A B : Type 0} (P : B → Type 0) (f : A → B) (xs : List A) → AllPass (λ x. P (f x)) xs → AllPass P (map f xs)
pass_map P f [] all = tt
pass_map P f (x ∷ xs) all = (all.0, pass_map P f xs all.1)

pub pass_unmap : {A B : Type 0} (P : B → Type 0) (f : A → B) (xs : List A) → AllPass P (map f xs) → AllPass (λ x. P (f x)) xs
pass_unmap P f [] all = tt
pass_unmap P f (x ∷ xs) all = (all.0, pass_unmap P f xs all.1)

-- what holds of values of pairs holds of those of their map
module _ {K V : Type 0} (cmp : K → K → Ordering) (P : V → Type 0) where
  put_in : (es : List (K × V)) (k : K) (v : V) → P v → AllPass (λ e. P e.1) es → AllPass (λ e. P e.1) (insert_entry cmp es k v)
  put_in [] k v p all = (p, tt)
  put_in (e ∷ es) k v p all = by (cmp k e.0) (put_in es k v p all.1)
    where
      by : (o : Ordering) → AllPass (λ e. P e.1) (insert_entry cmp es k v) → AllPass (λ e. P e.1) (match_ordering o ((k, v) ∷ e ∷ es) ((e.0, v) ∷ es) (e ∷ insert_entry cmp es k v))
      by Less rest = (p, all)
      by Equal rest = (p, all.1)
      by Greater rest = (all.0, rest)

  put_all : (es pairs : List (K × V)) → AllPass (λ e. P e.1) es → AllPass (λ e. P e.1) pairs → AllPass (λ e. P e.1) (fold (λ es pair. insert_entry cmp es pair.0 pair.1) es pairs)
  put_all es [] all each = all
  put_all es (pair ∷ pairs) all each = put_all (insert_entry cmp es pair.0 pair.1) pairs (put_in es pair.0 pair.1 each.0 all) each.1

  pub pass_map_of : (pairs : List (K × V)) → AllPass (λ e. P e.1) pairs → AllPass (λ e. P e.1) (map_of cmp pairs)
  pass_map_of pairs each = put_all [] pairs tt each

-- nothing is left of two lists, one in place of the other
none_of_both : {A : Type 0} (xs ys : List A) → or_else xs ys ≡ [] → (xs ≡ []) × (ys ≡ [])
none_of_both [] ys e = (refl, e)
none_of_both (x ∷ xs) ys e = absurd (cc)

module _ (names : Names) where
  -- a type misses nothing
  abbrev pub IsWhole : Written NameReference → Type 0
  IsWhole t = missing_in names t ≡ []

  abbrev Types : Type 0
  Types = List (FullName × EntityDefinition NameReference)

  abbrev Actions : Type 0
  Actions = List (Uid × ActionDefinition NameReference ActionReference)

  -- the types of an entity type, each of which misses nothing
  abbrev pub AreWhole : EntityDefinition NameReference → Type 0
  AreWhole e = AllPass IsWhole (shape_of e) × AllPass IsWhole (tags_of e)

  entity_whole : (e : EntityDefinition NameReference) → missing_in_entity names e ≡ [] → AreWhole e
  entity_whole e none =
      let parts = (none_of_both (undefined names (parents_of e)) (flat_map (missing_in names) (shape_of e) ++ flat_map (missing_in names) (tags_of e)) none).1 in (
        none_of_each (missing_in names) (shape_of e) (empty_left (flat_map (missing_in names) (shape_of e)) (flat_map (missing_in names) (tags_of e)) parts),
        none_of_each (missing_in names) (tags_of e) (empty_right (flat_map (missing_in names) (shape_of e)) (flat_map (missing_in names) (tags_of e)) parts),
      )

  context_whole : (a : ActionDefinition NameReference ActionReference) → missing_in_action names a ≡ [] → IsWhole a.context
  context_whole a none = (none_of_both (missing_in names a.context) (undefined names a.principals ++ undefined names a.resources) none).0

  module _ (all : List Namespace) (none : missing_types names all ≡ []) where
    abbrev pub commons_of : Namespace → List NameReference
    commons_of ns = flat_map (λ c. missing_in names c.1) ns.common_types

    abbrev pub entities_of : Namespace → List NameReference
    entities_of ns = flat_map (λ e. missing_in_entity names e.1) ns.entity_types

    abbrev pub actions_of : Namespace → List NameReference
    actions_of ns = flat_map (λ a. missing_in_action names a.1) ns.actions

    each : AllPass (λ ns. missing_in_namespace names ns ≡ []) all
    each = none_of_each (missing_in_namespace names) all none

    -- no common type misses anything
    pub commons_whole : AllPass (λ c. IsWhole c.1) (common_types_in all)
    commons_whole = pass_map_of _ IsWhole (flat_map (λ ns. ns.common_types) all) (pass_flat (λ c. IsWhole c.1) (λ ns. ns.common_types) all
        (pass_weaker (λ ns. missing_in_namespace names ns ≡ []) (λ ns. AllPass (λ c. IsWhole c.1) ns.common_types)
        (λ ns e. none_of_each (λ c. missing_in names c.1) ns.common_types (empty_left (commons_of ns) (entities_of ns) (empty_left (commons_of ns ++ entities_of ns) (actions_of ns) e))) all each))

    entities_whole : AllPass (λ e. AreWhole e.1) (entity_types_in all)
    entities_whole = pass_map_of _ AreWhole (flat_map (λ ns. ns.entity_types) all) (pass_flat (λ e. AreWhole e.1) (λ ns. ns.entity_types) all
        (pass_weaker (λ ns. missing_in_namespace names ns ≡ []) (λ ns. AllPass (λ e. AreWhole e.1) ns.entity_types)
        (λ ns e. pass_weaker (λ x. missing_in_entity names x.1 ≡ []) (λ x. AreWhole x.1) (λ x. entity_whole x.1) ns.entity_types
        (none_of_each (λ x. missing_in_entity names x.1) ns.entity_types (empty_right (commons_of ns) (entities_of ns) (empty_left (commons_of ns ++ entities_of ns) (actions_of ns) e)))) all each))

    contexts_whole : AllPass (λ a. IsWhole a.1.context) (actions_in all)
    contexts_whole = pass_map_of _ (λ (a : ActionDefinition NameReference ActionReference). IsWhole a.context) (flat_map (λ ns. ns.actions) all) (pass_flat (λ a. IsWhole a.1.context) (λ ns. ns.actions) all
        (pass_weaker (λ ns. missing_in_namespace names ns ≡ []) (λ ns. AllPass (λ a. IsWhole a.1.context) ns.actions)
        (λ ns e. pass_weaker (λ x. missing_in_action names x.1 ≡ []) (λ x. IsWhole x.1.context) (λ x. context_whole x.1) ns.actions
        (none_of_each (λ x. missing_in_action names x.1) ns.actions (empty_right (commons_of ns ++ entities_of ns) (actions_of ns) e))) all each))

    -- no use of a type does
    pub uses_whole : AllPass (λ u. IsWhole u.1) (uses_in all)
    uses_whole = pass_append (λ u. IsWhole u.1) (shapes ++ tags) contexts
        (pass_append (λ u. IsWhole u.1) shapes tags
        (pass_flat (λ u. IsWhole u.1) (λ e. map (λ t. (Shape e.0, t)) (shape_of e.1)) types
        (pass_weaker (λ e. AreWhole e.1) (λ e. AllPass (λ u. IsWhole u.1) (map (λ t. (Shape e.0, t)) (shape_of e.1))) (λ e w. pass_map (λ u. IsWhole u.1) (λ t. (Shape e.0, t)) (shape_of e.1) w.0) types entities_whole))
        (pass_flat (λ u. IsWhole u.1) (λ e. map (λ t. (Tags e.0, t)) (tags_of e.1)) types
        (pass_weaker (λ e. AreWhole e.1) (λ e. AllPass (λ u. IsWhole u.1) (map (λ t. (Tags e.0, t)) (tags_of e.1))) (λ e w. pass_map (λ u. IsWhole u.1) (λ t. (Tags e.0, t)) (tags_of e.1) w.1) types entities_whole)))
        (pass_map (λ u. IsWhole u.1) (λ a. (Context a.0, a.1.context)) (actions_in all) contexts_whole)
      where
        types : Types
        types = entity_types_in all

        shapes : List (UsePlace × Written NameReference)
        shapes = flat_map (λ e. map (λ t. (Shape e.0, t)) (shape_of e.1)) types

        tags : List (UsePlace × Written NameReference)
        tags = flat_map (λ e. map (λ t. (Tags e.0, t)) (tags_of e.1)) types

        contexts : List (UsePlace × Written NameReference)
        contexts = map (λ a. (Context a.0, a.1.context)) (actions_in all)

  -- names without `__cedar`
  abbrev pub AreFree : List FullName → Type 0
  AreFree ns = AllPass (λ n. has_cedar n ≡ false) ns

  none_kept : (p : FullName → Bool) (ns : List FullName) → filter p ns ≡ [] → AllPass (λ n. p n ≡ false) ns
  none_kept p [] e = tt
  none_kept p (n ∷ ns) e = by (p n) refl e (none_kept p ns)
    where
      by : (b : Bool) → p n ≡ b → cond b (n ∷ filter p ns) (filter p ns) ≡ [] → (filter p ns ≡ [] → AllPass (λ n. p n ≡ false) ns) → (p n ≡ false) × AllPass (λ n. p n ≡ false) ns
      by true is e rest = absurd (cc)
      by false is e rest = (is, rest e)

  -- what an action applies to has no `__cedar`
  pub applications_free : (all : List Namespace) → reserved_targets names all ≡ [] → AllPass (λ a. AreFree (targets names a.1.principals) × AreFree (targets names a.1.resources)) (actions_in all)
  applications_free all none = pass_map_of _ Free (flat_map (λ ns. ns.actions) all) (pass_flat (λ a. Free a.1) (λ ns. ns.actions) all
      (pass_weaker (λ ns. AreFree (memberships names ns)) (λ ns. AllPass (λ a. Free a.1) ns.actions)
      (λ ns free. pass_weaker (λ a. AreFree (action_memberships names a.1)) (λ a. Free a.1)
      (λ a f. let both = pass_left (λ n. has_cedar n ≡ false) (targets names a.1.principals ++ targets names a.1.resources) (parent_types names a.1.parents) f in
      (pass_left (λ n. has_cedar n ≡ false) (targets names a.1.principals) (targets names a.1.resources) both, pass_right (λ n. has_cedar n ≡ false) (targets names a.1.principals) (targets names a.1.resources) both)) ns.actions
      (pass_each (λ n. has_cedar n ≡ false) (λ a. action_memberships names a.1) ns.actions
      (pass_right (λ n. has_cedar n ≡ false) (flat_map (λ e. entity_memberships names e.1) ns.entity_types) (flat_map (λ a. action_memberships names a.1) ns.actions) free))) all
      (pass_each (λ n. has_cedar n ≡ false) (memberships names) all (none_kept has_cedar (flat_map (memberships names) all) none))))
    where
      Free : ActionDefinition NameReference ActionReference → Type 0
      Free a = AreFree (targets names a.principals) × AreFree (targets names a.resources)

  -- what the parents of an entity type mean has none
  pub parents_free : (all : List Namespace) → reserved_targets names all ≡ [] → AllPass (λ e. AreFree (entity_memberships names e.1)) (entity_types_in all)
  parents_free all none = pass_map_of _ (λ (e : EntityDefinition NameReference). AreFree (entity_memberships names e)) (flat_map (λ ns. ns.entity_types) all) (pass_flat (λ e. AreFree (entity_memberships names e.1)) (λ ns. ns.entity_types) all
      (pass_weaker (λ ns. AreFree (memberships names ns)) (λ ns. AllPass (λ e. AreFree (entity_memberships names e.1)) ns.entity_types)
      (λ ns free. pass_each (λ n. has_cedar n ≡ false) (λ e. entity_memberships names e.1) ns.entity_types
      (pass_left (λ n. has_cedar n ≡ false) (flat_map (λ e. entity_memberships names e.1) ns.entity_types) (flat_map (λ a. action_memberships names a.1) ns.actions) free)) all
      (pass_each (λ n. has_cedar n ≡ false) (memberships names) all (none_kept has_cedar (flat_map (memberships names) all) none))))
