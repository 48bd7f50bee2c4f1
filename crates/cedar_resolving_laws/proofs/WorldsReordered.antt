-- SPDX-License-Identifier: Apache-2.0
-- A world whose namespaces declare what those of another do is sound where that is, and denotes the same schema.
use Rattle.std.proofs.Common.{◌≡◌, ◌++◌, ◌&&◌, Bool, true, false, cond, not, IsTrue, List, [], ◌∷◌, map, Option, Some, None, refl, sym, ap, ◌∙◌, subst}
use Rattle.std.specs.BTreeMap.{is_at}
use Rattle.std.specs.List.{AllZip, filter, filter_map, flat_map}
use Rattle.std.specs.Map.{keys_of}
use Rattle.std.specs.Option.{is_none}
use Rattle.cedar_data.specs.Firsts.{AllPass, SomePasses}
use Rattle.cedar_data.specs.Maps.{get}
use Rattle.cedar_data.specs.Sets.{IsSetOf, contains}
use Rattle.cedar_declared.specs.Names.{action_target, target}
use Rattle.cedar_duplicates.specs.Duplicates.{Action, CommonType, EntityType, same_declared}
use Rattle.cedar_names.specs.Components.{has_cedar}
use Rattle.cedar_names.specs.Order.{words_cmp}
use Rattle.cedar_phases.proofs.Agreeing.{same_action_target, same_builtins, same_entity, same_target, shadows_pass}
use Rattle.cedar_phases.proofs.Chained.{chain_there, set_there}
use Rattle.cedar_phases.specs.of_qualified.Agreeing.{AgreeingNames}
use Rattle.cedar_resolving_laws.specs.Reordered.{DeclareAlike, Reordered, with_namespaces}
use Rattle.cedar_resolving_laws.proofs.MapsReordered.{map_of_reordered}
use Rattle.cedar_resolving_laws.proofs.OnceEach.{Apart, actions_each, apart_each, apart_turned, commons_each, entities_each, once_of_apart}
use Rattle.cedar_resolving_laws.proofs.Reordering.{Each2, any_reordered, each2_reordered, pass_reordered}
use Rattle.cedar_resolving_laws.proofs.Spread.{none_there, told, told_both, told_keys, told_map, with_more}
use Rattle.cedar_schema_error.specs.FullNames.{FullName, Uid, uid_cmp}
use Rattle.cedar_schema_error.specs.NameReferences.{ActionReference, NameReference}
use Rattle.cedar_phases.specs.of_sound.Sound.{ActionCycles, Duplicates, Passes, References, Sound, UndeclaredTypes, all_declared}
use Rattle.cedar_phases.proofs.of_sound.NameOrders.{names_exact, uids_exact}
use Rattle.cedar_text.specs.Words.{has_word}
use Rattle.cedar_unfold.specs.Resolved.{Resolved}
use Rattle.cedar_unfold.specs.Resolved as resolved
use Rattle.cedar_unfold.specs.UnfoldPhases.{Unfoldable}
use Rattle.cedar_unfold.specs.Unfolds.{Unfolds}
use Rattle.cedar_unfold.specs.Written.{Written, references}
use Rattle.cedar_world.specs.Definitions.{ActionDefinition, EntityDefinition, Enumerated, Namespace, Standard, parents_of, shape_of, tags_of}
use Rattle.cedar_world.specs.Denotes.{AreTargets, Denotes, DenotesAction, DenotesEntity, DenotesKind, DenotesTags}
use Rattle.cedar_world.specs.Descents.{ActionDescendsFrom, ActionMember, DescendsFrom, Member}
use Rattle.cedar_world.specs.Missing.{first_alone, memberships, or_else}
use Rattle.cedar_world.specs.Schemas.{EntityKind, EnumeratedKind, Schema, SchemaAction, SchemaEntity, StandardKind}
use Rattle.cedar_world.specs.Undeclared.{IsUndeclared, all_entity_references, applications, entity_parents}
use Rattle.cedar_world.specs.Worlds.{World, actions, all_namespaces, builtin_namespaces, common_types, entity_types, job, meanings, names, names_in, own, uses, uses_by}

none_kept : (p : FullName → Bool) (ns : List FullName) → filter p ns ≡ [] → AllPass (λ n. p n ≡ false) ns
none_kept p [] e = tt
none_kept p (n ∷ ns) e = by (p n) refl e (none_kept p ns)
  where
    by : (b : Bool) → p n ≡ b → cond b (n ∷ filter p ns) (filter p ns) ≡ [] → (filter p ns ≡ [] → AllPass (λ n. p n ≡ false) ns) → (p n ≡ false) × AllPass (λ n. p n ≡ false) ns
    by true is e rest = absurd (cc)
    by false is e rest = (is, rest e)

keeps_none : (p : FullName → Bool) (ns : List FullName) → AllPass (λ n. p n ≡ false) ns → filter p ns ≡ []
keeps_none p [] h = refl
keeps_none p (n ∷ ns) h = ap (λ b. cond b (n ∷ filter p ns) (filter p ns)) h.0 ∙ keeps_none p ns h.1

-- names of such namespaces
agree_alike : (xs ys : List Namespace) → DeclareAlike xs ys → AgreeingNames (names_in xs) (names_in ys)
agree_alike xs ys r = record {
  entity = λ n. any_reordered (is_at (words_cmp n)) (told_keys (λ ns. ns.entity_types) xs ys r.entity_types);
  common = λ n. any_reordered (is_at (words_cmp n)) (told_keys (λ ns. ns.common_types) xs ys r.common_types);
  action = λ u. any_reordered (is_at (uid_cmp u)) (told_keys (λ ns. ns.actions) xs ys r.actions);
}

-- what they declare
declared_alike : (xs ys : List Namespace) → DeclareAlike xs ys → Reordered (all_declared xs) (all_declared ys)
declared_alike xs ys r =
    told_both (λ ns. map CommonType (keys_of ns.common_types)) (λ ns. map EntityType (keys_of ns.entity_types) ++ map Action (keys_of ns.actions)) xs ys
    (told_map (λ ns. keys_of ns.common_types) xs ys (told_keys (λ ns. ns.common_types) xs ys r.common_types) CommonType)
    (told_both (λ ns. map EntityType (keys_of ns.entity_types)) (λ ns. map Action (keys_of ns.actions)) xs ys
    (told_map (λ ns. keys_of ns.entity_types) xs ys (told_keys (λ ns. ns.entity_types) xs ys r.entity_types) EntityType)
    (told_map (λ ns. keys_of ns.actions) xs ys (told_keys (λ ns. ns.actions) xs ys r.actions) Action))

module _ (t : NameReference → Option FullName) (u : ActionReference → Option Uid) where
  abbrev undefined_by : List NameReference → List NameReference
  undefined_by rs = filter (λ r. is_none (t r)) rs

  abbrev missing_by : Written NameReference → List NameReference
  missing_by ty = first_alone (undefined_by (references ty))

  abbrev entity_by : EntityDefinition NameReference → List NameReference
  entity_by e = or_else (undefined_by (parents_of e)) (flat_map missing_by (shape_of e) ++ flat_map missing_by (tags_of e))

  abbrev action_by : ActionDefinition NameReference ActionReference → List NameReference
  action_by a = or_else (missing_by a.context) (undefined_by a.principals ++ undefined_by a.resources)

  -- what a namespace misses, by the targets
  abbrev namespace_by : Namespace → List NameReference
  namespace_by ns = flat_map (λ c. missing_by c.1) ns.common_types ++ flat_map (λ e. entity_by e.1) ns.entity_types ++ flat_map (λ a. action_by a.1) ns.actions

  abbrev actions_by : Namespace → List ActionReference
  actions_by ns = flat_map (λ a. filter (λ r. is_none (u r)) a.1.parents) ns.actions

  abbrev member_types : FullName × EntityDefinition NameReference → List FullName
  member_types e = filter_map t (parents_of e.1)

  abbrev applied_types : Uid × ActionDefinition NameReference ActionReference → List FullName
  applied_types a = filter_map t a.1.principals ++ filter_map t a.1.resources ++ map (λ (uid : Uid). uid.ty) (filter_map u a.1.parents)

  abbrev memberships_by : Namespace → List FullName
  memberships_by ns = flat_map member_types ns.entity_types ++ flat_map applied_types ns.actions

-- what they miss, by the targets
module _ (t : NameReference → Option FullName) (u : ActionReference → Option Uid) (xs ys : List Namespace) (r : DeclareAlike xs ys) where
  misses_alike : Reordered (flat_map (namespace_by t u) xs) (flat_map (namespace_by t u) ys)
  misses_alike =
      told_both (λ ns. flat_map (λ c. missing_by t u c.1) ns.common_types ++ flat_map (λ e. entity_by t u e.1) ns.entity_types) (λ ns. flat_map (λ a. action_by t u a.1) ns.actions) xs ys
      (told_both (λ ns. flat_map (λ c. missing_by t u c.1) ns.common_types) (λ ns. flat_map (λ e. entity_by t u e.1) ns.entity_types) xs ys
      (told (λ ns. ns.common_types) xs ys r.common_types (λ c. missing_by t u c.1))
      (told (λ ns. ns.entity_types) xs ys r.entity_types (λ e. entity_by t u e.1)))
      (told (λ ns. ns.actions) xs ys r.actions (λ a. action_by t u a.1))

  -- the actions that they miss
  actions_alike : Reordered (flat_map (actions_by t u) xs) (flat_map (actions_by t u) ys)
  actions_alike = told (λ ns. ns.actions) xs ys r.actions (λ a. filter (λ r. is_none (u r)) a.1.parents)

  -- the types of which something is a member
  memberships_alike : Reordered (flat_map (memberships_by t u) xs) (flat_map (memberships_by t u) ys)
  memberships_alike =
      told_both (λ ns. flat_map (member_types t u) ns.entity_types) (λ ns. flat_map (applied_types t u) ns.actions) xs ys
      (told (λ ns. ns.entity_types) xs ys r.entity_types (member_types t u))
      (told (λ ns. ns.actions) xs ys r.actions (applied_types t u))

module _ (W : World) (ys : List Namespace) (r : DeclareAlike W.namespaces ys) where
  abbrev V : World
  V = with_namespaces W ys

  own_agree : AgreeingNames (own W) (own V)
  own_agree = agree_alike W.namespaces ys r

  all_alike : DeclareAlike (all_namespaces W) (all_namespaces V)
  all_alike = subst (λ (b : List Namespace). DeclareAlike (all_namespaces W) (ys ++ b)) (same_builtins (own W) (own V) own_agree W.extensions) (with_more (builtin_namespaces (own W) W.extensions) r)

  all_agree : AgreeingNames (names W) (names V)
  all_agree = agree_alike (all_namespaces W) (all_namespaces V) all_alike

  targets_same : target (names W) ≡ target (names V)
  targets_same = same_target (names W) (names V) all_agree

  action_targets_same : action_target (names W) ≡ action_target (names V)
  action_targets_same = same_action_target (names W) (names V) all_agree

  references_there : Passes W References → Passes V References
  references_there h = (
    ap (λ (t : NameReference → Option FullName). flat_map (namespace_by t (action_target (names V))) (all_namespaces V)) (sym targets_same)
        ∙ none_there (misses_alike (target (names W)) (action_target (names V)) (all_namespaces W) (all_namespaces V) all_alike) h.0,
    (
      ap (λ (u : ActionReference → Option Uid). flat_map (actions_by (target (names V)) u) (all_namespaces V)) (sym action_targets_same)
          ∙ none_there (actions_alike (target (names V)) (action_target (names W)) (all_namespaces W) (all_namespaces V) all_alike) h.1.0,
      (
        ap (λ (ns : List FullName). filter has_cedar ns) (λ i. flat_map (memberships_by (sym targets_same i) (sym action_targets_same i)) (all_namespaces V))
            ∙ keeps_none has_cedar (flat_map (memberships (names W)) (all_namespaces V))
            (pass_reordered (λ n. has_cedar n ≡ false) (memberships_alike (target (names W)) (action_target (names W)) (all_namespaces W) (all_namespaces V) all_alike) (none_kept has_cedar (flat_map (memberships (names W)) (all_namespaces W)) h.1.1.0)),
        tt,
      ),
    ),
  )

  module _ (once : Passes W Duplicates) where
    apart : Each2 (Apart same_declared) (all_declared (all_namespaces W))
    apart = apart_each same_declared [] (all_declared (all_namespaces W)) once

    duplicates_there : Passes V Duplicates
    duplicates_there = once_of_apart same_declared (all_declared (all_namespaces V)) (each2_reordered (Apart same_declared) apart_turned (declared_alike (all_namespaces W) (all_namespaces V) all_alike) apart)

    commons_same : common_types W ≡ common_types V
    commons_same = map_of_reordered names_exact.total all_alike.common_types (commons_each (all_namespaces W) apart)

    types_same : entity_types W ≡ entity_types V
    types_same = map_of_reordered names_exact.total all_alike.entity_types (entities_each (all_namespaces W) apart)

    actions_same : actions W ≡ actions V
    actions_same = map_of_reordered uids_exact.total all_alike.actions (actions_each (all_namespaces W) apart)

    uses_same : uses W ≡ uses V
    uses_same = λ i. uses_by (types_same i) (actions_same i)

    meanings_same : meanings W ≡ meanings V
    meanings_same = λ i. record { target = targets_same i; common_types = commons_same i; is_extension = has_word W.extensions }

    job_same : job W ≡ job V
    job_same = λ i. record { meanings = meanings_same i; uses = uses_same i }

    member_back : (x y : FullName) → Member V x y → Member W x y
    member_back x y m = record {
      definition = m.definition;
      declared = ap (λ es. get words_cmp es x) types_same ∙ m.declared;
      targeted = subst (λ (t : NameReference → Option FullName). SomePasses (λ r. t r ≡ Some y) (parents_of m.definition)) (sym targets_same) m.targeted;
    }

    member_there : (x y : FullName) → Member W x y → Member V x y
    member_there x y m = record {
      definition = m.definition;
      declared = sym (ap (λ es. get words_cmp es x) types_same) ∙ m.declared;
      targeted = subst (λ (t : NameReference → Option FullName). SomePasses (λ r. t r ≡ Some y) (parents_of m.definition)) targets_same m.targeted;
    }

    action_back : (x y : Uid) → ActionMember V x y → ActionMember W x y
    action_back x y m = record {
      definition = m.definition;
      declared = ap (λ es. get uid_cmp es x) actions_same ∙ m.declared;
      targeted = subst (λ (t : ActionReference → Option Uid). SomePasses (λ r. t r ≡ Some y) m.definition.parents) (sym action_targets_same) m.targeted;
    }

    action_there : (x y : Uid) → ActionMember W x y → ActionMember V x y
    action_there x y m = record {
      definition = m.definition;
      declared = sym (ap (λ es. get uid_cmp es x) actions_same) ∙ m.declared;
      targeted = subst (λ (t : ActionReference → Option Uid). SomePasses (λ r. t r ≡ Some y) m.definition.parents) action_targets_same m.targeted;
    }

    cycles_there : Passes W ActionCycles → Passes V ActionCycles
    cycles_there h = λ u chain. h u (chain_there action_back u u chain)

    undeclared_same : IsUndeclared V ≡ IsUndeclared W
    undeclared_same = λ i n. IsTrue (
        contains words_cmp (filter_map (sym targets_same i) (all_entity_references (sym commons_same i) ++ (all_entity_references (sym uses_same i) ++ (entity_parents (sym types_same i) ++ applications (sym actions_same i))))) n
        && not (sym (same_entity (names W) (names V) all_agree) i n))

    undeclared_there : Passes W UndeclaredTypes → Passes V UndeclaredTypes
    undeclared_there h = λ n undeclared. h n (subst (λ (P : FullName → Type 0). P n) undeclared_same undeclared)

    -- ---- what is denoted

    tags_there : (t : Option (Written NameReference)) (T : Option Resolved) → DenotesTags W t T → DenotesTags V t T
    tags_there None None h = tt
    tags_there None (Some T) h = absurd h
    tags_there (Some t) None h = absurd h
    tags_there (Some t) (Some T) h = subst (λ m. Unfolds m t T) meanings_same h

    kind_there : (d : EntityDefinition NameReference) (k : EntityKind) → DenotesKind W d k → DenotesKind V d k
    kind_there (Standard parents shape tags) (StandardKind parts o T) h = (subst (λ m. Unfolds m shape (resolved.Record parts o)) meanings_same h.0, tags_there tags T h.1)
    kind_there (Standard parents shape tags) (EnumeratedKind ids) h = absurd h
    kind_there (Enumerated ids) (StandardKind parts o T) h = absurd h
    kind_there (Enumerated ids) (EnumeratedKind others) h = h

    entity_there : (d : FullName × EntityDefinition NameReference) (m : FullName × SchemaEntity) → DenotesEntity W d m → DenotesEntity V d m
    entity_there d m h = record {
      named = h.named;
      descendants = set_there words_cmp (DescendsFrom W d.0) (DescendsFrom V d.0) (λ low chain. chain_there member_there low d.0 chain) (λ low chain. chain_there member_back low d.0 chain) m.1.descendants h.descendants;
      kind = kind_there d.1 m.1.kind h.kind;
    }

    targets_there : (rs : List NameReference) (ns : List FullName) → AreTargets W rs ns → AreTargets V rs ns
    targets_there rs ns h = subst (λ (t : NameReference → Option FullName). IsSetOf words_cmp (λ n. IsTrue (contains words_cmp (filter_map t rs) n)) ns) targets_same h

    denoted_there : (d : Uid × ActionDefinition NameReference ActionReference) (m : Uid × SchemaAction) → DenotesAction W d m → DenotesAction V d m
    denoted_there d m h = record {
      named = h.named;
      principals = targets_there d.1.principals m.1.principals h.principals;
      resources = targets_there d.1.resources m.1.resources h.resources;
      context = subst (λ n. Unfolds n d.1.context m.1.context) meanings_same h.context;
      attribute_types = h.attribute_types;
      attributes = h.attributes;
      descendants = set_there uid_cmp (ActionDescendsFrom W d.0) (ActionDescendsFrom V d.0) (λ low chain. chain_there action_there low d.0 chain) (λ low chain. chain_there action_back low d.0 chain) m.1.descendants h.descendants;
    }

    zip_there : {A B : Type 0} (R S : A → B → Type 0) → ((a : A) (b : B) → R a b → S a b) → (as' : List A) (bs : List B) → AllZip R as' bs → AllZip S as' bs
    zip_there R S f [] [] z = tt
    zip_there R S f [] (b ∷ bs) z = absurd z
    zip_there R S f (a ∷ as') [] z = absurd z
    zip_there R S f (a ∷ as') (b ∷ bs) z = (f a b z.0, zip_there R S f as' bs z.1)

    schema_there : (S : Schema) → Denotes W S → Denotes V S
    schema_there S h = record {
      entity_types = subst (λ es. AllZip (DenotesEntity V) es S.entity_types) types_same (zip_there (DenotesEntity W) (DenotesEntity V) entity_there (entity_types W) S.entity_types h.entity_types);
      actions = subst (λ es. AllZip (DenotesAction V) es S.actions) actions_same (zip_there (DenotesAction W) (DenotesAction V) denoted_there (actions W) S.actions h.actions);
    }

  -- it is sound where the first is
  pub sound_alike : Sound W → Sound V
  unfolding Sound
  sound_alike h =
      let once = h.1.1.0 in (
        shadows_pass (own W) (own V) own_agree h.0,
        (
          references_there h.1.0,
          (
            duplicates_there once,
            (
              subst Unfoldable (job_same once) h.1.1.1.0,
              (
                cycles_there once h.1.1.1.1.0,
                (undeclared_there once h.1.1.1.1.1.0, tt),
              ),
            ),
          ),
        ),
      )

  -- and denotes what the first does
  pub denotes_alike : (S : Schema) → Sound W → Denotes W S → Denotes V S
  unfolding Sound
  denotes_alike S h d = schema_there h.1.1.0 S d
