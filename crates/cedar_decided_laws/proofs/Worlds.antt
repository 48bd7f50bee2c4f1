-- SPDX-License-Identifier: Apache-2.0
-- Each phase passes or refuses a world, so each world is sound or refused.
use Rattle.std.proofs.Common.{◌≡◌, ◌⊎◌, ◌&&◌, inl, inr, Bool, true, false, cond, not, IsTrue, List, [], ◌∷◌, Option, Some, None, refl, ap, ◌∙◌}
use Rattle.std.specs.List.{filter, flat_map}
use Rattle.std.specs.Map.{keys_of}
use Rattle.std.specs.Option.{is_none, is_some}
use Rattle.cedar_closure.specs.Chains.{Reaches, one, more}
use Rattle.cedar_data.proofs.Exact.{IsExact}
use Rattle.cedar_data.specs.Firsts.{AllPass, FirstAgain, IsFirst, IsLeast, NoneAgain, SomePasses}
use Rattle.cedar_data.specs.Maps.{get}
use Rattle.cedar_data.specs.Sets.{IsSetOf, contains, set_of}
use Rattle.cedar_duplicates.specs.Duplicates.{Declared, duplicate, same_declared}
use Rattle.cedar_names.specs.Order.{words_cmp}
use Rattle.cedar_schema_error.specs.FullNames.{FullName, Uid, uid_cmp}
use Rattle.cedar_schema_error.specs.NameReferences.{ActionReference, NameReference}
use Rattle.cedar_schema_error.specs.Refusals.{ActionNotDefined, CycleInActionHierarchy, Refusal, ReservedName, TypeNotDefined, UndeclaredEntityTypes}
use Rattle.cedar_shadowing.specs.of_declared.Names.{action_target, is_entity, target, targets, undefined}
use Rattle.cedar_sound.specs.References.{MissingActions, MissingTypes, ReferencePhase, ReferencesPass, ReferencesRefuse, ReservedTargets}
use Rattle.cedar_sound.specs.Sound.{ActionCycles, Cause, Duplicates, Passes, Phase, References, RefusesAt, Shadowing, Sound, UndeclaredTypes, Unfolding, all_declared}
use Rattle.cedar_sound.proofs.Chains.{Among, among-found, filtered_set}
use Rattle.cedar_sound.proofs.Descendants.{below, below-set, set-has, set-of-those}
use Rattle.cedar_sound.proofs.NameOrders.{names_exact, uids_exact}
use Rattle.cedar_sound.proofs.NothingMissed.{IsWhole, commons_whole, pass_weaker, uses_whole}
use Rattle.cedar_sound.proofs.SortedMaps.{sorted-map_of}
use Rattle.cedar_world.specs.Definitions.{ActionDefinition}
use Rattle.cedar_world.specs.Descents.{ActionDescendsFrom, ActionMember}
use Rattle.cedar_world.specs.Missing.{first_alone, missing_actions, missing_types, reserved_targets}
use Rattle.cedar_world.specs.Undeclared.{IsUndeclared, references_to_entities}
use Rattle.cedar_world.specs.Worlds.{World, actions, all_namespaces, common_types, job, names, own, uses}
use Rattle.cedar_world.specs.of_unfold.Written.{Written, references}
use Rattle.cedar_decided_laws.proofs.Deciding.{Decided, both_true, decided_in}
use Rattle.cedar_decided_laws.proofs.Jobs.{found_key, job_judged}
use Rattle.cedar_decided_laws.proofs.Least.{none_or_least}
use Rattle.cedar_decided_laws.proofs.Lists.{Judged, again_or_none, empty_or_not, first_judged}
use Rattle.cedar_decided_laws.proofs.Shadows.{shadows_judged}

none_alone : {A : Type 0} (xs : List A) → first_alone xs ≡ [] → xs ≡ []
none_alone [] e = refl
none_alone (x ∷ xs) e = absurd (cc)

module _ (names_order : IsExact words_cmp) (uids_order : IsExact uid_cmp) (W : World) where
  -- a phase passes or refuses
  abbrev Decides : Phase → Type 0
  Decides = Judged (Passes W) (RefusesAt W)

  -- ---- references

  abbrev DecidesReferences : ReferencePhase → Type 0
  DecidesReferences = Judged (ReferencesPass (names W) (all_namespaces W)) (ReferencesRefuse (names W) (all_namespaces W))

  types_judged : DecidesReferences MissingTypes
  types_judged = by (empty_or_not (missing_types (names W) (all_namespaces W)))
    where
      by : (missing_types (names W) (all_namespaces W) ≡ []) ⊎ ((r : NameReference) × IsFirst (missing_types (names W) (all_namespaces W)) r) → DecidesReferences MissingTypes
      by (inl none) = inl none
      by (inr some) = inr (TypeNotDefined some.0 some.1.0, (some.0, some.1.0, refl, some.1.1))

  actions_judged : DecidesReferences MissingActions
  actions_judged = by (empty_or_not (missing_actions (names W) (all_namespaces W)))
    where
      by : (missing_actions (names W) (all_namespaces W) ≡ []) ⊎ ((r : ActionReference) × IsFirst (missing_actions (names W) (all_namespaces W)) r) → DecidesReferences MissingActions
      by (inl none) = inl none
      by (inr some) = inr (ActionNotDefined some.0 some.1.0, (some.0, some.1.0, refl, some.1.1))

  reserved_judged : DecidesReferences ReservedTargets
  reserved_judged = by (empty_or_not (reserved_targets (names W) (all_namespaces W)))
    where
      by : (reserved_targets (names W) (all_namespaces W) ≡ []) ⊎ ((name : FullName) × IsFirst (reserved_targets (names W) (all_namespaces W)) name) → DecidesReferences ReservedTargets
      by (inl none) = inl none
      by (inr some) = inr (ReservedName some.0, (some.0, refl, some.1))

  references_judged : Decides References
  references_judged =
      first_judged (ReferencesPass (names W) (all_namespaces W)) (ReferencesRefuse (names W) (all_namespaces W)) MissingTypes (MissingActions ∷ ReservedTargets ∷ []) types_judged
      (λ p. first_judged (ReferencesPass (names W) (all_namespaces W)) (ReferencesRefuse (names W) (all_namespaces W)) MissingActions (ReservedTargets ∷ []) actions_judged
      (λ q. first_judged (ReferencesPass (names W) (all_namespaces W)) (ReferencesRefuse (names W) (all_namespaces W)) ReservedTargets [] reserved_judged (λ r. inl tt)))

  -- ---- what stands twice

  duplicates_judged : Decides Duplicates
  duplicates_judged = by (again_or_none same_declared [] (all_declared (all_namespaces W)))
    where
      by : NoneAgain same_declared [] (all_declared (all_namespaces W)) ⊎ ((d : Declared) × FirstAgain same_declared [] (all_declared (all_namespaces W)) d) → Decides Duplicates
      by (inl none) = inl none
      by (inr again) = inr (duplicate again.0, (again.0, refl, again.1))

  -- ---- unfolding

  none_undefined : (rs : List NameReference) → undefined (names W) rs ≡ [] → AllPass (λ r. IsTrue (is_some (target (names W) r))) rs
  none_undefined [] e = tt
  none_undefined (r ∷ rs) e = by (target (names W) r) refl e (none_undefined rs)
    where
      by : (o : Option FullName) → target (names W) r ≡ o → cond (is_none o) (r ∷ undefined (names W) rs) (undefined (names W) rs) ≡ []
          → (undefined (names W) rs ≡ [] → AllPass (λ r. IsTrue (is_some (target (names W) r))) rs) → IsTrue (is_some (target (names W) r)) × AllPass (λ r. IsTrue (is_some (target (names W) r))) rs
      by None is e rest = absurd (cc)
      by (Some name) is e rest = (ap is_some is, rest e)

  targeted : (t : Written NameReference) → IsWhole (names W) t → AllPass (λ r. IsTrue (is_some (target (names W) r))) (references t)
  targeted t whole = none_undefined (references t) (none_alone (undefined (names W) (references t)) whole)

  unfolding_judged : missing_types (names W) (all_namespaces W) ≡ [] → Decides Unfolding
  unfolding_judged none = job_judged names_order (job W) (sorted-map_of names_order.total (flat_map (λ ns. ns.common_types) (all_namespaces W)))
      (pass_weaker (λ c. IsWhole (names W) c.1) (λ c. AllPass (λ r. IsTrue (is_some (target (names W) r))) (references c.1)) (λ c. targeted c.1) (common_types W) (commons_whole (names W) (all_namespaces W) none))
      (pass_weaker (λ u. IsWhole (names W) u.1) (λ u. AllPass (λ r. IsTrue (is_some (target (names W) r))) (references u.1)) (λ u. targeted u.1) (uses W) (uses_whole (names W) (all_namespaces W) none))

  -- ---- actions that descend from themselves

  parts : (a b : Uid) → ActionMember W a b → (d : ActionDefinition NameReference ActionReference) × (get uid_cmp (actions W) a ≡ Some d) × SomePasses (λ r. action_target (names W) r ≡ Some b) d.parents
  parts a b m = (m.definition, m.declared, m.targeted)

  made : (a b : Uid) (d : ActionDefinition NameReference ActionReference) → get uid_cmp (actions W) a ≡ Some d → SomePasses (λ r. action_target (names W) r ≡ Some b) d.parents → ActionMember W a b
  made a b d declared targeted = record { definition = d; declared = declared; targeted = targeted }

  descent_decided : (uid : Uid) → Decided (ActionDescendsFrom W uid uid)
  descent_decided uid = decided_in {cmp = uid_cmp} (ActionDescendsFrom W uid) (below uids_order (actions W) (λ d. d.parents) (action_target (names W)) (ActionMember W) parts made uid)
      (below-set uids_order (actions W) (λ d. d.parents) (action_target (names W)) (ActionMember W) parts made
      (sorted-map_of uids_order.total (flat_map (λ ns. ns.actions) (all_namespaces W))) uid) uid

  source : {a b : Uid} → Reaches (ActionMember W) a b → Among (keys_of (actions W)) a
  source {a} (one s) = found_key uids_order a s.definition (actions W) s.declared
  source {a} (more s r) = found_key uids_order a s.definition (actions W) s.declared

  cycles_judged : Decides ActionCycles
  cycles_judged = by (none_or_least uids_order (λ u. ActionDescendsFrom W u u) descent_decided (keys_of (actions W)) (λ u r. source r))
    where
      by : ((u : Uid) → ActionDescendsFrom W u u → ⊥) ⊎ ((u : Uid) × IsLeast uid_cmp (λ u. ActionDescendsFrom W u u) u) → Decides ActionCycles
      by (inl none) = inl none
      by (inr least) = inr (CycleInActionHierarchy least.0, (least.0, refl, least.1))

  -- ---- what must be an entity type

  abbrev wanted : List FullName
  wanted = targets (names W) (references_to_entities W)

  abbrev is_undeclared : FullName → Bool
  is_undeclared name = contains words_cmp wanted name && not (is_entity (names W) name)

  undeclared_among : (name : FullName) → IsUndeclared W name → Among (set_of words_cmp wanted) name
  undeclared_among name is = among-found names_order name (set_of words_cmp wanted)
      (set-has names_order wanted name ∙ (both_true (contains words_cmp wanted name) (not (is_entity (names W) name)) is).0)

  undeclared_set : IsSetOf words_cmp (IsUndeclared W) (filter is_undeclared (set_of words_cmp wanted))
  undeclared_set = filtered_set names_order is_undeclared (IsUndeclared W) (λ name. (λ is. is, λ is. is)) (set_of words_cmp wanted) (set-of-those names_order wanted).ascends undeclared_among

  undeclared_judged : Decides UndeclaredTypes
  undeclared_judged = by (filter is_undeclared (set_of words_cmp wanted)) undeclared_set
    where
      none : false ≡ true → ⊥
      none is = cc

      by : (ns : List FullName) → IsSetOf words_cmp (IsUndeclared W) ns → Decides UndeclaredTypes
      by [] is = inl (λ name holds. none ((is.members name).1 holds))
      by (n ∷ ns) is = inr (UndeclaredEntityTypes n ns, (n, ns, refl, is))

  -- ---- all phases

  pub world_judged : Sound W ⊎ ((e : Refusal) × Cause W e)
  unfolding Sound Cause
  world_judged =
      first_judged (Passes W) (RefusesAt W) Shadowing (References ∷ Duplicates ∷ Unfolding ∷ ActionCycles ∷ UndeclaredTypes ∷ []) (shadows_judged names_order uids_order (own W))
      (λ shadowing. first_judged (Passes W) (RefusesAt W) References (Duplicates ∷ Unfolding ∷ ActionCycles ∷ UndeclaredTypes ∷ []) references_judged
      (λ refer. first_judged (Passes W) (RefusesAt W) Duplicates (Unfolding ∷ ActionCycles ∷ UndeclaredTypes ∷ []) duplicates_judged
      (λ once. first_judged (Passes W) (RefusesAt W) Unfolding (ActionCycles ∷ UndeclaredTypes ∷ []) (unfolding_judged refer.0)
      (λ unfolds. first_judged (Passes W) (RefusesAt W) ActionCycles (UndeclaredTypes ∷ []) cycles_judged
      (λ acyclic. first_judged (Passes W) (RefusesAt W) UndeclaredTypes [] undeclared_judged (λ declared. inl tt))))))

-- each world is sound, or there is a cause why it isn't
pub sound_or_caused : (W : World) → Sound W ⊎ ((e : Refusal) × Cause W e)
sound_or_caused W = world_judged names_exact uids_exact W
