-- SPDX-License-Identifier: Apache-2.0
-- Which worlds are sound, and why another isn't.
use Rattle.std.specs.Prelude.{◌≡◌, ◌++◌, List, [], ◌∷◌, map}
use Rattle.std.specs.List.{flat_map}
use Rattle.std.specs.Map.{keys_of}
use Rattle.cedar_data.specs.Firsts.{AllPass, FirstAgain, FirstRefused, IsLeast, NoneAgain}
use Rattle.cedar_data.specs.Sets.{IsSetOf}
use Rattle.cedar_duplicates.specs.Duplicates.{Action, CommonType, Declared, EntityType, duplicate, same_declared}
use Rattle.cedar_names.specs.Order.{words_cmp}
use Rattle.cedar_duplicates.specs.of_schema_error.FullNames.{FullName, Uid, uid_cmp}
use Rattle.cedar_duplicates.specs.of_schema_error.Refusals.{CycleInActionHierarchy, Refusal, UndeclaredEntityTypes}
use Rattle.cedar_shadowing.specs.Shadowing.{ShadowPasses, ShadowRefuses, shadow_phases}
use Rattle.cedar_sound.specs.References.{ReferencesPass, ReferencesRefuse, reference_phases}
use Rattle.cedar_world.specs.of_unfold.UnfoldPhases.{Unfoldable, WhyNotUnfoldable}
use Rattle.cedar_world.specs.Definitions.{Namespace}
use Rattle.cedar_world.specs.Descents.{ActionDescendsFrom}
use Rattle.cedar_world.specs.Undeclared.{IsUndeclared}
use Rattle.cedar_world.specs.Worlds.{World, all_namespaces, job, names, own}

-- what a namespace declares: common types, entity types, actions, each in order
abbrev pub declared_in : Namespace → List Declared
declared_in ns = map CommonType (keys_of ns.common_types) ++ (map EntityType (keys_of ns.entity_types) ++ map Action (keys_of ns.actions))

-- what namespaces declare, in order
abbrev pub all_declared : List Namespace → List Declared
all_declared all = flat_map declared_in all

-- the phases
pub data Phase : Type 0 where
  Shadowing : Phase
  References : Phase
  Duplicates : Phase
  Unfolding : Phase
  ActionCycles : Phase
  UndeclaredTypes : Phase

-- their order
abbrev pub phases : List Phase
phases = Shadowing ∷ References ∷ Duplicates ∷ Unfolding ∷ ActionCycles ∷ UndeclaredTypes ∷ []

module _ (W : World) where
  -- what a phase asks
  abbrev pub Passes : Phase → Type 0
  -- among the names that the caller declares, none shadows another
  Passes Shadowing = AllPass (ShadowPasses (own W)) shadow_phases
  -- each reference has a target, and none that it may not have
  Passes References = AllPass (ReferencesPass (names W) (all_namespaces W)) reference_phases
  -- no full name is declared twice as the same kind
  Passes Duplicates = NoneAgain same_declared [] (all_declared (all_namespaces W))
  -- common types and uses of types unfold
  Passes Unfolding = Unfoldable (job W)
  -- no action descends from itself
  Passes ActionCycles = (uid : Uid) → ActionDescendsFrom W uid uid → ⊥
  -- what must be an entity type is one
  Passes UndeclaredTypes = (name : FullName) → IsUndeclared W name → ⊥

  -- how a phase refuses
  abbrev pub RefusesAt : Phase → Refusal → Type 0
  RefusesAt Shadowing e = FirstRefused (ShadowPasses (own W)) (ShadowRefuses (own W)) shadow_phases e
  RefusesAt References e = FirstRefused (ReferencesPass (names W) (all_namespaces W)) (ReferencesRefuse (names W) (all_namespaces W)) reference_phases e
  -- with the first that is declared a second time
  RefusesAt Duplicates e = (d : Declared) × (e ≡ duplicate d) × FirstAgain same_declared [] (all_declared (all_namespaces W)) d
  RefusesAt Unfolding e = WhyNotUnfoldable (job W) e
  -- with the least action that does
  RefusesAt ActionCycles e = (uid : Uid) × (e ≡ CycleInActionHierarchy uid) × IsLeast uid_cmp (λ u. ActionDescendsFrom W u u) uid
  -- with all that aren't, in order
  RefusesAt UndeclaredTypes e = (n : FullName) × (ns : List FullName) × (e ≡ UndeclaredEntityTypes n ns) × IsSetOf words_cmp (IsUndeclared W) (n ∷ ns)

  -- the world is sound: each phase passes
  unfoldable pub Sound : Type 0
  Sound = AllPass Passes phases

  -- why it isn't: a phase refuses it, and the earlier ones pass
  unfoldable pub Cause : Refusal → Type 0
  Cause e = FirstRefused Passes RefusesAt phases e
