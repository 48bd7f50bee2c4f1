-- SPDX-License-Identifier: Apache-2.0
-- Declared names that shadow others.
use Rattle.std.specs.Prelude.{◌≡◌, ◌&&◌, true, false, IsTrue, List, [], ◌∷◌}
use Rattle.std.specs.declared.cmp.Ordering.{Ordering}
use Rattle.cedar_data.specs.Firsts.{IsLeast}
use Rattle.cedar_names.specs.Components.{has_cedar}
use Rattle.cedar_names.specs.Order.{words_cmp}
use Rattle.cedar_written.specs.declared.reference_type.ReferenceType.TheVariants.{CommonOrEntity}
use Rattle.cedar_schema_error.specs.FullNames.{FullName, Uid, basename, is_qualified, uid_cmp}
use Rattle.cedar_schema_error.specs.Refusals.{Refusal, ActionShadowing, TypeShadowing}
use Rattle.cedar_declared.specs.Names.{Names, is_action, is_declared}

-- a declared type with a namespace and without `__cedar`, and the declared type that is its basename alone
pub record ShadowsType (declared : Names) (shadowed shadowing : FullName) : Type 0 where
  pub both : IsTrue (is_declared declared CommonOrEntity shadowed && is_declared declared CommonOrEntity shadowing)
  pub qualified : is_qualified shadowing ≡ true
  pub unreserved : has_cedar shadowing ≡ false
  pub is_basename : shadowed ≡ basename shadowing ∷ []

-- a declared action whose type has a namespace, and one of the same id whose type has none
pub record ShadowsAction (declared : Names) (shadowed shadowing : Uid) : Type 0 where
  pub both : IsTrue (is_action declared shadowed && is_action declared shadowing)
  pub qualified : is_qualified shadowing.ty ≡ true
  pub unqualified : is_qualified shadowed.ty ≡ false
  pub same_id : shadowed.id ≡ shadowing.id

-- R holds of no two
abbrev pub NoPair : {A : Type 0} → (A → A → Type 0) → Type 0
NoPair {A} R = (a b : A) → R a b → ⊥

-- R holds of the two; the first is the least for which there is a second, and the second is the least for it
pub record IsLeastPair {A : Type 0} (cmp : A → A → Ordering) (R : A → A → Type 0) (a b : A) : Type 0 where
  pub first : IsLeast cmp (λ x. (y : A) × R x y) a
  pub second : IsLeast cmp (R a) b

-- the phases on what shadows what
pub data ShadowPhase : Type 0 where
  TypeShadows : ShadowPhase
  ActionShadows : ShadowPhase

-- their order
abbrev pub shadow_phases : List ShadowPhase
shadow_phases = TypeShadows ∷ ActionShadows ∷ []

module _ (own : Names) where
  -- what such a phase asks: no type shadows another, and no action
  abbrev pub ShadowPasses : ShadowPhase → Type 0
  ShadowPasses TypeShadows = NoPair (ShadowsType own)
  ShadowPasses ActionShadows = NoPair (ShadowsAction own)

  -- how it refuses: with the least pair
  abbrev pub ShadowRefuses : ShadowPhase → Refusal → Type 0
  ShadowRefuses TypeShadows e = (a : FullName) × (b : FullName) × (e ≡ TypeShadowing a b) × IsLeastPair words_cmp (ShadowsType own) a b
  ShadowRefuses ActionShadows e = (a : Uid) × (b : Uid) × (e ≡ ActionShadowing a b) × IsLeastPair uid_cmp (ShadowsAction own) a b
