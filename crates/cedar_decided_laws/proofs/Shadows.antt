-- SPDX-License-Identifier: Apache-2.0
-- Whether declared names shadow others is decided.
use Rattle.std.proofs.Common.{◌≡◌, ◌⊎◌, ◌++◌, ◌&&◌, ◌||◌, inl, inr, IsTrue, List, [], ◌∷◌, refl, ⊎_elim}
use Rattle.cedar_data.proofs.Exact.{IsExact, texts_exact}
use Rattle.cedar_names.specs.Components.{has_cedar}
use Rattle.cedar_names.specs.Order.{words_cmp}
use Rattle.cedar_schema_error.specs.FullNames.{FullName, Uid, basename, is_qualified, uid_cmp}
use Rattle.cedar_schema_error.specs.Refusals.{ActionShadowing, TypeShadowing}
use Rattle.cedar_shadowing.specs.Shadowing.{ActionShadows, NoPair, IsLeastPair, ShadowPasses, ShadowRefuses, ShadowsAction, ShadowsType, TypeShadows, shadow_phases}
use Rattle.cedar_shadowing.specs.of_declared.Names.{Names, is_action, is_common, is_entity}
use Rattle.cedar_sound.proofs.Chains.{Among, among-found, either_true}
use Rattle.cedar_decided_laws.proofs.Deciding.{Decided, both_true, decided_as, decided_both, decided_false, decided_same, decided_true}
use Rattle.cedar_decided_laws.proofs.Least.{none_or_pair}
use Rattle.cedar_decided_laws.proofs.Lists.{AllJudged, Judged, first_judged, some_back, some_front}

module _ (names_order : IsExact words_cmp) (uids_order : IsExact uid_cmp) (own : Names) where
  -- ---- types

  -- whether a name is a declared type
  abbrev is_type : FullName → Type 0
  is_type name = IsTrue (is_common own name || is_entity own name)

  abbrev types : List FullName
  types = own.common_types ++ own.entity_types

  type_among : (name : FullName) → is_type name → Among types name
  type_among name is = ⊎_elim
      (λ common. some_front (λ y. y ≡ name) own.common_types own.entity_types (among-found names_order name own.common_types common))
      (λ entity. some_back (λ y. y ≡ name) own.common_types own.entity_types (among-found names_order name own.entity_types entity))
      (either_true (is_common own name) (is_entity own name) is)

  types_of : (a b : FullName) → ShadowsType own a b → is_type a × is_type b
  types_of a b s = both_true (is_common own a || is_entity own a) (is_common own b || is_entity own b) s.both

  type_decided : (a b : FullName) → Decided (ShadowsType own a b)
  type_decided a b = decided_as
      (λ h. record { both = h.0; qualified = h.1.0; unreserved = h.1.1.0; is_basename = h.1.1.1 })
      (λ s. (s.both, (s.qualified, (s.unreserved, s.is_basename))))
      (decided_both (decided_true ((is_common own a || is_entity own a) && (is_common own b || is_entity own b)))
      (decided_both (decided_true (is_qualified b))
      (decided_both (decided_false (has_cedar b)) (decided_same names_order a (basename b ∷ [])))))

  type_judged : Judged (ShadowPasses own) (ShadowRefuses own) TypeShadows
  type_judged = by (none_or_pair names_order (ShadowsType own) type_decided types (λ a b s. type_among a (types_of a b s).0) (λ a b s. type_among b (types_of a b s).1))
    where
      by : NoPair (ShadowsType own) ⊎ ((a : FullName) × (b : FullName) × IsLeastPair words_cmp (ShadowsType own) a b) → Judged (ShadowPasses own) (ShadowRefuses own) TypeShadows
      by (inl none) = inl none
      by (inr pair) = inr (TypeShadowing pair.0 pair.1, (pair.0, pair.1, refl, pair.2))

  -- ---- actions

  actions_of : (a b : Uid) → ShadowsAction own a b → IsTrue (is_action own a) × IsTrue (is_action own b)
  actions_of a b s = both_true (is_action own a) (is_action own b) s.both

  action_decided : (a b : Uid) → Decided (ShadowsAction own a b)
  action_decided a b = decided_as
      (λ h. record { both = h.0; qualified = h.1.0; unqualified = h.1.1.0; same_id = h.1.1.1 })
      (λ s. (s.both, (s.qualified, (s.unqualified, s.same_id))))
      (decided_both (decided_true (is_action own a && is_action own b))
      (decided_both (decided_true (is_qualified b.ty))
      (decided_both (decided_false (is_qualified a.ty)) (decided_same texts_exact a.id b.id))))

  action_judged : Judged (ShadowPasses own) (ShadowRefuses own) ActionShadows
  action_judged = by (none_or_pair uids_order (ShadowsAction own) action_decided own.actions
      (λ a b s. among-found uids_order a own.actions (actions_of a b s).0) (λ a b s. among-found uids_order b own.actions (actions_of a b s).1))
    where
      by : NoPair (ShadowsAction own) ⊎ ((a : Uid) × (b : Uid) × IsLeastPair uid_cmp (ShadowsAction own) a b) → Judged (ShadowPasses own) (ShadowRefuses own) ActionShadows
      by (inl none) = inl none
      by (inr pair) = inr (ActionShadowing pair.0 pair.1, (pair.0, pair.1, refl, pair.2))

  -- no name shadows another, or a least pair does
  pub shadows_judged : AllJudged (ShadowPasses own) (ShadowRefuses own) shadow_phases
  shadows_judged = first_judged (ShadowPasses own) (ShadowRefuses own) TypeShadows (ActionShadows ∷ []) type_judged
      (λ p. first_judged (ShadowPasses own) (ShadowRefuses own) ActionShadows [] action_judged (λ q. inl tt))
