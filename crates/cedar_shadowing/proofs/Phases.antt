-- SPDX-License-Identifier: Apache-2.0
-- What was found decides the phases on what shadows what.
use Rattle.std.proofs.Common.{◌≡◌, [], ◌∷◌, inl, inr, Some, None}
use Rattle.cedar_data.specs.Firsts.{AllPass, FirstRefused}
use Rattle.cedar_names.specs.Order.{words_cmp}
use Rattle.cedar_schema_error.specs.FullNames.{FullName, Uid, basename}
use Rattle.cedar_schema_error.specs.Refusals.{Refusal, TypeShadowing}
use Rattle.cedar_declared.specs.Names.{Names}
use Rattle.cedar_shadowing.specs.Picking.{least_shadowing_action}
use Rattle.cedar_shadowing.specs.Shadowing.{ActionShadows, IsLeastPair, NoPair, ShadowPasses, ShadowRefuses, ShadowsType, shadow_phases}
use Rattle.cedar_shadowing.proofs.KeptPairs.{keeps_actions, keeps_pair}
use Rattle.cedar_shadowing.proofs.LookedUp.{no_pair, some_pair}

module _ (own : Names) where
  -- a pair of types
  pub refused_type : (n : FullName) (e : Refusal) → IsLeastPair words_cmp (ShadowsType own) (basename n ∷ []) n → e ≡ TypeShadowing (basename n ∷ []) n → FirstRefused (ShadowPasses own) (ShadowRefuses own) shadow_phases e
  refused_type n e least is = inl (basename n ∷ [], n, is, least)

  -- a pair of actions, where there is no pair of types
  pub refused_action : (e : Refusal) → NoPair (ShadowsType own) → ShadowRefuses own ActionShadows e → FirstRefused (ShadowPasses own) (ShadowRefuses own) shadow_phases e
  refused_action e none refuses = inr (none, inl refuses)

  -- no pair
  pub none_refused : NoPair (ShadowsType own) → None ≡ least_shadowing_action own.actions None own.actions → AllPass (ShadowPasses own) shadow_phases
  none_refused types actions = (types, (no_pair own actions, tt))

  -- where there is a pair, it does not pass
  pub type_fails : (a b : FullName) → IsLeastPair words_cmp (ShadowsType own) a b → AllPass (ShadowPasses own) shadow_phases → ⊥
  type_fails a b least all = all.0 a b least.second.holds

  pub action_fails : (u : Uid) → Some u ≡ least_shadowing_action own.actions None own.actions → AllPass (ShadowPasses own) shadow_phases → ⊥
  action_fails u is all = some_pair own u is all.1.0

pub ruleset phases = (refused_type, refused_action, none_refused, type_fails, action_fails, keeps_pair, keeps_actions)
