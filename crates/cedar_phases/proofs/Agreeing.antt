-- SPDX-License-Identifier: Apache-2.0
-- What holds of declared names holds of names that agree with them.
use Rattle.std.proofs.Common.{◌≡◌, ◌&&◌, ◌||◌, ℕ, Bool, not, IsTrue, List, ◌∷◌, [], ◌++◌, inl, inr, map, sym, subst}
use Rattle.std.specs.List.{filter, find}
use Rattle.std.specs.declared.cmp.Ordering.{Ordering}
use Rattle.cedar_data.specs.Firsts.{AllPass, FirstRefused}
use Rattle.cedar_data.specs.Maps.{map_of}
use Rattle.cedar_declared.specs.Names.{Names, action_target, is_action, is_declared, is_entity, target}
use Rattle.cedar_names.specs.Order.{words_cmp}
use Rattle.cedar_qualified.specs.Agreeing.{AgreeingNames}
use Rattle.cedar_schema_error.specs.FullNames.{FullName, Uid, uid_cmp}
use Rattle.cedar_schema_error.specs.Refusals.{Refusal}
use Rattle.cedar_sound.specs.of_shadowing.Shadowing.{ActionShadows, IsLeastPair, NoPair, ShadowPasses, ShadowPhase, ShadowRefuses, ShadowsAction, ShadowsType, TypeShadows, shadow_phases}
use Rattle.cedar_text.specs.Words.{primitive_words}
use Rattle.cedar_qualified.specs.of_world.Definitions.{of_common_types}
use Rattle.cedar_qualified.specs.of_world.Worlds.{alias, builtin_namespaces, builtins, is_free}
use Rattle.cedar_written.specs.declared.reference_type.ReferenceType.{ReferenceType}
use Rattle.cedar_written.specs.declared.reference_type.ReferenceType.TheVariants.{Common, Entity, CommonOrEntity}

module _ (a b : Names) (agree : AgreeingNames a b) where
  -- a name is declared alike
  declared_at : (k : ReferenceType) (n : FullName) → is_declared a k n ≡ is_declared b k n
  declared_at Common n = agree.common n
  declared_at Entity n = agree.entity n
  declared_at CommonOrEntity n = λ i. agree.common n i || agree.entity n i

  pub same_declared : (k : ReferenceType) → is_declared a k ≡ is_declared b k
  same_declared k = λ i n. declared_at k n i

  pub same_action : is_action a ≡ is_action b
  same_action = λ i u. agree.action u i

  pub same_entity : is_entity a ≡ is_entity b
  same_entity = λ i n. agree.entity n i

  -- references have the same targets
  pub same_target : target a ≡ target b
  same_target = λ i r. find (same_declared r.kind i) r.possibilities

  pub same_action_target : action_target a ≡ action_target b
  same_action_target = λ i r. find (same_action i) (map (λ name. record { ty = name; id = r.id }) r.ty.possibilities)

  -- and the same words are free for aliases
  same_free : is_free a ≡ is_free b
  same_free = λ i word. not (agree.common (word ∷ []) i || agree.entity (word ∷ []) i)

  pub same_builtins : (extensions : List (List ℕ)) → builtin_namespaces a extensions ≡ builtin_namespaces b extensions
  same_builtins extensions = λ i.
      of_common_types (map_of words_cmp (builtins extensions)) ∷ of_common_types (map_of words_cmp (map alias (filter (same_free i) (primitive_words ++ extensions)))) ∷ []

-- what agrees one way agrees the other
pub turned : (a b : Names) → AgreeingNames a b → AgreeingNames b a
turned a b agree = record { entity = λ n. sym (agree.entity n); common = λ n. sym (agree.common n); action = λ u. sym (agree.action u) }

module _ (a b : Names) (agree : AgreeingNames a b) where
  types_there : (x y : FullName) → ShadowsType a x y → ShadowsType b x y
  types_there x y s = record {
    both = subst (λ (f : FullName → Bool). IsTrue (f x && f y)) (same_declared a b agree CommonOrEntity) s.both;
    qualified = s.qualified;
    unreserved = s.unreserved;
    is_basename = s.is_basename;
  }

  actions_there : (x y : Uid) → ShadowsAction a x y → ShadowsAction b x y
  actions_there x y s = record {
    both = subst (λ (f : Uid → Bool). IsTrue (f x && f y)) (same_action a b agree) s.both;
    qualified = s.qualified;
    unqualified = s.unqualified;
    same_id = s.same_id;
  }

module _ {A : Type 0} (cmp : A → A → Ordering) (R S : A → A → Type 0) (there : (x y : A) → R x y → S x y) (back : (x y : A) → S x y → R x y) where
  no_pair_there : NoPair R → NoPair S
  no_pair_there none x y s = none x y (back x y s)

  pair_there : (x y : A) → IsLeastPair cmp R x y → IsLeastPair cmp S x y
  pair_there x y p = record {
    first = record { holds = (p.first.holds.0, there x p.first.holds.0 p.first.holds.1); least = λ z h. p.first.least z (h.0, back z h.0 h.1) };
    second = record { holds = there x y p.second.holds; least = λ z h. p.second.least z (back x z h) };
  }

module _ (a b : Names) (agree : AgreeingNames a b) where
  passes_at : (p : ShadowPhase) → ShadowPasses a p → ShadowPasses b p
  passes_at TypeShadows h = no_pair_there words_cmp (ShadowsType a) (ShadowsType b) (types_there a b agree) (types_there b a (turned a b agree)) h
  passes_at ActionShadows h = no_pair_there uid_cmp (ShadowsAction a) (ShadowsAction b) (actions_there a b agree) (actions_there b a (turned a b agree)) h

  refuses_at : (p : ShadowPhase) (e : Refusal) → ShadowRefuses a p e → ShadowRefuses b p e
  refuses_at TypeShadows e h = (h.0, h.1, h.2, pair_there words_cmp (ShadowsType a) (ShadowsType b) (types_there a b agree) (types_there b a (turned a b agree)) h.0 h.1 h.3)
  refuses_at ActionShadows e h = (h.0, h.1, h.2, pair_there uid_cmp (ShadowsAction a) (ShadowsAction b) (actions_there a b agree) (actions_there b a (turned a b agree)) h.0 h.1 h.3)

  all_there : (ps : List ShadowPhase) → AllPass (ShadowPasses a) ps → AllPass (ShadowPasses b) ps
  all_there [] h = tt
  all_there (p ∷ ps) h = (passes_at p h.0, all_there ps h.1)

  first_there : (ps : List ShadowPhase) (e : Refusal) → FirstRefused (ShadowPasses a) (ShadowRefuses a) ps e → FirstRefused (ShadowPasses b) (ShadowRefuses b) ps e
  first_there [] e h = absurd h
  first_there (p ∷ ps) e (inl h) = inl (refuses_at p e h)
  first_there (p ∷ ps) e (inr h) = inr (passes_at p h.0, first_there ps e h.1)

  -- nothing shadows another, or they are refused, alike
  pub shadows_pass : AllPass (ShadowPasses a) shadow_phases → AllPass (ShadowPasses b) shadow_phases
  shadows_pass = all_there shadow_phases

  pub shadows_refuse : (e : Refusal) → FirstRefused (ShadowPasses a) (ShadowRefuses a) shadow_phases e → FirstRefused (ShadowPasses b) (ShadowRefuses b) shadow_phases e
  shadows_refuse = first_there shadow_phases
