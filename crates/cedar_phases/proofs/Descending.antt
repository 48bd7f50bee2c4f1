-- SPDX-License-Identifier: Apache-2.0
-- Memberships and descents among outlines are those of the world.
use Rattle.std.proofs.Common.{◌≡◌, List, Option, Some, map, sym, ap, ◌∙◌, subst}
use Rattle.std.specs.BTreeMap.{is_at}
use Rattle.std.specs.Option.{option_map}
use Rattle.cedar_data.specs.Firsts.{SomePasses}
use Rattle.cedar_data.specs.Maps.{get}
use Rattle.cedar_declared.specs.Names.{Names, action_target, target}
use Rattle.cedar_hierarchy.specs.Members.{IsBelow, IsMember}
use Rattle.cedar_names.specs.Order.{words_cmp}
use Rattle.cedar_phases.proofs.Chained.{chain_there, lookup_through, unchanged}
use Rattle.cedar_schema_error.specs.FullNames.{FullName, Uid, uid_cmp}
use Rattle.cedar_schema_error.specs.NameReferences.{ActionReference, NameReference}
use Rattle.cedar_hierarchy.specs.of_outlines.Outlines.{ActionParts, EntityParts, action_outline, action_parts, entity_outline, entity_parts}
use Rattle.cedar_qualified.specs.of_world.Definitions.{parents_of}
use Rattle.cedar_qualified.specs.of_world.Descents.{ActionDescendsFrom, ActionMember, DescendsFrom, Member}
use Rattle.cedar_qualified.specs.of_world.Worlds.{World, actions, entity_types, names}

module _ (W : World) (a : Names) (same : target a ≡ target (names W)) (os : List (FullName × EntityParts)) (is : os ≡ map entity_outline (entity_types W)) where
  found_at : (n : FullName) → get words_cmp os n ≡ option_map entity_parts (get words_cmp (entity_types W) n)
  found_at n = ap (λ es. get words_cmp es n) is ∙ lookup_through (is_at (words_cmp n)) (λ k. k) entity_parts (entity_types W)

  -- a membership among outlines
  abbrev pub TypeMember : FullName → FullName → Type 0
  TypeMember = IsMember words_cmp (target a) (λ (p : EntityParts). p.parents) os

  member_there : (x y : FullName) → TypeMember x y → Member W x y
  member_there x y m =
      let d = unchanged entity_parts (get words_cmp (entity_types W) x) m.parts (sym (found_at x) ∙ m.declared) in
      record {
        definition = d.0;
        declared = d.1;
        targeted = subst (λ (t : NameReference → Option FullName). SomePasses (λ r. t r ≡ Some y) (parents_of d.0)) same
            (subst (λ (p : EntityParts). SomePasses (λ r. target a r ≡ Some y) p.parents) (sym d.2) m.targeted);
      }

  member_back : (x y : FullName) → Member W x y → TypeMember x y
  member_back x y m = record {
    parts = entity_parts m.definition;
    declared = found_at x ∙ ap (option_map entity_parts) m.declared;
    targeted = subst (λ (t : NameReference → Option FullName). SomePasses (λ r. t r ≡ Some y) (parents_of m.definition)) (sym same) m.targeted;
  }

  -- what descends from what
  pub descends_there : (high low : FullName) → IsBelow words_cmp (target a) (λ (p : EntityParts). p.parents) os high low → DescendsFrom W high low
  descends_there high low chain = chain_there member_there low high chain

  pub descends_back : (high low : FullName) → DescendsFrom W high low → IsBelow words_cmp (target a) (λ (p : EntityParts). p.parents) os high low
  descends_back high low chain = chain_there member_back low high chain

module _ (W : World) (a : Names) (same : action_target a ≡ action_target (names W)) (os : List (Uid × ActionParts)) (is : os ≡ map action_outline (actions W)) where
  action_at : (u : Uid) → get uid_cmp os u ≡ option_map action_parts (get uid_cmp (actions W) u)
  action_at u = ap (λ es. get uid_cmp es u) is ∙ lookup_through (is_at (uid_cmp u)) (λ k. k) action_parts (actions W)

  abbrev pub UidMember : Uid → Uid → Type 0
  UidMember = IsMember uid_cmp (action_target a) (λ (p : ActionParts). p.parents) os

  action_member_there : (x y : Uid) → UidMember x y → ActionMember W x y
  action_member_there x y m =
      let d = unchanged action_parts (get uid_cmp (actions W) x) m.parts (sym (action_at x) ∙ m.declared) in
      record {
        definition = d.0;
        declared = d.1;
        targeted = subst (λ (t : ActionReference → Option Uid). SomePasses (λ r. t r ≡ Some y) d.0.parents) same
            (subst (λ (p : ActionParts). SomePasses (λ r. action_target a r ≡ Some y) p.parents) (sym d.2) m.targeted);
      }

  action_member_back : (x y : Uid) → ActionMember W x y → UidMember x y
  action_member_back x y m = record {
    parts = action_parts m.definition;
    declared = action_at x ∙ ap (option_map action_parts) m.declared;
    targeted = subst (λ (t : ActionReference → Option Uid). SomePasses (λ r. t r ≡ Some y) m.definition.parents) (sym same) m.targeted;
  }

  pub action_descends_there : (high low : Uid) → IsBelow uid_cmp (action_target a) (λ (p : ActionParts). p.parents) os high low → ActionDescendsFrom W high low
  action_descends_there high low chain = chain_there action_member_there low high chain

  pub action_descends_back : (high low : Uid) → ActionDescendsFrom W high low → IsBelow uid_cmp (action_target a) (λ (p : ActionParts). p.parents) os high low
  action_descends_back high low chain = chain_there action_member_back low high chain
