-- SPDX-License-Identifier: Apache-2.0
-- In the world that is read again, the same descends from the same.
use Rattle.std.proofs.Common.{◌≡◌, List, Some, refl, sym, subst}
use Rattle.std.specs.declared.cmp.Ordering.{Ordering}
use Rattle.cedar_closure.specs.Chains.{Reaches, one, more}
use Rattle.cedar_data.specs.Firsts.{SomePasses}
use Rattle.cedar_data.specs.Maps.{get}
use Rattle.cedar_data.specs.Sets.{IsSetOf}
use Rattle.cedar_declared.specs.Names.{Names, action_target, target}
use Rattle.cedar_names.specs.Order.{words_cmp}
use Rattle.cedar_reread_world.specs.Rewritten.{ActionRewritten, EntityRewritten, NamespacesRewritten, SameKey, enumerated, standard}
use Rattle.cedar_reread_world.proofs.SameNames.{actions_related, names_same, types_related}
use Rattle.cedar_reread_world.proofs.Zipped.{forth, zip_get, zip_turned}
use Rattle.cedar_schema_error.specs.FullNames.{FullName, Uid, uid_cmp}
use Rattle.cedar_schema_error.specs.NameReferences.{ActionReference, NameReference}
use Rattle.cedar_world.specs.Definitions.{ActionDefinition, EntityDefinition, parents_of}
use Rattle.cedar_world.specs.Descents.{ActionDescendsFrom, ActionMember, DescendsFrom, Member}
use Rattle.cedar_world.specs.Worlds.{World, actions, entity_types, names}

-- a chain of steps is one of others, where each step is
pub chain_there : {A : Type 0} {R S : A → A → Type 0} → ((x y : A) → R x y → S x y) → (x y : A) → Reaches R x y → Reaches S x y
chain_there f x y (one s) = one (f x y s)
chain_there f x y (more {b = m} s rest) = more (f x m s) (chain_there f m y rest)

-- a set of what has one property is that of what has another, where both say the same
pub set_there : {K : Type 0} (cmp : K → K → Ordering) (P Q : K → Type 0) → ((k : K) → P k → Q k) → ((k : K) → Q k → P k) → (ks : List K) → IsSetOf cmp P ks → IsSetOf cmp Q ks
set_there cmp P Q f g ks s = record { ascends = s.ascends; members = λ k. ((λ h. f k ((s.members k).0 h)), (λ h. (s.members k).1 (g k h))) }

-- the parents of an entity type stay
pub same_parents : (d e : EntityDefinition NameReference) → EntityRewritten d e → parents_of e ≡ parents_of d
same_parents _ _ (standard s t) = refl
same_parents _ _ enumerated = refl

-- definitions the other way round
abbrev EntityBack : EntityDefinition NameReference → EntityDefinition NameReference → Type 0
EntityBack e d = EntityRewritten d e

abbrev ActionBack : ActionDefinition NameReference ActionReference → ActionDefinition NameReference ActionReference → Type 0
ActionBack e d = ActionRewritten d e

module _ (W V : World) (same_extensions : V.extensions ≡ W.extensions) (rewrites : NamespacesRewritten W.namespaces V.namespaces) where
  member_there : (x y : FullName) → Member W x y → Member V x y
  member_there x y m =
      let found = forth EntityRewritten (get words_cmp (entity_types W) x) (get words_cmp (entity_types V) x) m.definition
      (zip_get words_cmp EntityRewritten (entity_types W) (entity_types V) x (types_related W V same_extensions rewrites)) m.declared in
      record {
        definition = found.other;
        declared = found.found;
        targeted = subst (λ (N : Names). SomePasses (λ r. target N r ≡ Some y) (parents_of found.other)) (sym (names_same W V same_extensions rewrites))
            (subst (SomePasses (λ r. target (names W) r ≡ Some y)) (sym (same_parents m.definition found.other found.related)) m.targeted);
      }

  member_back : (x y : FullName) → Member V x y → Member W x y
  member_back x y m =
      let found = forth EntityBack (get words_cmp (entity_types V) x) (get words_cmp (entity_types W) x) m.definition
      (zip_get words_cmp EntityBack (entity_types V) (entity_types W) x
      (zip_turned (SameKey EntityRewritten) (SameKey EntityBack) (λ a b h. record { key = sym h.key; value = h.value }) (entity_types W) (entity_types V) (types_related W V same_extensions rewrites))) m.declared in
      record {
        definition = found.other;
        declared = found.found;
        targeted = subst (λ (N : Names). SomePasses (λ r. target N r ≡ Some y) (parents_of found.other)) (names_same W V same_extensions rewrites)
            (subst (SomePasses (λ r. target (names V) r ≡ Some y)) (same_parents found.other m.definition found.related) m.targeted);
      }

  action_there : (x y : Uid) → ActionMember W x y → ActionMember V x y
  action_there x y m =
      let found = forth ActionRewritten (get uid_cmp (actions W) x) (get uid_cmp (actions V) x) m.definition
      (zip_get uid_cmp ActionRewritten (actions W) (actions V) x (actions_related W V same_extensions rewrites)) m.declared in
      record {
        definition = found.other;
        declared = found.found;
        targeted = subst (λ (N : Names). SomePasses (λ r. action_target N r ≡ Some y) found.other.parents) (sym (names_same W V same_extensions rewrites))
            (subst (SomePasses (λ r. action_target (names W) r ≡ Some y)) (sym found.related.parents) m.targeted);
      }

  action_back : (x y : Uid) → ActionMember V x y → ActionMember W x y
  action_back x y m =
      let found = forth ActionBack (get uid_cmp (actions V) x) (get uid_cmp (actions W) x) m.definition
      (zip_get uid_cmp ActionBack (actions V) (actions W) x
      (zip_turned (SameKey ActionRewritten) (SameKey ActionBack) (λ a b h. record { key = sym h.key; value = h.value }) (actions W) (actions V) (actions_related W V same_extensions rewrites))) m.declared in
      record {
        definition = found.other;
        declared = found.found;
        targeted = subst (λ (N : Names). SomePasses (λ r. action_target N r ≡ Some y) found.other.parents) (names_same W V same_extensions rewrites)
            (subst (SomePasses (λ r. action_target (names V) r ≡ Some y)) found.related.parents m.targeted);
      }

  -- so the sets of what descends from a name are the same
  pub descendants_there : (name : FullName) (ns : List FullName) → IsSetOf words_cmp (DescendsFrom W name) ns → IsSetOf words_cmp (DescendsFrom V name) ns
  descendants_there name ns h = set_there words_cmp (DescendsFrom W name) (DescendsFrom V name) (λ low chain. chain_there member_there low name chain) (λ low chain. chain_there member_back low name chain) ns h

  pub action_descendants_there : (uid : Uid) (us : List Uid) → IsSetOf uid_cmp (ActionDescendsFrom W uid) us → IsSetOf uid_cmp (ActionDescendsFrom V uid) us
  action_descendants_there uid us h = set_there uid_cmp (ActionDescendsFrom W uid) (ActionDescendsFrom V uid) (λ low chain. chain_there action_there low uid chain) (λ low chain. chain_there action_back low uid chain) us h

  -- and no action is its own
  pub cycles_there : ((uid : Uid) → ActionDescendsFrom W uid uid → ⊥) → (uid : Uid) → ActionDescendsFrom V uid uid → ⊥
  cycles_there h uid chain = h uid (chain_there action_back uid uid chain)
