-- SPDX-License-Identifier: Apache-2.0
-- Actions without a namespace that are looked up by their ids.
use Rattle.std.proofs.Common.{◌≡◌, ◌&&◌, Bool, true, false, List, Option, Some, None, unwrap_or, is_some, refl, sym, ap, ◌∙◌, subst}
use Rattle.cedar_names.specs.EntityUids.{eid_of, eid_text}
use Rattle.cedar_names.specs.declared.entity_uid.Eid.{Eid}
use Rattle.cedar_names.specs.declared.entity_uid.EntityUID.{EntityUID}
use Rattle.cedar_schema_error.specs.FullNames.{Uid, is_qualified, uid_cmp, uid_in}
use Rattle.cedar_schema_error.specs.Refusals.{ActionShadowing}
use Rattle.cedar_declared.specs.Alone.{least_alone}
use Rattle.cedar_declared.specs.Names.{Names}
use Rattle.cedar_shadowing.specs.Picking.{least_shadowing_action, shadowed_action, shadows_action}
use Rattle.cedar_shadowing.specs.Shadowing.{ActionShadows, IsLeastPair, NoPair, ShadowRefuses, ShadowsAction}
use Rattle.cedar_shadowing.proofs.LeastActions.{least_actions, no_action, some_shadowed}

module _ (own : List Uid) (u : EntityUID) (e : Eid) where
  -- it is found by its id
  at_id : e ≡ eid_of u → least_alone own (eid_text e) ≡ shadowed_action own (uid_in u)
  at_id of = ap (λ e. least_alone own (eid_text e)) of

  module _ (q : Bool) where
    -- one without a namespace shadows none
    pub alone_shadows_none : q ≡ is_qualified (uid_in u).ty → q ≡ false → false ≡ shadows_action own (uid_in u)
    alone_shadows_none is none = sym (ap (λ q. q && is_some (shadowed_action own (uid_in u))) (sym is ∙ none))

    shadows_by : q ≡ is_qualified (uid_in u).ty → q ≡ true → is_some (shadowed_action own (uid_in u)) ≡ shadows_action own (uid_in u)
    shadows_by is some = ap (λ q. q && is_some (shadowed_action own (uid_in u))) (sym some ∙ is)

    -- another does where its id is there
    pub other_shadows : (v : EntityUID) → q ≡ is_qualified (uid_in u).ty → q ≡ true → e ≡ eid_of u → Some (uid_in v) ≡ least_alone own (eid_text e) → true ≡ shadows_action own (uid_in u)
    other_shadows v is some of found = ap is_some (found ∙ at_id of) ∙ shadows_by is some

    pub other_shadows_none : q ≡ is_qualified (uid_in u).ty → q ≡ true → e ≡ eid_of u → None ≡ least_alone own (eid_text e) → false ≡ shadows_action own (uid_in u)
    other_shadows_none is some of missed = ap is_some (missed ∙ at_id of) ∙ shadows_by is some

  -- what it shadows
  pub shadowed_found : (v : EntityUID) → e ≡ eid_of u → Some (uid_in v) ≡ least_alone own (eid_text e) → uid_in v ≡ unwrap_or (shadowed_action own (uid_in u)) (uid_in u)
  shadowed_found v of found = ap (λ o. unwrap_or o (uid_in u)) (found ∙ at_id of)

  pub shadowed_missed : e ≡ eid_of u → None ≡ least_alone own (eid_text e) → uid_in u ≡ unwrap_or (shadowed_action own (uid_in u)) (uid_in u)
  shadowed_missed of missed = ap (λ o. unwrap_or o (uid_in u)) (missed ∙ at_id of)

module _ (own : Names) (b : EntityUID) (e : Eid) where
  -- the least pair
  pub pair_found : (a p r : EntityUID) → least_shadowing_action own.actions None own.actions ≡ Some (uid_in b) → e ≡ eid_of b → Some (uid_in a) ≡ least_alone own.actions (eid_text e) → p ≡ a → r ≡ b
      → IsLeastPair uid_cmp (ShadowsAction own) (uid_in p) (uid_in r)
  pair_found a p r some of found first second =
      subst (λ x. IsLeastPair uid_cmp (ShadowsAction own) (uid_in x) (uid_in r)) (sym first)
      (subst (λ x. IsLeastPair uid_cmp (ShadowsAction own) (uid_in a) (uid_in x)) (sym second)
      (least_actions own (least_shadowing_action own.actions None own.actions) (uid_in a) (uid_in b) refl some (sym (found ∙ at_id own.actions b e of))))

  -- what shadows an action finds it
  pub pair_there : least_shadowing_action own.actions None own.actions ≡ Some (uid_in b) → e ≡ eid_of b → None ≡ least_alone own.actions (eid_text e) → ⊥
  pair_there some of none =
      let there : is_some (shadowed_action own.actions (uid_in b)) ≡ true = some_shadowed own (least_shadowing_action own.actions None own.actions) (uid_in b) refl some in
      let p : false ≡ true = ap is_some (none ∙ at_id own.actions b e of) ∙ there in
      absurd (cc)

  -- so the error refuses
  pub pair_refused : (a p r : EntityUID) → least_shadowing_action own.actions None own.actions ≡ Some (uid_in b) → e ≡ eid_of b → Some (uid_in a) ≡ least_alone own.actions (eid_text e) → p ≡ a → r ≡ b
      → ShadowRefuses own ActionShadows (ActionShadowing (uid_in p) (uid_in r))
  pair_refused a p r some of found first second = (uid_in p, uid_in r, refl, pair_found a p r some of found first second)

module _ (own : Names) where
  -- no pair
  pub no_pair : None ≡ least_shadowing_action own.actions None own.actions → NoPair (ShadowsAction own)
  no_pair is = no_action own None is refl

  -- a pair
  pub some_pair : (u : Uid) → Some u ≡ least_shadowing_action own.actions None own.actions → NoPair (ShadowsAction own) → ⊥
  some_pair u is none = by (shadowed_action own.actions u) refl
    where
      by : (o : Option Uid) → shadowed_action own.actions u ≡ o → ⊥
      by None missed =
          let p : false ≡ true = sym (ap is_some missed) ∙ some_shadowed own (Some u) u is refl in
          absurd (cc)
      by (Some a) found = none a u (least_actions own (Some u) a u is refl found).second.holds

pub ruleset looked_up = (alone_shadows_none, other_shadows, other_shadows_none, shadowed_found, shadowed_missed, pair_refused, pair_there)
