-- SPDX-License-Identifier: Apache-2.0
-- The least action that shadows another makes the least pair.
use Rattle.std.proofs.Common.{◌≡◌, ◌⊎◌, inl, inr, ◌||◌, ℕ, Bool, true, false, not, List, [], ◌∷◌, Option, Some, None, unwrap_or, is_some, refl, sym, ap, ◌∙◌, subst}
use Rattle.std.proofs.lemmas.Cmp.{on_total, nat_list_cmp_total, then_total, tied_itself}
use Rattle.std.proofs.lemmas.Map.Lookups.{exact_bytes}
use Rattle.std.specs.BTreeMap.{is_at}
use Rattle.std.specs.Cmp.{IsTotalOrder}
use Rattle.std.specs.Ordering.{is_eq, ordering_reverse, ordering_then}
use Rattle.std.specs.declared.cmp.Ordering.{Ordering}
use Rattle.std.specs.declared.cmp.Ordering.TheVariants.{Less, Equal, Greater}
use Rattle.cedar_data.specs.Sets.{contains}
use Rattle.cedar_names.specs.Order.{word_cmp}
use Rattle.cedar_schema_error.proofs.UidOrder.{uid_equal, uid_total}
use Rattle.cedar_schema_error.specs.FullNames.{Uid, is_qualified, uid_cmp}
use Rattle.cedar_declared.specs.Alone.{is_alone, pick_all}
use Rattle.cedar_declared.specs.Names.{Names, is_action}
use Rattle.cedar_shadowing.specs.Picking.{least_shadowing_action, shadowed_action, shadowing_action_cmp, shadows_action}
use Rattle.cedar_shadowing.specs.Shadowing.{IsLeastPair, NoPair, ShadowsAction}
use Rattle.cedar_shadowing.proofs.LeastTypes.{and_first, and_second, both_true, equal_when, not_false}
use Rattle.cedar_shadowing.proofs.Picked.{IsBest, Stands, best_of}

stands : (us : List Uid) (u : Uid) → contains uid_cmp us u ≡ true → Stands us u
stands [] u e = let p : false ≡ true = e in absurd (cc)
stands (x ∷ us) u e = by (is_at (uid_cmp u) x) refl (stands us u)
  where
    by : (b : Bool) → is_at (uid_cmp u) x ≡ b → (contains uid_cmp us u ≡ true → Stands us u) → Stands (x ∷ us) u
    by true is others = inl (uid_equal u x (equal_when (uid_cmp u x) is))
    by false is others = inr (others (sym (ap (λ b. b || contains uid_cmp us u) is) ∙ e))

is_there : (us : List Uid) (u : Uid) → Stands us u → contains uid_cmp us u ≡ true
is_there [] u there = elim there [ ]
is_there (x ∷ us) u (inl same) = ap (λ o. is_eq o || contains uid_cmp us u) (ap (uid_cmp u) (sym same) ∙ tied_itself uid_total u)
is_there (x ∷ us) u (inr others) = or_true (is_at (uid_cmp u) x) (contains uid_cmp us u) (is_there us u others)
  where
    or_true : (a b : Bool) → b ≡ true → (a || b) ≡ true
    or_true true b e = refl
    or_true false b e = e

module _ (own : Names) where
  -- the declared actions
  abbrev Seen : Uid → Type 0
  Seen u = ⊥ ⊎ Stands own.actions u

  action_total : IsTotalOrder (shadowing_action_cmp own.actions)
  action_total = then_total (on_total (λ (u : Uid). unwrap_or (shadowed_action own.actions u) u) uid_total) uid_total

  -- the least of all
  best : IsBest (shadows_action own.actions) (shadowing_action_cmp own.actions) Seen (least_shadowing_action own.actions None own.actions)
  best = best_of (shadows_action own.actions) (shadowing_action_cmp own.actions) action_total (λ x. ⊥) None own.actions (λ x e. absurd (e))

  -- the least of an id
  alone_best : (id : List ℕ) → IsBest (is_alone id) uid_cmp Seen (pick_all (is_alone id) uid_cmp None own.actions)
  alone_best id = best_of (is_alone id) uid_cmp uid_total (λ x. ⊥) None own.actions (λ x e. absurd (e))

  unalone : (a u : Uid) → ShadowsAction own a u → is_alone u.id a ≡ true
  unalone a u s =
      both_true (not (is_qualified a.ty)) (is_at (word_cmp u.id) a.id) (ap not s.unqualified)
      (ap (λ w. is_at (word_cmp u.id) w) s.same_id ∙ ap is_eq (tied_itself nat_list_cmp_total u.id))

  seen_first : (a u : Uid) → ShadowsAction own a u → Seen a
  seen_first a u s = inr (stands own.actions a (and_first (is_action own a) (is_action own u) s.both))

  seen_second : (a u : Uid) → ShadowsAction own a u → Seen u
  seen_second a u s = inr (stands own.actions u (and_second (is_action own a) (is_action own u) s.both))

  some_alone : (a u : Uid) → Seen a → is_alone u.id a ≡ true → (o : Option Uid) → IsBest (is_alone u.id) uid_cmp Seen o → is_some o ≡ true
  some_alone a u there passes None is = let p : true ≡ false = sym passes ∙ is a there in absurd (cc)
  some_alone a u there passes (Some x) is = refl

  shadows_one : (a u : Uid) → ShadowsAction own a u → shadows_action own.actions u ≡ true
  shadows_one a u s =
      both_true (is_qualified u.ty) (is_some (shadowed_action own.actions u)) s.qualified
      (some_alone a u (seen_first a u s) (unalone a u s) (shadowed_action own.actions u) (alone_best u.id))

  declared : (u : Uid) → Seen u → is_action own u ≡ true
  declared u (inr there) = is_there own.actions u there
  declared u (inl e) = absurd (e)

  -- it shadows the least of its id
  shadowed_by : (a u : Uid) → Seen u → shadows_action own.actions u ≡ true → IsBest (is_alone u.id) uid_cmp Seen (Some a) → ShadowsAction own a u
  shadowed_by a u there passes is = record {
    both = both_true (is_action own a) (is_action own u) (declared a is.0) (declared u there);
    qualified = and_first (is_qualified u.ty) (is_some (shadowed_action own.actions u)) passes;
    unqualified = not_false (is_qualified a.ty) (and_first (not (is_qualified a.ty)) (is_at (word_cmp u.id) a.id) is.1);
    same_id = sym (exact_bytes u.id a.id (equal_when (word_cmp u.id a.id) (and_second (not (is_qualified a.ty)) (is_at (word_cmp u.id) a.id) is.1)));
  }

  none_by : (o : Option Uid) → IsBest (shadows_action own.actions) (shadowing_action_cmp own.actions) Seen o → o ≡ None → NoPair (ShadowsAction own)
  none_by None is none a u s = let p : true ≡ false = sym (shadows_one a u s) ∙ is u (seen_second a u s) in absurd (cc)
  none_by (Some x) is none a u s = absurd (cc)

  -- where none is found, no action shadows another
  pub no_action : (o : Option Uid) → o ≡ least_shadowing_action own.actions None own.actions → o ≡ None → NoPair (ShadowsAction own)
  no_action o is none = none_by (least_shadowing_action own.actions None own.actions) best (sym is ∙ none)

  -- what comes before what is not behind comes before
  before : (x y z : Uid) (o : Ordering) → uid_cmp x y ≡ o → (uid_cmp x y ≡ Less → ⊥) → uid_cmp x z ≡ Less → uid_cmp y z ≡ Less
  before x y z Less is not_less less = absurd (not_less is)
  before x y z Equal is not_less less = ap (λ u. uid_cmp u z) (sym (uid_equal x y is)) ∙ less
  before x y z Greater is not_less less = uid_total.trans y x z (uid_total.antisymm y x ∙ ap ordering_reverse is) less

  less_then : (o p : Ordering) → o ≡ Less → ordering_then o p ≡ Less
  less_then o p is = ap (λ o. ordering_then o p) is

  some_by : (a b : Uid) → shadowed_action own.actions b ≡ Some a → IsBest (shadows_action own.actions) (shadowing_action_cmp own.actions) Seen (Some b) → IsLeastPair uid_cmp (ShadowsAction own) a b
  some_by a b found is =
      let alone : IsBest (is_alone b.id) uid_cmp Seen (Some a) = subst (IsBest (is_alone b.id) uid_cmp Seen) found (alone_best b.id) in
      let shadows : ShadowsAction own a b = shadowed_by a b is.0 is.1 alone in
      record {
        first = record { holds = (b, shadows); least = λ x found less. first_least x found.0 found.1 less (shadowed_action own.actions found.0) refl };
        second = record { holds = shadows; least = λ y s less. second_least y (s.same_id) (sym shadows.same_id) s less };
      }
    where
      first_least : (x y : Uid) → ShadowsAction own x y → uid_cmp x a ≡ Less → (o : Option Uid) → shadowed_action own.actions y ≡ o → ⊥
      first_least x y s less None none = let p : true ≡ false = sym (and_second (is_qualified y.ty) (is_some (shadowed_action own.actions y)) (shadows_one x y s)) ∙ ap is_some none in absurd (cc)
      first_least x y s less (Some c) some =
          let alone : IsBest (is_alone y.id) uid_cmp Seen (Some c) = subst (IsBest (is_alone y.id) uid_cmp Seen) some (alone_best y.id) in
          is.2 y (seen_second x y s) (shadows_one x y s)
          (less_then (uid_cmp (unwrap_or (shadowed_action own.actions y) y) (unwrap_or (shadowed_action own.actions b) b)) (uid_cmp y b)
          ((λ i. uid_cmp (unwrap_or (some i) y) (unwrap_or (found i) b)) ∙ before x c a (uid_cmp x c) refl (alone.2 x (seen_first x y s) (unalone x y s)) less))

      second_least : (y : Uid) → a.id ≡ y.id → b.id ≡ a.id → ShadowsAction own a y → uid_cmp y b ≡ Less → ⊥
      second_least y first second s less =
          let same : shadowed_action own.actions y ≡ Some a = ap (λ id. pick_all (is_alone id) uid_cmp None own.actions) (sym first ∙ sym second) ∙ found in
          is.2 y (seen_second a y s) (shadows_one a y s)
          (ap (λ o. ordering_then o (uid_cmp y b)) ((λ i. uid_cmp (unwrap_or (same i) y) (unwrap_or (found i) b)) ∙ tied_itself uid_total a) ∙ less)

  -- what is found makes the least pair
  pub least_actions : (o : Option Uid) (a b : Uid) → o ≡ least_shadowing_action own.actions None own.actions → o ≡ Some b → shadowed_action own.actions b ≡ Some a → IsLeastPair uid_cmp (ShadowsAction own) a b
  least_actions o a b is some found = some_by a b found (subst (IsBest (shadows_action own.actions) (shadowing_action_cmp own.actions) Seen) (sym is ∙ some) best)

  -- what is found shadows an action
  pub some_shadowed : (o : Option Uid) (b : Uid) → o ≡ least_shadowing_action own.actions None own.actions → o ≡ Some b → is_some (shadowed_action own.actions b) ≡ true
  some_shadowed o b is some =
      and_second (is_qualified b.ty) (is_some (shadowed_action own.actions b)) (subst (IsBest (shadows_action own.actions) (shadowing_action_cmp own.actions) Seen) (sym is ∙ some) best).1
