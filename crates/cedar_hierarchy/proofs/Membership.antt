-- SPDX-License-Identifier: Apache-2.0
-- Children of keys are members of names.
use Rattle.std.proofs.Common.{◌≡◌, ◌&&◌, ◌||◌, Bool, true, false, cond, List, [], ◌∷◌, Option, Some, None, option_map, map, refl, sym, ap, ◌∙◌, unwrap_or}
use Rattle.std.proofs.lemmas.Map.Keys.{sorted_head, sorted_tail}
use Rattle.std.specs.BTreeMap.{is_at}
use Rattle.std.specs.List.{AllByRecursion, filter_map}
use Rattle.std.specs.Map.{keys_of}
use Rattle.std.specs.Ordering.{is_eq}
use Rattle.std.specs.declared.cmp.Ordering.{Ordering}
use Rattle.std.specs.declared.cmp.Ordering.TheVariants.{Less}
use Rattle.cedar_data.specs.Maps.{get, IsSortedMap}
use Rattle.cedar_data.specs.Sets.{contains}
use Rattle.cedar_hierarchy.specs.Children.{has_parent}
use Rattle.cedar_hierarchy.specs.Members.{IsMember}
use Rattle.cedar_hierarchy.proofs.Views.{IsView, flipped, get_view, given_by, gives, named_key, same_view, view_same}

-- whether what stands there has the parent
abbrev pub parent_at : {K V : Type 0} → (V → K → Bool) → Option V → K → Bool
parent_at is_parent None parent = false
parent_at is_parent (Some v) parent = is_parent v parent

module _ {K N V : Type 0} {cmp : K → K → Ordering} {order : N → N → Ordering} {view : K → N} (seen : IsView cmp order view) (is_parent : V → K → Bool) where
  -- beyond an equal key, none is equal
  none_else : (k : K) (es : List (K × V)) (parent child : K) → AllByRecursion (λ y. cmp k y ≡ Less) (keys_of es) → is_at (cmp k) child ≡ true → has_parent cmp is_parent es parent child ≡ false
  none_else k [] parent child all at = refl
  none_else k (e ∷ es) parent child all at = by (is_at (cmp e.0) child) refl ∙ none_else k es parent child all.1 at
    where
      apart : is_at (cmp k) e.0 ≡ false
      apart = ap is_eq all.0

      and_false : (x : Bool) → (x && false) ≡ false
      and_false true = refl
      and_false false = refl

      by : (t : Bool) → is_at (cmp e.0) child ≡ t → has_parent cmp is_parent (e ∷ es) parent child ≡ has_parent cmp is_parent es parent child
      by true is =
          let same : is_at (cmp k) e.0 ≡ true = same_view seen k e.0 (view_same seen k child at ∙ sym (view_same seen e.0 child is)) in
          let no : true ≡ false = sym same ∙ apart in
          absurd (cc)
      by false is = ap (λ t. (is_parent e.1 parent && t) || has_parent cmp is_parent es parent child) is ∙ ap (λ t. t || has_parent cmp is_parent es parent child) (and_false (is_parent e.1 parent))

  -- so a child has the parent where what stands at it says so
  pub parent_found : (es : List (K × V)) (parent child : K) → IsSortedMap cmp es → has_parent cmp is_parent es parent child ≡ parent_at is_parent (get cmp es child) parent
  parent_found [] parent child sorted = refl
  parent_found (e ∷ es) parent child sorted = by (is_at (cmp child) e.0) refl (parent_found es parent child (sorted_tail cmp e.0 (keys_of es) sorted))
    where
      and_true : (x : Bool) → ((x && true) || false) ≡ x
      and_true true = refl
      and_true false = refl

      and_false : (x y : Bool) → ((x && false) || y) ≡ y
      and_false true y = refl
      and_false false y = refl

      by : (t : Bool) → is_at (cmp child) e.0 ≡ t → has_parent cmp is_parent es parent child ≡ parent_at is_parent (get cmp es child) parent → has_parent cmp is_parent (e ∷ es) parent child ≡ parent_at is_parent (cond t (Some e.1) (get cmp es child)) parent
      by true is rest =
          let at : is_at (cmp e.0) child ≡ true = flipped seen e.0 child ∙ is in
          (λ i. (is_parent e.1 parent && at i) || none_else e.0 es parent child (sorted_head cmp e.0 (keys_of es) sorted) at i) ∙ and_true (is_parent e.1 parent)
      by false is rest =
          let at : is_at (cmp e.0) child ≡ false = flipped seen e.0 child ∙ is in
          ap (λ t. (is_parent e.1 parent && t) || has_parent cmp is_parent es parent child) at ∙ and_false (is_parent e.1 parent) (has_parent cmp is_parent es parent child)
          ∙ rest

  module _ {P R : Type 0} (part : V → P) (target : R → Option N) (parents : P → List R) (told : (v : V) (parent : K) → is_parent v parent ≡ contains order (filter_map target (parents (part v))) (view parent)) where
    -- outlines under their names
    abbrev pub named : List (K × V) → List (N × P)
    named es = map (λ e. (view e.0, part e.1)) es

    pub child_member : (es : List (K × V)) (parent child : K) → IsSortedMap cmp es → has_parent cmp is_parent es parent child ≡ true → IsMember order target parents (named es) (view child) (view parent)
    child_member es parent child sorted h = by (get cmp es child) refl (sym (parent_found es parent child sorted) ∙ h)
      where
        by : (o : Option V) → get cmp es child ≡ o → parent_at is_parent o parent ≡ true → IsMember order target parents (named es) (view child) (view parent)
        by None is h = cc
        by (Some v) is h = record {
          parts = part v;
          declared = get_view seen part es child ∙ ap (option_map part) is;
          targeted = given_by seen.ties seen.itself target (parents (part v)) (view parent) (sym (told v parent) ∙ h);
        }

    pub member_child : (es : List (K × V)) (parent child : K) → IsSortedMap cmp es → IsMember order target parents (named es) (view child) (view parent) → has_parent cmp is_parent es parent child ≡ true
    member_child es parent child sorted m = parent_found es parent child sorted ∙ by (get cmp es child) refl
      where
        by : (o : Option V) → get cmp es child ≡ o → parent_at is_parent o parent ≡ true
        by None is = let no : None ≡ Some m.parts = sym (get_view seen part es child ∙ ap (option_map part) is) ∙ m.declared in absurd (cc)
        by (Some v) is =
            let same : part v ≡ m.parts = ap (λ o. unwrap_or o (part v)) (sym (get_view seen part es child ∙ ap (option_map part) is) ∙ m.declared) in
            told v parent ∙ ap (λ p. contains order (filter_map target (parents p)) (view parent)) same ∙ gives seen.ties seen.itself target (parents m.parts) (view parent) m.targeted

    -- what has a parent is under a key
    pub member_stands : (es : List (K × V)) (low high : N) → IsMember order target parents (named es) low high → (k : K) × (view k ≡ low) × (contains cmp (keys_of es) k ≡ true)
    member_stands es low high m = named_key seen part es low m.parts m.declared
