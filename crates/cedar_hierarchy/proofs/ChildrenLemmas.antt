-- SPDX-License-Identifier: Apache-2.0
-- Children put under their parents.
use Rattle.std.proofs.Common.{◌≡◌, ◌&&◌, ◌||◌, Bool, true, false, cond, List, [], ◌∷◌, Some, refl, sym, ap, ◌∙◌}
use Rattle.std.proofs.lemmas.Cmp.{eq_by_cmp_equiv}
use Rattle.std.specs.BTreeMap.{is_at}
use Rattle.std.specs.Cmp.{IsTotalOrder}
use Rattle.std.specs.Map.{lookup}
use Rattle.std.specs.declared.cmp.Ordering.{Ordering}
use Rattle.cedar_data.specs.Maps.{get}
use Rattle.cedar_data.specs.Sets.{contains, Adds}
use Rattle.cedar_hierarchy.proofs.Meant.{meant_next}
use Rattle.cedar_hierarchy.specs.Children.{members, children_at, has_parent, is_child}

cond_or : (t x : Bool) → cond t true x ≡ (t || x)
cond_or true x = refl
cond_or false x = refl

module _ {K : Type 0} {cmp : K → K → Ordering} (total : IsTotalOrder cmp) where
  -- the set of a parent taken out, the child put in, and the set put back
  pub added : (old mid new : List (K × List K)) (parent child : K) (before after : List K)
      → before ≡ children_at cmp old parent
      → ((other : K) → get cmp mid other ≡ cond (is_at (cmp parent) other) (Some []) (get cmp old other))
      → Adds cmp before after child
      → ((other : K) → get cmp new other ≡ cond (is_at (cmp parent) other) (Some after) (get cmp mid other))
      → (p c : K) → is_child cmp new p c ≡ ((is_at (cmp p) parent && is_at (cmp child) c) || is_child cmp old p c)
  added old mid new parent child before after taken out adds put p c = by (is_at (cmp parent) p) refl
    where
      by : (t : Bool) → is_at (cmp parent) p ≡ t → is_child cmp new p c ≡ ((is_at (cmp p) parent && is_at (cmp child) c) || is_child cmp old p c)
      by true e =
          let found : get cmp new p ≡ Some after = put p ∙ ap (λ t. cond t (Some after) (get cmp mid p)) e in
          let same : get cmp old parent ≡ get cmp old p = ap (λ test. lookup test old) (λ i k. (eq_by_cmp_equiv total).congr parent p k e i) in
          ap (λ o. contains cmp (members o) c) found ∙ adds c ∙ cond_or (is_at (cmp child) c) (contains cmp before c)
          ∙ ap (λ s. is_at (cmp child) c || contains cmp s c) (taken ∙ ap members same)
          ∙ ap (λ t. (t && is_at (cmp child) c) || is_child cmp old p c) (sym ((eq_by_cmp_equiv total).symm p parent ∙ e))
      by false e =
          ap (λ o. contains cmp (members o) c) (put p ∙ ap (λ t. cond t (Some after) (get cmp mid p)) e ∙ out p ∙ ap (λ t. cond t (Some []) (get cmp old p)) e)
          ∙ ap (λ t. (t && is_at (cmp child) c) || is_child cmp old p c) (sym ((eq_by_cmp_equiv total).symm p parent ∙ e))

-- one item more under its parents
pub gathered_next : {K V : Type 0} (cmp : K → K → Ordering) (is_parent : V → K → Bool) (left rest : List (K × V)) (key : K) (v : V) (parents : List K) (old new : List (K × List K)) (parent child : K) (all : Bool)
    → left ≡ (key, v) ∷ rest → contains cmp parents parent ≡ is_parent v parent
    → is_child cmp new parent child ≡ ((contains cmp parents parent && is_at (cmp key) child) || is_child cmp old parent child)
    → (has_parent cmp is_parent left parent child || is_child cmp old parent child) ≡ all
    → (has_parent cmp is_parent rest parent child || is_child cmp new parent child) ≡ all
gathered_next cmp is_parent left rest key v parents old new parent child all first told put sofar =
    meant_next (has_parent cmp is_parent rest parent child) (is_parent v parent && is_at (cmp key) child) (is_child cmp old parent child) (is_child cmp new parent child) all
    (put ∙ ap (λ t. (t && is_at (cmp key) child) || is_child cmp old parent child) told)
    (ap (λ es. has_parent cmp is_parent es parent child || is_child cmp old parent child) (sym first) ∙ sofar)
