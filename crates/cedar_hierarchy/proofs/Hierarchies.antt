-- SPDX-License-Identifier: Apache-2.0
-- Outlines, the nodes that are made of them, and the closure of these.
use Rattle.std.proofs.Common.{◌≡◌, Bool, true, List, [], ◌∷◌, Option, map, refl, sym, ap, ◌∙◌, subst}
use Rattle.std.specs.BTreeMap.{is_at}
use Rattle.std.specs.List.{AllZip, filter_map}
use Rattle.std.specs.Map.{keys_of}
use Rattle.std.specs.declared.cmp.Ordering.{Ordering}
use Rattle.cedar_closure.specs.Chains.{Reaches}
use Rattle.cedar_closure.specs.Closure.{Closes, HasEdge, IsClosure, IsLeastOnCycle}
use Rattle.cedar_closure.specs.Closure as closure
use Rattle.cedar_data.specs.Firsts.{AllPass, IsLeast}
use Rattle.cedar_data.specs.Maps.{IsSortedMap}
use Rattle.cedar_data.specs.Sets.{contains, IsSetOf}
use Rattle.cedar_hierarchy.specs.Children.{children_at, has_parent, is_child}
use Rattle.cedar_hierarchy.specs.Members.{IsMember}
use Rattle.cedar_hierarchy.proofs.Closing.{IsNode, acyclic_names, closed_set, least_name}
use Rattle.cedar_hierarchy.proofs.Membership.{child_member, member_child, member_stands}
use Rattle.cedar_hierarchy.proofs.Views.{IsView, or_left, or_right, same_view}

module _ {K N O V P R : Type 0} {cmp : K → K → Ordering} {order : N → N → Ordering} {view : K → N} (seen : IsView cmp order view) (is_parent : O → K → Bool) (part : O → P) (target : R → Option N) (parents : P → List R)
    (told : (o : O) (parent : K) → is_parent o parent ≡ contains order (filter_map target (parents (part o))) (view parent)) (key : V → K) (edges : V → List K) (rest : V → V)
    (outlines : List (K × O)) (sorted : IsSortedMap cmp outlines) (children : List (K × List K)) (gathered : (parent child : K) → is_child cmp children parent child ≡ has_parent cmp is_parent outlines parent child) where
  -- memberships among the outlines
  abbrev pub Steps : N → N → Type 0
  Steps = IsMember order target parents (map (λ e. (view e.0, part e.1)) outlines)

  -- under the key of its outline, a node with the children of the key
  pub record IsNodeOf (o : K × O) (e : K × V) : Type 0 where
    pub key_is : e.0 ≡ o.0
    pub children_are : edges e.1 ≡ children_at cmp children o.0

  node : (o : K × O) (e : K × V) → IsNodeOf o e → IsNode seen edges Steps e
  node o e n = λ c. (
    (λ t.
        subst (λ k. Steps (view c) (view k)) (sym n.key_is)
        (child_member seen is_parent part target parents told outlines o.0 c sorted (sym (gathered o.0 c) ∙ ap (λ ks. contains cmp ks c) (sym n.children_are) ∙ t))),
    (λ m.
        ap (λ ks. contains cmp ks c) n.children_are ∙ gathered o.0 c
        ∙ member_child seen is_parent part target parents told outlines o.0 c sorted (subst (λ k. Steps (view c) (view k)) n.key_is m)),
  )

  nodes_are : (os : List (K × O)) (es : List (K × V)) → AllZip IsNodeOf os es → AllPass (IsNode seen edges Steps) es
  nodes_are [] [] z = tt
  nodes_are [] (e ∷ es) z = absurd z
  nodes_are (o ∷ os) [] z = absurd z
  nodes_are (o ∷ os) (e ∷ es) z = (node o e z.0, nodes_are os es z.1)

  keys_are : (os : List (K × O)) (es : List (K × V)) → AllZip IsNodeOf os es → keys_of es ≡ keys_of os
  keys_are [] [] z = refl
  keys_are [] (e ∷ es) z = absurd z
  keys_are (o ∷ os) [] z = absurd z
  keys_are (o ∷ os) (e ∷ es) z = λ i. z.0.key_is i ∷ keys_are os es z.1 i

  module _ (D M : K × O → K × V → Type 0) (node_of : (o : K × O) (e : K × V) → D o e → IsNodeOf o e)
      (make : (o : K × O) (e e' : K × V) → D o e → e'.0 ≡ e.0 → key e'.1 ≡ key e.1 → rest e'.1 ≡ rest e.1 → IsSetOf order (λ low. Reaches Steps low (view o.0)) (map view (edges e'.1)) → M o e') where
    as_nodes : (os : List (K × O)) (es : List (K × V)) → AllZip D os es → AllZip IsNodeOf os es
    as_nodes [] [] z = tt
    as_nodes [] (e ∷ es) z = absurd z
    as_nodes (o ∷ os) [] z = absurd z
    as_nodes (o ∷ os) (e ∷ es) z = (node_of o e z.0, as_nodes os es z.1)

    module _ (nodes : List (K × V)) (each : AllZip D outlines nodes) where
      zipped : AllZip IsNodeOf outlines nodes
      zipped = as_nodes outlines nodes each

      stands : (low high : N) → Steps low high → (k : K) × (view k ≡ low) × (contains cmp (keys_of nodes) k ≡ true)
      stands low high m =
          let (k, same, there) = member_stands seen is_parent part target parents told outlines low high m in
          (k, same, ap (λ ks. contains cmp ks k) (keys_are outlines nodes zipped) ∙ there)

      closed_some : (os : List (K × O)) (es closed : List (K × V)) → ((k : K) → contains cmp (keys_of es) k ≡ true → contains cmp (keys_of nodes) k ≡ true) → AllZip D os es
          → AllZip (Closes cmp key edges rest (HasEdge cmp edges nodes)) es closed → AllZip M os closed
      closed_some [] [] [] among z y = tt
      closed_some [] [] (c ∷ closed) among z y = absurd y
      closed_some [] (e ∷ es) closed among z y = absurd z
      closed_some (o ∷ os) [] closed among z y = absurd z
      closed_some (o ∷ os) (e ∷ es) [] among z y = absurd y
      closed_some (o ∷ os) (e ∷ es) (c ∷ closed) among z y =
          let same : e.0 ≡ o.0 = (node_of o e z.0).key_is in
          let here : contains cmp (keys_of nodes) e.0 ≡ true = among e.0 (or_left (is_at (cmp e.0) e.0) (contains cmp (keys_of es) e.0) (same_view seen e.0 e.0 refl)) in (
            make o e c z.0 y.0.place y.0.same_key y.0.same_rest
                (subst (λ k. IsSetOf order (λ low. Reaches Steps low (view k)) (map view (edges c.1))) same (closed_set seen edges Steps nodes (nodes_are outlines nodes zipped) stands e.0 (edges c.1) here y.0.leads)),
            closed_some os es closed (λ k h. among k (or_right (is_at (cmp k) e.0) (contains cmp (keys_of es) k) h)) z.1 y.1,
          )

      -- the closure of nodes has what descends
      pub closed_nodes : (closed : List (K × V)) → IsClosure cmp key edges rest nodes closed → AllZip M outlines closed
      closed_nodes closed y = closed_some outlines nodes closed (λ k h. h) each y

      -- where no key reaches itself, nothing descends from itself
      pub none_below_itself : closure.IsAcyclic cmp edges nodes → (n : N) → Reaches Steps n n → ⊥
      none_below_itself = acyclic_names seen edges Steps nodes (nodes_are outlines nodes zipped) stands

      -- the least key that reaches itself is that of the least name that descends from itself
      pub least_below_itself : (vertex : K) → IsLeastOnCycle cmp edges nodes vertex → IsLeast order (λ n. Reaches Steps n n) (view vertex)
      least_below_itself = least_name seen edges Steps nodes (nodes_are outlines nodes zipped) stands
