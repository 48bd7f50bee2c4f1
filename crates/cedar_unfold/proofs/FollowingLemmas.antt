-- SPDX-License-Identifier: Apache-2.0
-- The attributes that follow a name, one after another.
use Rattle.std.proofs.Common.{◌≡◌, ℕ, ◌+◌, ◌≤◌, arith, Bool, true, false, cond, List, Option, Some, None, refl, sym, ap, ◌∙◌, subst}
use Rattle.std.proofs.lemmas.Bool.{cond-true}
use Rattle.std.proofs.lemmas.Map.Keys.{sorted_head, sorted_tail}
use Rattle.std.proofs.lemmas.Option.{none-some}
use Rattle.std.specs.Cmp.Lexicographic.{slice_cmp, nat_list_cmp_total}
use Rattle.std.specs.List.{AllByRecursion}
use Rattle.std.specs.List.Sorted.{IsStrictlySortedBy}
use Rattle.std.specs.Ordering.{is_lt, nat_cmp, ordering_reverse}
use Rattle.std.specs.declared.cmp.Ordering.{Ordering}
use Rattle.std.specs.declared.cmp.Ordering.TheVariants.{Less, Equal, Greater}
use Rattle.cedar_unfold.specs.Following.{follows, labels, first_attribute, following}
use Rattle.cedar_unfolding.specs.Written.{Written, WrittenAttributes, Boolean, Long, String, Extension, Set, Record, Entity, EntityOrCommon, CommonTypeRef, no_attributes, attribute, nodes, attribute_nodes}

or_else : {A : Type 0} → A → Option A → A
or_else a None = a
or_else a (Some x) = x

pub same_inside : {A : Type 0} (a b : A) → Some a ≡ Some b → a ≡ b
unfolding or_else
same_inside a b is = ap (or_else a) is

pub cond-false : {A : Type 0} (b : Bool) (x y : A) → b ≡ false → cond b x y ≡ y
cond-false b x y is = ap (λ b. cond b x y) is

lt_itself : (o : Ordering) → o ≡ ordering_reverse o → is_lt o ≡ false
lt_itself Less is = absurd cc
lt_itself Equal is = refl
lt_itself Greater is = refl

lt_Less : (o : Ordering) → is_lt o ≡ true → o ≡ Less
lt_Less Less is = refl
lt_Less Equal is = absurd cc
lt_Less Greater is = absurd cc

abbrev cmp : List ℕ → List ℕ → Ordering
cmp = slice_cmp nat_cmp

no_self : (n : List ℕ) → follows (Some n) n ≡ false
no_self n = lt_itself (cmp n n) (nat_list_cmp_total.antisymm n n)

no_later : (n m : List ℕ) → cmp n m ≡ Less → follows (Some m) n ≡ false
no_later n m less = ap is_lt (nat_list_cmp_total.antisymm m n ∙ ap ordering_reverse less)

module _ {N : Type 0} where
  -- all follow a name that is less than each
  all_follow : (n : List ℕ) (ws : WrittenAttributes N) → AllByRecursion (λ m. cmp n m ≡ Less) (labels ws) → following (Some n) ws ≡ ws
  all_follow n no_attributes all = refl
  all_follow n (attribute m required t ws) all = cond-true (is_lt (cmp n m)) (attribute m required t (following (Some n) ws)) (following (Some n) ws) (ap is_lt all.0) ∙ ap (attribute m required t) (all_follow n ws all.1)

  less_than_all : (a n : List ℕ) (ws : WrittenAttributes N) → cmp a n ≡ Less → AllByRecursion (λ m. cmp n m ≡ Less) (labels ws) → AllByRecursion (λ m. cmp a m ≡ Less) (labels ws)
  less_than_all a n no_attributes less all = tt
  less_than_all a n (attribute m required t ws) less all = (nat_list_cmp_total.trans a n m less all.0, less_than_all a n ws less all.1)

  -- all follow where no name is given
  pub following-None : (ws : WrittenAttributes N) → following None ws ≡ ws
  following-None no_attributes = refl
  following-None (attribute m required t ws) = ap (attribute m required t) (following-None ws)

  still_follow : (after : Option (List ℕ)) (n : List ℕ) (ws : WrittenAttributes N) → follows after n ≡ true → AllByRecursion (λ m. cmp n m ≡ Less) (labels ws) → following after ws ≡ ws
  still_follow None n ws is all = following-None ws
  still_follow (Some a) n ws is all = all_follow a ws (less_than_all a n ws (lt_Less (cmp a n) is) all)

  fewer : (after : Option (List ℕ)) (ws : WrittenAttributes N) → attribute_nodes (following after ws) ≤ attribute_nodes ws
  fewer after no_attributes = omega arith
  fewer after (attribute n r u ws) = by_test (fewer after ws) (follows after n) where
    by_test : attribute_nodes (following after ws) ≤ attribute_nodes ws → (b : Bool) → attribute_nodes (cond b (attribute n r u (following after ws)) (following after ws)) ≤ nodes u + attribute_nodes ws
    by_test less true = omega (arith, less)
    by_test less false = omega (arith, less)

  -- what holds of each name holds of the first that follows
  at_first : (P : List ℕ → Type 0) (after : Option (List ℕ)) (ws : WrittenAttributes N) (name : List ℕ) (t : Written N) (required : Bool) → AllByRecursion P (labels ws) → first_attribute (following after ws) ≡ Some (name, t, required) → P name
  at_first P after no_attributes name t required all is = absurd (none-some (name, t, required) is)
  at_first P after (attribute n r u ws) name t required all is = by_test (at_first P after ws name t required all.1) (follows after n) refl where
    by_test : (first_attribute (following after ws) ≡ Some (name, t, required) → P name) → (b : Bool) → follows after n ≡ b → P name
    by_test later true e = subst P (ap (λ x. x.0) (same_inside (n, u, r) (name, t, required) (sym (ap first_attribute (cond-true (follows after n) (attribute n r u (following after ws)) (following after ws) e)) ∙ is))) all.0
    by_test later false e = later (sym (ap first_attribute (cond-false (follows after n) (attribute n r u (following after ws)) (following after ws) e)) ∙ is)

  -- the first attribute that follows a name, and those that follow it
  pub following-next : (after : Option (List ℕ)) (ws : WrittenAttributes N) (name : List ℕ) (t : Written N) (required : Bool) → IsStrictlySortedBy cmp (labels ws) → first_attribute (following after ws) ≡ Some (name, t, required) → following after ws ≡ attribute name required t (following (Some name) ws)
  following-next after no_attributes name t required sorted is = absurd (none-some (name, t, required) is)
  following-next after (attribute n r u ws) name t required sorted is = by_test (following-next after ws name t required (sorted_tail cmp n (labels ws) sorted)) (follows after n) refl where
    later : AllByRecursion (λ m. cmp n m ≡ Less) (labels ws)
    later = sorted_head cmp n (labels ws) sorted

    by_test : (first_attribute (following after ws) ≡ Some (name, t, required) → following after ws ≡ attribute name required t (following (Some name) ws)) → (b : Bool) → follows after n ≡ b → following after (attribute n r u ws) ≡ attribute name required t (following (Some name) (attribute n r u ws))
    by_test others true e =
        let here = cond-true (follows after n) (attribute n r u (following after ws)) (following after ws) e in
        let same = same_inside (n, u, r) (name, t, required) (sym (ap first_attribute here) ∙ is) in
        let rest : following after ws ≡ following (Some n) (attribute n r u ws) = still_follow after n ws e later ∙ sym (all_follow n ws later) ∙ sym (cond-false (follows (Some n) n) (attribute n r u (following (Some n) ws)) (following (Some n) ws) (no_self n)) in
        here ∙ ap (attribute n r u) rest ∙ ap (λ x. attribute x.0 x.2 x.1 (following (Some x.0) (attribute n r u ws))) same
    by_test others false e =
        let here = cond-false (follows after n) (attribute n r u (following after ws)) (following after ws) e in
        let less : cmp n name ≡ Less = at_first (λ m. cmp n m ≡ Less) after ws name t required later (sym (ap first_attribute here) ∙ is) in
        here ∙ others (sym (ap first_attribute here) ∙ is)
        ∙ ap (attribute name required t) (sym (cond-false (follows (Some name) n) (attribute n r u (following (Some name) ws)) (following (Some name) ws) (no_later n name less)))

  -- the first attribute that follows a name is part of the record
  pub following-part : (after : Option (List ℕ)) (ws : WrittenAttributes N) (name : List ℕ) (t : Written N) (required : Bool) → IsStrictlySortedBy cmp (labels ws) → first_attribute (following after ws) ≡ Some (name, t, required) → nodes t ≤ attribute_nodes ws
  following-part after ws name t required sorted is =
      let all = fewer after ws in
      let split = ap attribute_nodes (following-next after ws name t required sorted is) in
      omega (arith, all, split)

  -- no attribute follows
  pub following-end : (after : Option (List ℕ)) (ws : WrittenAttributes N) → first_attribute (following after ws) ≡ None → following after ws ≡ no_attributes
  following-end after ws is = none_left (following after ws) is where
    none_left : (ws : WrittenAttributes N) → first_attribute ws ≡ None → ws ≡ no_attributes
    none_left no_attributes is = refl
    none_left (attribute n r u ws) is = absurd (none-some (n, u, r) (sym is))

-- a type has a node
pub some_nodes : {N : Type 0} (t : Written N) → 1 ≤ nodes t
some_nodes Boolean = omega arith
some_nodes Long = omega arith
some_nodes String = omega arith
some_nodes (Extension e) = omega arith
some_nodes (Set t) = omega arith
some_nodes (Record ws is_open) = omega arith
some_nodes (Entity r) = omega arith
some_nodes (EntityOrCommon r) = omega arith
some_nodes (CommonTypeRef r) = omega arith
