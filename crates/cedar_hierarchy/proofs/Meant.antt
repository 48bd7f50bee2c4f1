-- SPDX-License-Identifier: Apache-2.0
-- Keys that references mean.
use Rattle.std.proofs.Common.{◌≡◌, ◌||◌, ℕ, Bool, true, false, cond, not, IsTrue, MatchOption, List, [], ◌∷◌, Option, Some, None, option_map, map, refl, sym, ap, ◌∙◌, subst}
use Rattle.std.proofs.lemmas.Cmp.{eq_by_cmp_equiv}
use Rattle.std.specs.BTreeMap.{is_at}
use Rattle.std.specs.Cmp.{IsTotalOrder}
use Rattle.std.specs.List.{cons_option, filter_map, find, list_any}
use Rattle.std.specs.List.Sorted.{IsStrictlySortedBy}
use Rattle.std.specs.Option.{option_map_or}
use Rattle.std.specs.declared.cmp.Ordering.{Ordering}
use Rattle.cedar_data.specs.Sets.{contains, Adds}
use Rattle.cedar_outlines.specs.of_declared.Names.{Names, action_target, is_action}
use Rattle.cedar_outlines.specs.of_declared.Targets.{action_at, found}
use Rattle.cedar_outlines.proofs.of_declared.FoundTargets.{type_found}
use Rattle.cedar_fragment.specs.ActionUids.{over_conditional, type_in}
use Rattle.cedar_fragment.specs.declared.action_uid.ActionEntityUID.{ActionEntityUID}
use Rattle.cedar_hierarchy.specs.Targets.{is_here, is_type_meant}
use Rattle.cedar_hierarchy.proofs.Views.{from_eq}
use Rattle.cedar_names.proofs.NameOrder.{words_cmp-equal}
use Rattle.cedar_names.specs.Components.{components, has_cedar}
use Rattle.cedar_names.specs.Names.{entity_cmp, entity_words, name_of}
use Rattle.cedar_names.specs.Order.{words_cmp}
use Rattle.cedar_names.specs.declared.internal_name.InternalName.{InternalName}
use Rattle.cedar_names.specs.declared.name.EntityType.{EntityType}
use Rattle.cedar_schema_error.specs.FullNames.{FullName}
use Rattle.cedar_schema_error.specs.NameReferences.{action_reference_of, no_reference, reference_of}
use Rattle.cedar_text.specs.Lists.{elements}
use Rattle.cedar_written.specs.Possibilities.{possibilities_of}
use Rattle.cedar_written.specs.declared.conditional_name.ConditionalName.{ConditionalName}

cond_or : (t x : Bool) → cond t true x ≡ (t || x)
cond_or true x = refl
cond_or false x = refl

-- what is put in is there
pub key_put : {K : Type 0} {cmp : K → K → Ordering} → IsTotalOrder cmp → (k : K) (old new : List K) → Adds cmp old new k → (key : K) → contains cmp new key ≡ (is_at (cmp key) k || contains cmp old key)
key_put {cmp = cmp} total k old new adds key = adds key ∙ cond_or (is_at (cmp k) key) (contains cmp old key) ∙ ap (λ t. t || contains cmp old key) ((eq_by_cmp_equiv total).symm k key)

pub ruleset puts = (key_put)

turned : (a h x : Bool) → (a || (h || x)) ≡ ((h || a) || x)
turned true true x = refl
turned true false x = refl
turned false true x = refl
turned false false x = refl

-- one reference more
pub meant_next : (a h x y z : Bool) → y ≡ (h || x) → ((h || a) || x) ≡ z → (a || y) ≡ z
meant_next a h x y z e f = ap (λ t. a || t) e ∙ turned a h x ∙ f

-- before the first reference
pub meant_start : {K : Type 0} (cmp : K → K → Ordering) (keys : List K) (key : K) (left all : Bool) → keys ≡ [] → left ≡ all → (left || contains cmp keys key) ≡ all
meant_start cmp keys key left all none same = ap (λ ks. left || contains cmp ks key) none ∙ nothing left ∙ same
  where
    nothing : (b : Bool) → (b || false) ≡ b
    nothing true = refl
    nothing false = refl

-- no keys are in order
pub none_sorted : {K : Type 0} (cmp : K → K → Ordering) (keys : List K) → keys ≡ [] → IsStrictlySortedBy cmp keys
unfolding IsStrictlySortedBy
none_sorted cmp keys none = subst (λ ks. IsStrictlySortedBy cmp ks) (sym none) tt

-- what some reference means is among what they give
pub any_meant : {N R S : Type 0} (order : N → N → Ordering) (target : R → Option N) (f : S → R) (rs : List S) (n : N) → list_any (λ r. is_here order (target (f r)) n) rs ≡ contains order (filter_map target (map f rs)) n
any_meant order target f [] n = refl
any_meant order target f (r ∷ rs) n = by (target (f r)) (any_meant order target f rs n)
  where
    by : (o : Option _) → list_any (λ r. is_here order (target (f r)) n) rs ≡ contains order (filter_map target (map f rs)) n → (is_here order o n || list_any (λ r. is_here order (target (f r)) n) rs) ≡ contains order (cons_option o (filter_map target (map f rs))) n
    by None rest = rest
    by (Some m) rest = ap (λ t. is_at (order n) m || t) rest

-- an optional key is at a key where its name is at the name
pub here_view : {K N : Type 0} (cmp : K → K → Ordering) (order : N → N → Ordering) (view : K → N) → ((a b : K) → is_at (cmp a) b ≡ is_at (order (view a)) (view b)) → (o : Option K) (key : K) → is_here cmp o key ≡ is_here order (option_map view o) (view key)
here_view cmp order view test None key = refl
here_view cmp order view test (Some k) key = test key k

module _ (names : Names) where
  -- a reference means what is found
  pub type_meant : (n : ConditionalName) (o : Option InternalName) (key : EntityType) → o ≡ found names n → is_here words_cmp (option_map components o) (entity_words key) ≡ is_type_meant names n key
  type_meant n o key is = ap (λ o. is_here words_cmp (option_map components o) (entity_words key)) is ∙ ap (λ o. is_here words_cmp o (entity_words key)) (sym (type_found names n))

  -- names as actions of one id
  seen_twice : (id : List ℕ) (ps : List InternalName) → map (action_at id) ps ≡ map (λ (name : FullName). record { ty = name; id = id }) (map components ps)
  seen_twice id [] = refl
  seen_twice id (p ∷ ps) = ap (λ us. action_at id p ∷ us) (seen_twice id ps)

  -- the first declared action among all possibilities is the target
  pub all_left : (a : ActionEntityUID ConditionalName over_conditional) (ty : ConditionalName) (ps : List InternalName) → Some ty ≡ type_in a → ps ≡ elements (possibilities_of ty)
      → find (is_action names) (map (action_at a.id) ps) ≡ action_target names (action_reference_of a)
  all_left a ty ps given all =
      ap (λ ps. find (is_action names) (map (action_at a.id) ps)) all ∙ ap (find (is_action names)) (seen_twice a.id (elements (possibilities_of ty)))
      ∙ ap (λ o. find (is_action names) (map (λ (name : FullName). record { ty = name; id = a.id }) (option_map_or reference_of o no_reference).possibilities)) given

-- no entity type has a component `__cedar`
pub unreserved : (ty : EntityType) → has_cedar (entity_words ty) ≡ false
unreserved ty = not_true (has_cedar (entity_words ty)) (name_of ty).unreserved
  where
    not_true : (b : Bool) → IsTrue (not b) → b ≡ false
    not_true true e = let p : false ≡ true = e in absurd (cc)
    not_true false e = refl

-- the type of a name is at the keys of this name
pub type_told : (name : InternalName) (o : Option EntityType) → MatchOption o (has_cedar (components name) ≡ true) (λ ty. entity_words ty ≡ components name) → (key : EntityType) → is_here entity_cmp o key ≡ is_here words_cmp (Some (components name)) (entity_words key)
type_told name None reserved key = by (is_at (words_cmp (entity_words key)) (components name)) refl
  where
    by : (t : Bool) → is_at (words_cmp (entity_words key)) (components name) ≡ t → false ≡ is_at (words_cmp (entity_words key)) (components name)
    by false e = sym e
    by true e =
        let same : entity_words key ≡ components name = (words_cmp-equal (entity_words key) (components name)).0 (from_eq (words_cmp (entity_words key) (components name)) e) in
        let p : has_cedar (entity_words key) ≡ true = ap has_cedar same ∙ reserved in
        let q : has_cedar (entity_words key) ≡ false = unreserved key in
        absurd (cc)
type_told name (Some ty) same key = ap (λ ws. is_at (words_cmp (entity_words key)) ws) same
