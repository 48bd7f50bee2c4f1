-- SPDX-License-Identifier: Apache-2.0
-- Where types have no faults and no membership has `__cedar`, no undeclared name of a world has it.
use Rattle.std.proofs.Common.{◌≡◌, ◌++◌, ◌&&◌, ◌||◌, Bool, true, false, IsTrue, List, [], ◌∷◌, Option, Some, None, cond, fold, refl, sym, ap, ◌∙◌, subst}
use Rattle.std.proofs.lemmas.List.Elements.{filter_map-append}
use Rattle.std.specs.BTreeMap.{insert_entry, is_at}
use Rattle.std.specs.Cmp.{Equal-is}
use Rattle.std.specs.List.{cons_option, filter, filter_map, flat_map}
use Rattle.std.specs.Ordering.{is_eq, match_ordering}
use Rattle.std.specs.declared.cmp.Ordering.{Ordering}
use Rattle.std.specs.declared.cmp.Ordering.TheVariants.{Less, Equal, Greater}
use Rattle.cedar_data.specs.Firsts.{AllPass}
use Rattle.cedar_data.specs.Maps.{map_of}
use Rattle.cedar_data.specs.Sets.{contains, IsSetOf}
use Rattle.cedar_missing.specs.of_declared.Names.{Names, target, targets}
use Rattle.cedar_names.proofs.NameOrder.{words_cmp-equal}
use Rattle.cedar_names.specs.Components.{has_cedar}
use Rattle.cedar_names.specs.Order.{words_cmp}
use Rattle.cedar_missing.specs.of_schema_error.FullNames.{FullName, uid_cmp}
use Rattle.cedar_missing.specs.of_schema_error.NameReferences.{ActionReference, NameReference}
use Rattle.cedar_world.specs.of_unfold.Faults.{attribute_faults_by, entity_fault, faults_by, of_target, open_fault, reserved_fault}
use Rattle.cedar_world.specs.of_unfold.Meanings.{Meanings, is_common}
use Rattle.cedar_world.specs.of_unfold.UnfoldPhases.{UnfoldPasses, Unfoldable, CommonFaults, Uses}
use Rattle.cedar_world.specs.of_unfold.Written.{Written, WrittenAttributes, Boolean, Long, String, Extension, Set, Record, Entity, EntityOrCommon, CommonTypeRef, no_attributes, attribute}
use Rattle.cedar_world.specs.Definitions.{ActionDefinition, EntityDefinition, Namespace, parents_of}
use Rattle.cedar_world.specs.Missing.{action_memberships, entity_memberships, memberships, parent_types, reserved_targets}
use Rattle.cedar_world.specs.Undeclared.{IsUndeclared, all_entity_references, applications, attribute_entity_references, entity_parents, entity_references, references_to_entities}
use Rattle.cedar_world.specs.Worlds.{World, actions, all_namespaces, common_types, entity_types, job, meanings, names, uses}

both_empty : {A : Type 0} (xs ys : List A) → xs ++ ys ≡ [] → (xs ≡ []) × (ys ≡ [])
both_empty [] ys is = (refl, is)
both_empty (x ∷ xs) ys is = absurd (cc)

-- what each of some lists passes, their whole passes
module _ {A : Type 0} (P : A → Type 0) where
  AllPass-append : (xs ys : List A) → AllPass P xs → AllPass P ys → AllPass P (xs ++ ys)
  AllPass-append [] ys p q = q
  AllPass-append (x ∷ xs) ys p q = (p.0, AllPass-append xs ys p.1 q)

  AllPass-first : (xs ys : List A) → AllPass P (xs ++ ys) → AllPass P xs
  AllPass-first [] ys p = tt
  AllPass-first (x ∷ xs) ys p = (p.0, AllPass-first xs ys p.1)

  AllPass-second : (xs ys : List A) → AllPass P (xs ++ ys) → AllPass P ys
  AllPass-second [] ys p = p
  AllPass-second (x ∷ xs) ys p = AllPass-second xs ys p.1

  module _ {C : Type 0} (f : C → List A) where
    each_passes : (cs : List C) → AllPass P (flat_map f cs) → AllPass (λ c. AllPass P (f c)) cs
    each_passes [] p = tt
    each_passes (c ∷ cs) p = (AllPass-first (f c) (flat_map f cs) p, each_passes cs (AllPass-second (f c) (flat_map f cs) p))

    all_pass : (cs : List C) → AllPass (λ c. AllPass P (f c)) cs → AllPass P (flat_map f cs)
    all_pass [] p = tt
    all_pass (c ∷ cs) p = AllPass-append (f c) (flat_map f cs) p.0 (all_pass cs p.1)

AllPass-map : {A : Type 0} (P Q : A → Type 0) → ((x : A) → P x → Q x) → (xs : List A) → AllPass P xs → AllPass Q xs
AllPass-map P Q f [] p = tt
AllPass-map P Q f (x ∷ xs) p = (f x p.0, AllPass-map P Q f xs p.1)

-- what the values of pairs pass, those of the map of them pass
module _ {K V : Type 0} (cmp : K → K → Ordering) (P : V → Type 0) where
  AllPass-insert_entry : (es : List (K × V)) (k : K) (v : V) → AllPass (λ e. P e.1) es → P v → AllPass (λ e. P e.1) (insert_entry cmp es k v)
  AllPass-insert_entry [] k v p q = (q, tt)
  AllPass-insert_entry (e ∷ es) k v p q = by (cmp k e.0) (AllPass-insert_entry es k v p.1 q)
    where
      by : (o : Ordering) → AllPass (λ e. P e.1) (insert_entry cmp es k v) → AllPass (λ e. P e.1) (match_ordering o ((k, v) ∷ e ∷ es) ((e.0, v) ∷ es) (e ∷ insert_entry cmp es k v))
      by Less rest = (q, p)
      by Equal rest = (q, p.1)
      by Greater rest = (p.0, rest)

  AllPass-put : (es pairs : List (K × V)) → AllPass (λ e. P e.1) es → AllPass (λ e. P e.1) pairs → AllPass (λ e. P e.1) (fold (λ es pair. insert_entry cmp es pair.0 pair.1) es pairs)
  AllPass-put es [] p q = p
  AllPass-put es (e ∷ pairs) p q = AllPass-put (insert_entry cmp es e.0 e.1) pairs (AllPass-insert_entry es e.0 e.1 p q.0) q.1

  AllPass-map_of : (pairs : List (K × V)) → AllPass (λ e. P e.1) pairs → AllPass (λ e. P e.1) (map_of cmp pairs)
  AllPass-map_of pairs p = AllPass-put [] pairs tt p

-- without `__cedar`
abbrev IsFree : FullName → Type 0
IsFree name = has_cedar name ≡ false

abbrev AreFree : List FullName → Type 0
AreFree names = AllPass IsFree names

free_all : (ns : List FullName) → filter has_cedar ns ≡ [] → AreFree ns
free_all [] none = tt
free_all (n ∷ ns) none = by (has_cedar n) refl none (free_all ns)
  where
    by : (b : Bool) → has_cedar n ≡ b → cond b (n ∷ filter has_cedar ns) (filter has_cedar ns) ≡ [] → (filter has_cedar ns ≡ [] → AreFree ns) → AreFree (n ∷ ns)
    by true is none rest = absurd (cc)
    by false is none rest = (is, rest none)

-- free names that a list has
first_of : (b c : Bool) → IsTrue (b && c) → b ≡ true
first_of true c is = refl
first_of false c is = is

free_there : (ns : List FullName) (q : FullName) → AreFree ns → contains words_cmp ns q ≡ true → has_cedar q ≡ false
free_there [] q p is = let e : false ≡ true = is in absurd (cc)
free_there (n ∷ ns) q p is = by (is_at (words_cmp q) n) refl is (free_there ns q p.1)
  where
    by : (b : Bool) → is_at (words_cmp q) n ≡ b → (b || contains words_cmp ns q) ≡ true → (contains words_cmp ns q ≡ true → has_cedar q ≡ false) → has_cedar q ≡ false
    by true tied is rest = ap has_cedar ((words_cmp-equal q n).0 ((Equal-is (words_cmp q n)).0 tied)) ∙ p.0
    by false tied is rest = rest is

true_after : (b : Bool) → (b || true) ≡ true
true_after true = refl
true_after false = refl

none_reserved : (ks : List FullName) → ((q : FullName) → contains words_cmp ks q ≡ true → has_cedar q ≡ false) → filter has_cedar ks ≡ []
none_reserved [] free = refl
none_reserved (k ∷ ks) free =
    ap (λ b. cond b (k ∷ filter has_cedar ks) (filter has_cedar ks)) (free k (ap (λ o. is_eq o || contains words_cmp ks k) ((words_cmp-equal k k).1 refl)))
    ∙ none_reserved ks (λ q here. free q (ap (λ b. is_at (words_cmp q) k || b) here ∙ true_after (is_at (words_cmp q) k)))

-- the entity types in a type without faults
module _ (m : Meanings NameReference) where
  entity_free : (o : Option FullName) → of_target entity_fault o ≡ [] → AreFree (cons_option o [])
  entity_free None none = tt
  entity_free (Some n) none = by (has_cedar n) refl none
    where
      by : (b : Bool) → has_cedar n ≡ b → reserved_fault b n ≡ [] → AreFree (n ∷ [])
      by true is none = absurd (cc)
      by false is none = (is, tt)

  mutual
    type_free : (t : Written NameReference) → faults_by m.target (is_common m) m.is_extension t ≡ [] → AreFree (filter_map m.target (entity_references t))
    type_free Boolean none = tt
    type_free Long none = tt
    type_free String none = tt
    type_free (Extension e) none = tt
    type_free (Set t) none = type_free t none
    type_free (Record ts is_open) none = attributes_free ts (both_empty (open_fault is_open) (attribute_faults_by m.target (is_common m) m.is_extension ts) none).1
    type_free (Entity r) none = entity_free (m.target r) none
    type_free (EntityOrCommon r) none = tt
    type_free (CommonTypeRef r) none = tt

    attributes_free : (ts : WrittenAttributes NameReference) → attribute_faults_by m.target (is_common m) m.is_extension ts ≡ [] → AreFree (filter_map m.target (attribute_entity_references ts))
    attributes_free no_attributes none = tt
    attributes_free (attribute name required t ts) none =
        let both = both_empty (faults_by m.target (is_common m) m.is_extension t) (attribute_faults_by m.target (is_common m) m.is_extension ts) none in
        subst AreFree (sym (filter_map-append m.target (entity_references t) (attribute_entity_references ts)))
        (AllPass-append IsFree (filter_map m.target (entity_references t)) (filter_map m.target (attribute_entity_references ts)) (type_free t both.0) (attributes_free ts both.1))

  all_types_free : {K : Type 0} (ts : List (K × Written NameReference)) → AllPass (λ e. faults_by m.target (is_common m) m.is_extension e.1 ≡ []) ts → AreFree (filter_map m.target (all_entity_references ts))
  all_types_free [] none = tt
  all_types_free (t ∷ ts) none =
      subst AreFree (sym (filter_map-append m.target (entity_references t.1) (all_entity_references ts)))
      (AllPass-append IsFree (filter_map m.target (entity_references t.1)) (filter_map m.target (all_entity_references ts)) (type_free t.1 none.0) (all_types_free ts none.1))

-- what each gives has free targets, so has the whole
module _ (ns : Names) {C : Type 0} (f : C → List NameReference) where
  targets_free : (cs : List C) → AllPass (λ c. AreFree (targets ns (f c))) cs → AreFree (targets ns (flat_map f cs))
  targets_free [] p = tt
  targets_free (c ∷ cs) p =
      subst AreFree (sym (filter_map-append (target ns) (f c) (flat_map f cs)))
      (AllPass-append IsFree (targets ns (f c)) (targets ns (flat_map f cs)) p.0 (targets_free cs p.1))

module _ (w : World) where
  abbrev EntityFree : EntityDefinition NameReference → Type 0
  EntityFree e = AreFree (targets (names w) (parents_of e))

  abbrev ActionFree : ActionDefinition NameReference ActionReference → Type 0
  ActionFree a = AreFree (targets (names w) (a.principals ++ a.resources))

  module _ (none : reserved_targets (names w) (all_namespaces w) ≡ []) where
    each_namespace : AllPass (λ ns. AreFree (memberships (names w) ns)) (all_namespaces w)
    each_namespace = each_passes IsFree (memberships (names w)) (all_namespaces w) (free_all (flat_map (memberships (names w)) (all_namespaces w)) none)

    entities_of : (ns : Namespace) → AreFree (memberships (names w) ns) → AllPass (λ e. EntityFree e.1) ns.entity_types
    entities_of ns p =
        each_passes IsFree (λ e. entity_memberships (names w) e.1) ns.entity_types
        (AllPass-first IsFree (flat_map (λ e. entity_memberships (names w) e.1) ns.entity_types) (flat_map (λ a. action_memberships (names w) a.1) ns.actions) p)

    action_of : (a : ActionDefinition NameReference ActionReference) → AreFree (action_memberships (names w) a) → ActionFree a
    action_of a p = subst AreFree (sym (filter_map-append (target (names w)) a.principals a.resources))
        (AllPass-first IsFree (targets (names w) a.principals ++ targets (names w) a.resources) (parent_types (names w) a.parents) p)

    actions_of : (ns : Namespace) → AreFree (memberships (names w) ns) → AllPass (λ a. ActionFree a.1) ns.actions
    actions_of ns p =
        AllPass-map (λ a. AreFree (action_memberships (names w) a.1)) (λ a. ActionFree a.1) (λ a. action_of a.1) ns.actions
        (each_passes IsFree (λ a. action_memberships (names w) a.1) ns.actions
        (AllPass-second IsFree (flat_map (λ e. entity_memberships (names w) e.1) ns.entity_types) (flat_map (λ a. action_memberships (names w) a.1) ns.actions) p))

    all_entities : AllPass (λ e. EntityFree e.1) (entity_types w)
    all_entities =
        AllPass-map_of words_cmp EntityFree (flat_map (λ ns. ns.entity_types) (all_namespaces w))
        (all_pass (λ e. EntityFree e.1) (λ ns. ns.entity_types) (all_namespaces w)
        (AllPass-map (λ ns. AreFree (memberships (names w) ns)) (λ ns. AllPass (λ e. EntityFree e.1) ns.entity_types) entities_of (all_namespaces w) each_namespace))

    all_actions : AllPass (λ a. ActionFree a.1) (actions w)
    all_actions =
        AllPass-map_of uid_cmp ActionFree (flat_map (λ ns. ns.actions) (all_namespaces w))
        (all_pass (λ a. ActionFree a.1) (λ ns. ns.actions) (all_namespaces w)
        (AllPass-map (λ ns. AreFree (memberships (names w) ns)) (λ ns. AllPass (λ a. ActionFree a.1) ns.actions) actions_of (all_namespaces w) each_namespace))

  module _ (done : Unfoldable (job w)) where
    commons_faultless : UnfoldPasses (job w) CommonFaults
    unfolding Unfoldable
    commons_faultless = done.1.0

    uses_pass : UnfoldPasses (job w) Uses
    unfolding Unfoldable
    uses_pass = done.1.1.1.0

    commons_free : AreFree (targets (names w) (all_entity_references (common_types w)))
    commons_free = all_types_free (meanings w) (common_types w) commons_faultless

    uses_free : AreFree (targets (names w) (all_entity_references (uses w)))
    uses_free = all_types_free (meanings w) (uses w) (AllPass-map _ _ (λ u p. p.faultless) (uses w) uses_pass)

  module _ (done : Unfoldable (job w)) (none : reserved_targets (names w) (all_namespaces w) ≡ []) where
    others_free : AreFree (targets (names w) (entity_parents (entity_types w) ++ applications (actions w)))
    others_free =
        subst AreFree (sym (filter_map-append (target (names w)) (entity_parents (entity_types w)) (applications (actions w))))
        (AllPass-append IsFree (targets (names w) (entity_parents (entity_types w))) (targets (names w) (applications (actions w)))
        (targets_free (names w) (λ e. parents_of e.1) (entity_types w) (all_entities none))
        (targets_free (names w) (λ a. a.1.principals ++ a.1.resources) (actions w) (all_actions none)))

    types_and_others : AreFree (targets (names w) (all_entity_references (uses w) ++ (entity_parents (entity_types w) ++ applications (actions w))))
    types_and_others =
        subst AreFree (sym (filter_map-append (target (names w)) (all_entity_references (uses w)) (entity_parents (entity_types w) ++ applications (actions w))))
        (AllPass-append IsFree (targets (names w) (all_entity_references (uses w))) (targets (names w) (entity_parents (entity_types w) ++ applications (actions w))) (uses_free done) others_free)

    all_free : AreFree (targets (names w) (references_to_entities w))
    all_free =
        subst AreFree (sym (filter_map-append (target (names w)) (all_entity_references (common_types w)) (all_entity_references (uses w) ++ (entity_parents (entity_types w) ++ applications (actions w)))))
        (AllPass-append IsFree (targets (names w) (all_entity_references (common_types w))) (targets (names w) (all_entity_references (uses w) ++ (entity_parents (entity_types w) ++ applications (actions w))))
        (commons_free done) types_and_others)

    -- no undeclared name has `__cedar`
    pub undeclared_free : (ks : List FullName) → IsSetOf words_cmp (IsUndeclared w) ks → filter has_cedar ks ≡ []
    undeclared_free ks set = none_reserved ks (λ q here. free_there (targets (names w) (references_to_entities w)) q all_free (first_of _ _ ((set.members q).0 here)))
