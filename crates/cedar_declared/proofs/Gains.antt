-- SPDX-License-Identifier: Apache-2.0
-- The names that are gathered of definitions are those that they declare.
use Rattle.std.proofs.Common.{◌≡◌, ◌||◌, Bool, true, false, List, [], ◌∷◌, ◌++◌, map, fold, refl, sym, ap, ◌∙◌, subst}
use Rattle.std.proofs.lemmas.Cmp.{nat_list_cmp_total}
use Rattle.std.proofs.lemmas.List.Folds.{list_any-append}
use Rattle.std.proofs.lemmas.Grind.{flat_map-append}
use Rattle.std.proofs.lemmas.List.Sums.{fold-append}
use Rattle.std.specs.BTreeMap.{is_at}
use Rattle.std.specs.BTreeSet.{insert_key}
use Rattle.std.specs.Cmp.{IsTotalOrder, on_total, then_total}
use Rattle.std.specs.List.{flat_map, list_any}
use Rattle.std.specs.declared.alloc.Global.{Global}
use Rattle.cedar_data.specs.Sets.{contains}
use Rattle.cedar_names.specs.Components.{components}
use Rattle.cedar_names.specs.Names.{entity_words, internal_of, name_of}
use Rattle.cedar_names.specs.Order.{words_cmp}
use Rattle.cedar_names.specs.OrderLaws.{words-total}
use Rattle.cedar_names.specs.declared.entity_uid.EntityUID.{EntityUID}
use Rattle.cedar_names.specs.declared.internal_name.InternalName.{InternalName}
use Rattle.cedar_written.specs.declared.ref_name.RefName as ref_name
use Rattle.cedar_schema_error.specs.FullNames.{FullName, Uid, uid_cmp, uid_in}
use Rattle.cedar_definitions.specs.Structures.{definitions_of}
use Rattle.cedar_definitions.specs.declared.structures.ValidatorNamespaceDef.{ValidatorNamespaceDef}
use Rattle.cedar_definitions.specs.declared.structures.ValidatorSchemaFragment.{ValidatorSchemaFragment}
use Rattle.cedar_declared.specs.Gathering.{action_cmp, declared_names, no_names, with_actions, with_definition, with_fragment}
use Rattle.cedar_declared.specs.Held.{names_of, type_names}
use Rattle.cedar_declared.specs.Names.{SameNames, is_action, is_common, is_entity}
use Rattle.cedar_declared.specs.TypeNames.{with_name}
use Rattle.cedar_declared.specs.declared.all_defs.AllDefs.{AllDefs}
use Rattle.cedar_declared.specs.declared.type_names.TypeNames.{TypeNames}
use Rattle.cedar_declared.proofs.Looked.{any_insert_key, any_map, with_name_adds}

pass : (a b c : Bool) → (a || (b || c)) ≡ ((b || a) || c)
pass true true c = refl
pass true false c = refl
pass false true c = refl
pass false false c = refl

swapped : (a b : Bool) → (a || b) ≡ (b || a)
swapped true true = refl
swapped true false = refl
swapped false true = refl
swapped false false = refl

none_of : (b : Bool) → (b || false) ≡ b
none_of true = refl
none_of false = refl

-- names put one after another
names_gained : {E : Type 0} (name : E → InternalName) (t : TypeNames) (es : List E) (n : InternalName)
    → contains words_cmp (type_names (fold (λ t e. with_name t (name e)) t es)) (components n)
    ≡ (contains words_cmp (map (λ e. components (name e)) es) (components n) || contains words_cmp (type_names t) (components n))
names_gained name t [] n = refl
names_gained name t (e ∷ es) n =
    names_gained name (with_name t (name e)) es n
    ∙ ap (λ b. contains words_cmp (map (λ e. components (name e)) es) (components n) || b) (with_name_adds t (name e) n)
    ∙ pass (contains words_cmp (map (λ e. components (name e)) es) (components n)) (is_at (words_cmp (components n)) (components (name e))) (contains words_cmp (type_names t) (components n))

action_total : IsTotalOrder action_cmp
action_total = on_total uid_in (then_total (on_total (λ (u : Uid). u.ty) (words-total (λ (x : FullName). x))) (on_total (λ (u : Uid). u.id) nat_list_cmp_total))

-- actions put one after another
actions_gained : {V : Type 0} (t : List EntityUID) (es : List (EntityUID × V)) (u : EntityUID)
    → contains action_cmp (with_actions t es) u ≡ (contains uid_cmp (map (λ e. uid_in e.0) es) (uid_in u) || contains action_cmp t u)
actions_gained t [] u = refl
actions_gained t (e ∷ es) u =
    actions_gained (insert_key action_cmp t e.0) es u
    ∙ ap (λ b. contains uid_cmp (map (λ e. uid_in e.0) es) (uid_in u) || b) (any_insert_key action_total u e.0 t)
    ∙ pass (contains uid_cmp (map (λ e. uid_in e.0) es) (uid_in u)) (is_at (action_cmp u) e.0) (contains action_cmp t u)

-- what the first adds, and what the others add
joined : {K : Type 0} (p : K → Bool) (first others : List K) (old : Bool) → (list_any p others || (list_any p first || old)) ≡ (list_any p (first ++ others) || old)
joined p first others old = pass (list_any p others) (list_any p first) old ∙ ap (λ b. b || old) (sym (list_any-append p first others))

-- what the others have, and what the first have
both : {K : Type 0} (p : K → Bool) (first others : List K) → (list_any p others || list_any p first) ≡ list_any p (first ++ others)
both p first others = swapped (list_any p others) (list_any p first) ∙ sym (list_any-append p first others)

module _ {N A : Type 0} {R : ref_name.Ghosts N} where
  abbrev entities_of : ValidatorNamespaceDef N A R → List FullName
  entities_of d = map (λ e. entity_words e.0) d.entity_types.defs

  abbrev commons_of : ValidatorNamespaceDef N A R → List FullName
  commons_of d = map (λ e. components e.0) d.common_types.defs

  abbrev actions_of : ValidatorNamespaceDef N A R → List Uid
  actions_of d = map (λ e. uid_in e.0) d.actions.actions

  entities_gained : (all : AllDefs) (ds : List (ValidatorNamespaceDef N A R)) (n : InternalName)
      → is_entity (names_of (fold with_definition all ds)) (components n) ≡ (is_entity (declared_names ds) (components n) || is_entity (names_of all) (components n))
  entities_gained all [] n = refl
  entities_gained all (d ∷ ds) n =
      entities_gained (with_definition all d) ds n
      ∙ ap (λ b. is_entity (declared_names ds) (components n) || b) (names_gained (λ e. internal_of (name_of e.0)) all.entity_types d.entity_types.defs n)
      ∙ joined (is_at (words_cmp (components n))) (entities_of d) (flat_map entities_of ds) (is_entity (names_of all) (components n))

  commons_gained : (all : AllDefs) (ds : List (ValidatorNamespaceDef N A R)) (n : InternalName)
      → is_common (names_of (fold with_definition all ds)) (components n) ≡ (is_common (declared_names ds) (components n) || is_common (names_of all) (components n))
  commons_gained all [] n = refl
  commons_gained all (d ∷ ds) n =
      commons_gained (with_definition all d) ds n
      ∙ ap (λ b. is_common (declared_names ds) (components n) || b) (names_gained (λ e. e.0) all.common_types d.common_types.defs n)
      ∙ joined (is_at (words_cmp (components n))) (commons_of d) (flat_map commons_of ds) (is_common (names_of all) (components n))

  all_actions_gained : (all : AllDefs) (ds : List (ValidatorNamespaceDef N A R)) (u : EntityUID)
      → contains action_cmp (fold with_definition all ds).actions u ≡ (is_action (declared_names ds) (uid_in u) || contains action_cmp all.actions u)
  all_actions_gained all [] u = refl
  all_actions_gained all (d ∷ ds) u =
      all_actions_gained (with_definition all d) ds u
      ∙ ap (λ b. is_action (declared_names ds) (uid_in u) || b) (actions_gained all.actions d.actions.actions u)
      ∙ joined (is_at (uid_cmp (uid_in u))) (actions_of d) (flat_map actions_of ds) (contains action_cmp all.actions u)

  -- those gathered of definitions
  pub gathered : (alloc : Global) (ds : List (ValidatorNamespaceDef N A R)) → SameNames (names_of (fold with_definition (no_names alloc) ds)) (declared_names ds)
  gathered alloc ds = record {
    entity = λ n. entities_gained (no_names alloc) ds n ∙ none_of (is_entity (declared_names ds) (components n));
    common = λ n. commons_gained (no_names alloc) ds n ∙ none_of (is_common (declared_names ds) (components n));
    action = λ u. any_map (is_at (uid_cmp (uid_in u))) uid_in (fold with_definition (no_names alloc) ds).actions ∙ all_actions_gained (no_names alloc) ds u ∙ none_of (is_action (declared_names ds) (uid_in u));
  }

  pub fragments_folded : (all : AllDefs) (fs : List (ValidatorSchemaFragment N A R)) → fold with_fragment all fs ≡ fold with_definition all (flat_map definitions_of fs)
  unfolding with_fragment
  fragments_folded all [] = refl
  fragments_folded all (f ∷ fs) = fragments_folded (with_fragment all f) fs ∙ sym (fold-append with_definition all (definitions_of f) (flat_map definitions_of fs))

  -- those gathered of fragments
  pub gathered_of_all : (alloc : Global) (fs : List (ValidatorSchemaFragment N A R)) → SameNames (names_of (fold with_fragment (no_names alloc) fs)) (declared_names (flat_map definitions_of fs))
  gathered_of_all alloc fs = subst (λ all. SameNames (names_of all) (declared_names (flat_map definitions_of fs))) (sym (fragments_folded (no_names alloc) fs)) (gathered alloc (flat_map definitions_of fs))

  -- the same of what is told of them
  pub gathers_one : (all none : AllDefs) (alloc : Global) (f : ValidatorSchemaFragment N A R) → none ≡ no_names alloc → all ≡ with_fragment none f → SameNames (names_of all) (declared_names (definitions_of f))
  unfolding with_fragment
  gathers_one all none alloc f empty is = subst (λ all. SameNames (names_of all) (declared_names (definitions_of f))) (sym (is ∙ ap (λ n. with_fragment n f) empty)) (gathered alloc (definitions_of f))

  pub gathers_all : (all : AllDefs) (alloc : Global) (fs : List (ValidatorSchemaFragment N A R)) → all ≡ fold with_fragment (no_names alloc) fs → SameNames (names_of all) (declared_names (flat_map definitions_of fs))
  gathers_all all alloc fs is = subst (λ all. SameNames (names_of all) (declared_names (flat_map definitions_of fs))) (sym is) (gathered_of_all alloc fs)

  -- the names of definitions, and those of a fragment that are put to them
  pub gathers_more : (own all : AllDefs) (ds : List (ValidatorNamespaceDef N A R)) (f : ValidatorSchemaFragment N A R) → SameNames (names_of own) (declared_names ds) → all ≡ with_fragment own f → SameNames (names_of all) (declared_names (ds ++ definitions_of f))
  unfolding with_fragment
  gathers_more own all ds f same is = subst (λ all. SameNames (names_of all) (declared_names (ds ++ definitions_of f))) (sym is) (record {
    entity = λ n. entities_gained own (definitions_of f) n ∙ ap (λ b. is_entity (declared_names (definitions_of f)) (components n) || b) (same.entity n)
        ∙ both (is_at (words_cmp (components n))) (flat_map entities_of ds) (flat_map entities_of (definitions_of f)) ∙ sym (ap (list_any (is_at (words_cmp (components n)))) (flat_map-append entities_of ds (definitions_of f)));
    common = λ n. commons_gained own (definitions_of f) n ∙ ap (λ b. is_common (declared_names (definitions_of f)) (components n) || b) (same.common n)
        ∙ both (is_at (words_cmp (components n))) (flat_map commons_of ds) (flat_map commons_of (definitions_of f)) ∙ sym (ap (list_any (is_at (words_cmp (components n)))) (flat_map-append commons_of ds (definitions_of f)));
    action = λ u. any_map (is_at (uid_cmp (uid_in u))) uid_in (fold with_definition own (definitions_of f)).actions ∙ all_actions_gained own (definitions_of f) u
        ∙ ap (λ b. is_action (declared_names (definitions_of f)) (uid_in u) || b) (sym (any_map (is_at (uid_cmp (uid_in u))) uid_in own.actions) ∙ same.action u)
        ∙ both (is_at (uid_cmp (uid_in u))) (flat_map actions_of ds) (flat_map actions_of (definitions_of f)) ∙ sym (ap (list_any (is_at (uid_cmp (uid_in u)))) (flat_map-append actions_of ds (definitions_of f)));
  })
