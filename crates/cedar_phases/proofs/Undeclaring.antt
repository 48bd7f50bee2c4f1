-- SPDX-License-Identifier: Apache-2.0
-- From the names that code finds undeclared to those of the world.
use Rattle.std.proofs.Common.{◌≡◌, ◌++◌, ◌&&◌, true, false, cond, not, IsTrue, List, [], ◌∷◌, map, Option, Some, None, refl, sym, ap, ◌∙◌, subst}
use Rattle.std.proofs.lemmas.List.Elements.{filter_map-append}
use Rattle.std.specs.List.{filter, filter_map, flat_map}
use Rattle.cedar_data.specs.Firsts.{AllPass}
use Rattle.cedar_data.specs.Sets.{IsSetOf, contains}
use Rattle.cedar_declared.specs.Held.{names_of}
use Rattle.cedar_declared.specs.Names.{is_entity, target, targets}
use Rattle.cedar_declared.specs.declared.all_defs.AllDefs.{AllDefs}
use Rattle.cedar_names.specs.Components.{components, has_cedar}
use Rattle.cedar_names.specs.Order.{words_cmp}
use Rattle.cedar_names.specs.declared.entity_uid.EntityUID.{EntityUID}
use Rattle.cedar_names.specs.declared.extensions.Extensions.{Extensions}
use Rattle.cedar_names.specs.declared.internal_name.InternalName.{InternalName}
use Rattle.cedar_names.specs.declared.name.EntityType.{EntityType}
use Rattle.cedar_phases.specs.Holding.{Definition, Holds}
use Rattle.cedar_phases.specs.NotDeclared.{AreNotDeclared, other_targets, unless_entity}
use Rattle.cedar_phases.proofs.Agreeing.{same_entity, same_target}
use Rattle.cedar_phases.proofs.Contained.{all_members, and_left, of_contained}
use Rattle.cedar_phases.proofs.EntityReferences.{all_free, names_in_all}
use Rattle.cedar_phases.proofs.MembershipLists.{targets_flat}
use Rattle.cedar_phases.proofs.OtherTargets.{matter_behind, others_matter}
use Rattle.cedar_schema_error.specs.FullNames.{FullName, Uid}
use Rattle.cedar_schema_error.specs.NameReferences.{ActionReference, NameReference}
use Rattle.cedar_schema_error.specs.Refusals.{Refusal, UndeclaredEntityTypes}
use Rattle.cedar_schema_error.specs.Told.{told_use}
use Rattle.cedar_schema_error.specs.declared.use_place.UsePlace.{UsePlace}
use Rattle.cedar_sound.specs.Sound.{Passes, References, RefusesAt, UndeclaredTypes, Unfolding}
use Rattle.cedar_sound.proofs.NothingMissed.{applications_free, parents_free, pass_append, pass_flat, pass_weaker}
use Rattle.cedar_hierarchy.specs.of_outlines.Outlines.{ActionParts, EntityParts, action_outline, action_outline_in, entity_outline, entity_outline_in}
use Rattle.cedar_hierarchy.specs.of_outlines.declared.outlines.ActionOutline.{ActionOutline}
use Rattle.cedar_hierarchy.specs.of_outlines.declared.outlines.EntityOutline.{EntityOutline}
use Rattle.cedar_undeclared.specs.Undeclared.{IsUndeclaredAmong, full_types, is_free, names_of_entities, undeclared_refusal}
use Rattle.cedar_unfold.specs.Faults.{faults}
use Rattle.cedar_unfold.specs.Full.{by_place}
use Rattle.cedar_unfold.specs.Meanings.{is_common}
use Rattle.cedar_unfold.specs.Tables.{by_name}
use Rattle.cedar_unfold.specs.UnfoldPhases.{Unfoldable, UsePasses}
use Rattle.cedar_unfold.specs.Written.{Written}
use Rattle.cedar_unfold.specs.WrittenViews.{written_type}
use Rattle.cedar_qualified.specs.of_world.Definitions.{ActionDefinition, EntityDefinition, parents_of}
use Rattle.cedar_qualified.specs.of_world.Qualified.{QualifiesJob}
use Rattle.cedar_qualified.specs.of_world.Undeclared.{IsUndeclared, all_entity_references, applications, entity_parents, entity_references, references_to_entities}
use Rattle.cedar_qualified.specs.of_world.Worlds.{World, actions, all_namespaces, common_types, entity_types, job, meanings, names, uses}
use Rattle.cedar_written.specs.declared.ty.SchemaType.{SchemaType}

-- the keys of types don't matter for the names in them
same_names : {K J T N : Type 0} (key : K → J) (f : T → Written N) (es : List (K × T)) → all_entity_references (map (λ e. (e.0, f e.1)) es) ≡ all_entity_references (map (λ e. (key e.0, f e.1)) es)
same_names key f [] = refl
same_names key f (e ∷ es) = ap (λ l. entity_references (f e.1) ++ l) (same_names key f es)

through_map : {A B C : Type 0} (h : A → B) (g : B → List C) (xs : List A) → flat_map (λ x. g (h x)) xs ≡ flat_map g (map h xs)
through_map h g [] = refl
through_map h g (x ∷ xs) = ap (λ l. g (h x) ++ l) (through_map h g xs)

-- all names of a list are kept, where all are free
all_kept : (ns : List FullName) → AllPass (λ n. has_cedar n ≡ false) ns → filter is_free ns ≡ ns
all_kept [] all = refl
all_kept (n ∷ ns) all = ap (λ b. cond (not b) (n ∷ filter is_free ns) (filter is_free ns)) all.0 ∙ ap (λ l. n ∷ l) (all_kept ns all.1)

module _ (W : World) (all_defs : AllDefs) (ds : List Definition) (X : Extensions) (h : Holds W all_defs ds X)
    (full : List (InternalName × SchemaType InternalName)) (full_uses : List (UsePlace × SchemaType InternalName)) (others : List InternalName)
    (q : QualifiesJob (job W) (by_name (written_type components) full) (by_place (written_type components) full_uses))
    (types : List (EntityType × EntityOutline)) (acts : List (EntityUID × ActionOutline))
    (types_are : map entity_outline_in types ≡ map entity_outline (entity_types W)) (acts_are : map action_outline_in acts ≡ map action_outline (actions W))
    (members_are : map components others ≡ other_targets (names_of all_defs) (flat_map (λ e. e.1.parents) (map entity_outline_in types)) ++ other_targets (names_of all_defs) (flat_map (λ a. a.1.principals ++ a.1.resources) (map action_outline_in acts))) where
  same : target (names_of all_defs) ≡ target (names W)
  same = same_target (names_of all_defs) (names W) h.names_agree

  parents_same : flat_map (λ e. e.1.parents) (map entity_outline_in types) ≡ entity_parents (entity_types W)
  parents_same = ap (flat_map (λ (e : FullName × EntityParts). e.1.parents)) types_are ∙ sym (through_map entity_outline (λ (e : FullName × EntityParts). e.1.parents) (entity_types W))

  applications_same : flat_map (λ a. a.1.principals ++ a.1.resources) (map action_outline_in acts) ≡ applications (actions W)
  applications_same = ap (flat_map (λ (a : Uid × ActionParts). a.1.principals ++ a.1.resources)) acts_are ∙ sym (through_map action_outline (λ (a : Uid × ActionParts). a.1.principals ++ a.1.resources) (actions W))

  abbrev memberships : List NameReference
  memberships = entity_parents (entity_types W) ++ applications (actions W)

  -- all names that must be entity types
  abbrev given : List FullName
  given = all_entity_references (full_types full) ++ (all_entity_references (full_types full_uses) ++ targets (names_of all_defs) memberships)

  given_same : given ≡ targets (names W) (references_to_entities W)
  given_same =
      let commons : all_entity_references (full_types full) ≡ targets (names W) (all_entity_references (common_types W)) =
      same_names components (written_type components) full ∙ sym (names_in_all (target (names W)) (common_types W) (by_name (written_type components) full) q.commons_are) in
      let used : all_entity_references (full_types full_uses) ≡ targets (names W) (all_entity_references (uses W)) =
      same_names told_use (written_type components) full_uses ∙ sym (names_in_all (target (names W)) (uses W) (by_place (written_type components) full_uses) q.uses_are) in
      let rest : targets (names_of all_defs) memberships ≡ targets (names W) memberships = ap (λ (t : NameReference → Option FullName). filter_map t memberships) same in
      (λ i. commons i ++ (used i ++ rest i))
      ∙ ap (λ l. targets (names W) (all_entity_references (common_types W)) ++ l) (sym (filter_map-append (target (names W)) (all_entity_references (uses W)) memberships))
      ∙ sym (filter_map-append (target (names W)) (all_entity_references (common_types W)) (all_entity_references (uses W) ++ memberships))

  -- the memberships that are given
  others_are : map components others ≡ other_targets (names_of all_defs) memberships
  others_are =
      members_are
      ∙ (λ i. other_targets (names_of all_defs) (parents_same i) ++ other_targets (names_of all_defs) (applications_same i))
      ∙ sym (filter_map-append (λ r. unless_entity (names_of all_defs) (target (names_of all_defs) r)) (entity_parents (entity_types W)) (applications (actions W)))

  undeclared_at : (n : FullName) → (contains words_cmp (names_of_entities full full_uses others) n && not (is_entity (names_of all_defs) n)) ≡ (contains words_cmp given n && not (is_entity (names_of all_defs) n))
  undeclared_at n =
      ap (λ l. contains words_cmp (all_entity_references (full_types full) ++ (all_entity_references (full_types full_uses) ++ l)) n && not (is_entity (names_of all_defs) n)) others_are
      ∙ matter_behind (names_of all_defs) n (all_entity_references (full_types full)) (all_entity_references (full_types full_uses) ++ other_targets (names_of all_defs) memberships) (all_entity_references (full_types full_uses) ++ targets (names_of all_defs) memberships)
      (matter_behind (names_of all_defs) n (all_entity_references (full_types full_uses)) (other_targets (names_of all_defs) memberships) (targets (names_of all_defs) memberships) (others_matter (names_of all_defs) n memberships))

  undeclared_same : IsUndeclaredAmong (names_of all_defs) (names_of_entities full full_uses others) ≡ IsUndeclared W
  undeclared_same =
      (λ i n. IsTrue (undeclared_at n i))
      ∙ (λ i n. IsTrue (contains words_cmp (given_same i) n && not (same_entity (names_of all_defs) (names W) h.names_agree i n)))

  module _ (ns : List FullName) (are : AreNotDeclared (names_of all_defs) full full_uses others ns) where
    set_is : IsSetOf words_cmp (IsUndeclared W) ns
    set_is = subst (λ P. IsSetOf words_cmp P ns) undeclared_same are

    module _ (references : Passes W References) (unfolding_passes : Passes W Unfolding) where
      commons_faultless : AllPass (λ c. faults (meanings W) c.1 ≡ []) (common_types W)
      unfolding Unfoldable
      commons_faultless = unfolding_passes.1.0

      uses_faultless : AllPass (λ u. faults (meanings W) u.1 ≡ []) (uses W)
      unfolding Unfoldable
      uses_faultless = pass_weaker (UsePasses (meanings W)) (λ u. faults (meanings W) u.1 ≡ []) (λ u p. p.faultless) (uses W) unfolding_passes.1.1.1.0

      free_list : (xs ys : List NameReference) → AllPass (λ n. has_cedar n ≡ false) (targets (names W) xs) → AllPass (λ n. has_cedar n ≡ false) (targets (names W) ys) → AllPass (λ n. has_cedar n ≡ false) (targets (names W) (xs ++ ys))
      free_list xs ys a b = subst (AllPass (λ n. has_cedar n ≡ false)) (sym (filter_map-append (target (names W)) xs ys)) (pass_append (λ n. has_cedar n ≡ false) (targets (names W) xs) (targets (names W) ys) a b)

      parents_unreserved : AllPass (λ n. has_cedar n ≡ false) (targets (names W) (entity_parents (entity_types W)))
      parents_unreserved = subst (AllPass (λ n. has_cedar n ≡ false)) (targets_flat (names W) (λ (e : FullName × EntityDefinition NameReference). parents_of e.1) (entity_types W))
          (pass_flat (λ n. has_cedar n ≡ false) (λ e. targets (names W) (parents_of e.1)) (entity_types W) (parents_free (names W) (all_namespaces W) references.1.1.0))

      applications_unreserved : AllPass (λ n. has_cedar n ≡ false) (targets (names W) (applications (actions W)))
      applications_unreserved = subst (AllPass (λ n. has_cedar n ≡ false)) (targets_flat (names W) (λ (a : Uid × ActionDefinition NameReference ActionReference). a.1.principals ++ a.1.resources) (actions W))
          (pass_flat (λ n. has_cedar n ≡ false) (λ a. targets (names W) (a.1.principals ++ a.1.resources)) (actions W)
          (pass_weaker (λ a. AllPass (λ n. has_cedar n ≡ false) (targets (names W) a.1.principals) × AllPass (λ n. has_cedar n ≡ false) (targets (names W) a.1.resources))
          (λ a. AllPass (λ n. has_cedar n ≡ false) (targets (names W) (a.1.principals ++ a.1.resources))) (λ a f. free_list a.1.principals a.1.resources f.0 f.1) (actions W)
          (applications_free (names W) (all_namespaces W) references.1.1.0)))

      all_unreserved : AllPass (λ n. has_cedar n ≡ false) (targets (names W) (references_to_entities W))
      all_unreserved =
          free_list (all_entity_references (common_types W)) (all_entity_references (uses W) ++ (entity_parents (entity_types W) ++ applications (actions W)))
          (all_free (target (names W)) (is_common (meanings W)) (meanings W).is_extension (common_types W) commons_faultless)
          (free_list (all_entity_references (uses W)) (entity_parents (entity_types W) ++ applications (actions W))
          (all_free (target (names W)) (is_common (meanings W)) (meanings W).is_extension (uses W) uses_faultless)
          (free_list (entity_parents (entity_types W)) (applications (actions W)) parents_unreserved applications_unreserved))

      member_free : (n : FullName) → IsTrue (contains words_cmp ns n) → has_cedar n ≡ false
      member_free n here = of_contained (λ n. has_cedar n ≡ false) (targets (names W) (references_to_entities W)) n all_unreserved
          (and_left (contains words_cmp (targets (names W) (references_to_entities W)) n) (not (is_entity (names W) n)) ((set_is.members n).0 here))

      kept : filter is_free ns ≡ ns
      kept = all_kept ns (all_members (λ n. has_cedar n ≡ false) ns ns member_free (λ n h. h))

      -- none is undeclared where none is told
      pub undeclared_passes : undeclared_refusal (filter is_free ns) ≡ None → Passes W UndeclaredTypes
      undeclared_passes none = by ns set_is (sym (ap undeclared_refusal kept) ∙ none)
        where
          by : (ns : List FullName) → IsSetOf words_cmp (IsUndeclared W) ns → undeclared_refusal ns ≡ None → Passes W UndeclaredTypes
          by [] s e = λ name undeclared. absurd (no_true ((s.members name).1 undeclared))
            where
              no_true : false ≡ true → ⊥
              no_true e = absurd (cc)
          by (n ∷ ns) s e = absurd (cc)

      -- all are told, where some are
      pub undeclared_refuses : (e : Refusal) → undeclared_refusal (filter is_free ns) ≡ Some e → RefusesAt W UndeclaredTypes e
      undeclared_refuses e some = by ns set_is (sym (ap undeclared_refusal kept) ∙ some)
        where
          inside : (x y : Refusal) → Some x ≡ Some y → x ≡ y
          inside x y e = cc

          by : (ns : List FullName) → IsSetOf words_cmp (IsUndeclared W) ns → undeclared_refusal ns ≡ Some e → RefusesAt W UndeclaredTypes e
          by [] s e = absurd (cc)
          by (n ∷ ns) s is = (n, ns, sym (inside (UndeclaredEntityTypes n ns) e is), s)
