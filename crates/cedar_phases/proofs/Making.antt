-- SPDX-License-Identifier: Apache-2.0
-- From the entity types and actions that are made to those that the world denotes.
use Rattle.std.proofs.Common.{◌≡◌, ◌&&◌, ℕ, false, not, IsTrue, List, [], ◌∷◌, map, Option, Some, None, refl, sym, ap, ◌∙◌, subst}
use Rattle.std.specs.List.{AllZip, filter_map, flat_map}
use Rattle.std.specs.Option.{option_map}
use Rattle.cedar_data.specs.Firsts.{AllPass}
use Rattle.cedar_data.specs.Maps.{IsSortedMap, get}
use Rattle.cedar_data.specs.Sets.{IsSetOf, contains}
use Rattle.cedar_declared.specs.Held.{names_of}
use Rattle.cedar_declared.specs.Names.{Names, action_target, target, targets}
use Rattle.cedar_declared.specs.declared.all_defs.AllDefs.{AllDefs}
use Rattle.cedar_hierarchy.specs.Made.{MakesAction, MakesEntity, context_at_use, entity_attributes, entity_kind}
use Rattle.cedar_hierarchy.specs.Outlined.{ActionOutlineDescends, OutlineDescends}
use Rattle.cedar_hierarchy.specs.Uses.{Uses, record_at_use, type_at_use}
use Rattle.cedar_names.specs.Components.{has_cedar}
use Rattle.cedar_names.specs.Names.{entity_words}
use Rattle.cedar_names.specs.Order.{words_cmp}
use Rattle.cedar_names.specs.declared.entity_uid.EntityUID.{EntityUID}
use Rattle.cedar_names.specs.declared.extensions.Extensions.{Extensions}
use Rattle.cedar_names.specs.declared.name.EntityType.{EntityType}
use Rattle.cedar_phases.specs.Holding.{Definition, Holds}
use Rattle.cedar_checks.specs.SchemaViews.{FitsKind, action_in, entity_in, kind_of}
use Rattle.cedar_phases.proofs.Agreeing.{same_action_target, same_target}
use Rattle.cedar_phases.proofs.Chained.{set_there, zip_through}
use Rattle.cedar_phases.proofs.Contained.{and_both, and_left, of_contained}
use Rattle.cedar_phases.proofs.Descending.{action_descends_back, action_descends_there, descends_back, descends_there}
use Rattle.cedar_phases.proofs.Records.{record_view}
use Rattle.cedar_phases.proofs.UsesMade.{context_made, no_use_made, shape_made, use_made}
use Rattle.cedar_resolved.specs.Schemas.{action_context, action_name, action_principals, action_resources, type_attributes, type_name}
use Rattle.cedar_resolved.specs.declared.action.ValidatorActionId.{ValidatorActionId}
use Rattle.cedar_resolved.specs.declared.entity_type.ValidatorEntityType.{ValidatorEntityType}
use Rattle.cedar_resolved.specs.declared.kind.ValidatorEntityTypeKind.{ValidatorEntityTypeKind}
use Rattle.cedar_schema_error.specs.FullNames.{FullName, Uid, uid_cmp, uid_in}
use Rattle.cedar_schema_error.specs.NameReferences.{ActionReference, NameReference}
use Rattle.cedar_schema_error.specs.declared.use_place.UsePlace.TheVariants as place
use Rattle.cedar_sound.proofs.NameOrders.{names_exact, uids_exact}
use Rattle.cedar_sound.proofs.NothingMissed.{AreFree}
use Rattle.cedar_sound.proofs.SortedMaps.{found-each, sorted-map_of}
use Rattle.cedar_sound.proofs.UsesFound.{context_found, no_tags_found, shape_found, tags_found}
use Rattle.cedar_hierarchy.specs.of_outlines.Outlines.{ActionParts, EntityParts, action_outline, action_outline_in, choices_of, entity_outline, entity_outline_in}
use Rattle.cedar_hierarchy.specs.of_outlines.declared.outlines.ActionOutline.{ActionOutline}
use Rattle.cedar_hierarchy.specs.of_outlines.declared.outlines.EntityOutline.{EntityOutline}
use Rattle.cedar_text.specs.Lists.{elements}
use Rattle.cedar_text.specs.declared.non_empty.NonEmpty.{NonEmpty}
use Rattle.cedar_types.specs.Types.{entries}
use Rattle.cedar_types.specs.declared.ty.Attributes.{Attributes}
use Rattle.cedar_types.specs.declared.ty.ResolvedType.{ResolvedType}
use Rattle.cedar_unfold.specs.Full.{by_place}
use Rattle.cedar_unfold.specs.Resolved.{Record}
use Rattle.cedar_unfold.specs.ResolvedViews.{is_open, resolved, resolved_map}
use Rattle.cedar_unfold.specs.UnfoldPhases.{UnfoldsAt, UsePasses}
use Rattle.cedar_unfold.specs.Unfolds.{Unfolds}
use Rattle.cedar_unfold.specs.Written.{Written}
use Rattle.cedar_qualified.specs.of_world.Definitions.{ActionDefinition, EntityDefinition, Enumerated, Standard}
use Rattle.cedar_qualified.specs.of_world.Denotes.{AreTargets, DenotesAction, DenotesEntity, DenotesKind, DenotesTags}
use Rattle.cedar_qualified.specs.of_world.Descents.{ActionDescendsFrom, DescendsFrom}
use Rattle.cedar_qualified.specs.of_world.Worlds.{World, actions, all_namespaces, entity_types, job, meanings, names, uses}

same_inside : {A : Type 0} (x y : A) → Some x ≡ Some y → x ≡ y
same_inside x y e = cc

no_some : {A : Type 0} (x : A) → Some x ≡ None → ⊥
no_some x e = absurd (cc)

no_none : {A : Type 0} (x : A) → None ≡ Some x → ⊥
no_none x e = absurd (cc)

module _ (W : World) (all_defs : AllDefs) (ds : List Definition) (X : Extensions) (h : Holds W all_defs ds X)
    (used : Uses) (unfolded : AllZip (UnfoldsAt (job W)) (uses W) (by_place resolved used)) (passes : AllPass (UsePasses (meanings W)) (uses W)) where
  types_sorted : IsSortedMap words_cmp (entity_types W)
  types_sorted = sorted-map_of names_exact.total (flat_map (λ ns. ns.entity_types) (all_namespaces W))

  actions_sorted : IsSortedMap uid_cmp (actions W)
  actions_sorted = sorted-map_of uids_exact.total (flat_map (λ ns. ns.actions) (all_namespaces W))

  -- ---- entity types

  module _ (name : EntityType) where
    -- tags
    tags_by : (parents : List NameReference) (shape : Written NameReference) (tags : Option (Written NameReference)) → get words_cmp (entity_types W) (entity_words name) ≡ Some (Standard parents shape tags)
        → DenotesTags W tags (option_map resolved (type_at_use used (place.Tags name)))
    tags_by parents shape None got =
        subst (λ o. DenotesTags W None (option_map resolved o))
        (sym (no_use_made W used unfolded (place.Tags name) (no_tags_found (entity_types W) (actions W) (entity_words name) (Standard parents shape None) types_sorted got refl))) tt
    tags_by parents shape (Some t) got =
        let made = use_made W used unfolded (place.Tags name) t (tags_found (entity_types W) (actions W) (entity_words name) (Standard parents shape (Some t)) t got refl) in
        subst (λ o. DenotesTags W (Some t) (option_map resolved o)) (sym made.1) made.2

    -- attributes
    shape_by : (parents : List NameReference) (shape : Written NameReference) (tags : Option (Written NameReference)) → get words_cmp (entity_types W) (entity_words name) ≡ Some (Standard parents shape tags)
        → Unfolds (meanings W) shape (Record (resolved_map (entries (record_at_use (type_at_use used (place.Shape name))).0)) (is_open (record_at_use (type_at_use used (place.Shape name))).1))
    shape_by parents shape tags got =
        let made = shape_made W used unfolded passes name shape (shape_found (entity_types W) (actions W) (entity_words name) (Standard parents shape tags) shape got refl) in
        subst (λ o. Unfolds (meanings W) shape (Record (resolved_map (entries (record_at_use o).0)) (is_open (record_at_use o).1))) (sym made.1)
        (subst (Unfolds (meanings W) shape) (record_view made.0 made.3) made.2)

    kind_by : (d : EntityDefinition NameReference) (choices : Option (NonEmpty (List ℕ))) (attributes : Attributes) (kind : ValidatorEntityTypeKind)
        → option_map elements choices ≡ choices_of d → get words_cmp (entity_types W) (entity_words name) ≡ Some d
        → attributes ≡ entity_attributes used name choices → kind ≡ entity_kind used name choices → DenotesKind W d (kind_of attributes kind)
    kind_by (Enumerated ids) None attributes kind e got as' ks = absurd (no_none ids e)
    kind_by (Enumerated ids) (Some given) attributes kind e got as' ks =
        subst (λ k. DenotesKind W (Enumerated ids) (kind_of attributes k)) (sym ks) (same_inside (elements given) ids e)
    kind_by (Standard parents shape tags) (Some given) attributes kind e got as' ks = absurd (no_some (elements given) e)
    kind_by (Standard parents shape tags) None attributes kind e got as' ks =
        subst (λ k. DenotesKind W (Standard parents shape tags) (kind_of attributes k)) (sym ks) (
          subst (λ (as' : Attributes). Unfolds (meanings W) shape (Record (resolved_map (entries as')) (is_open (record_at_use (type_at_use used (place.Shape name))).1))) (sym as') (shape_by parents shape tags got),
          tags_by parents shape tags got,
        )

  module _ (types : List (EntityType × EntityOutline)) (types_are : map entity_outline_in types ≡ map entity_outline (entity_types W)) where
    entity_denoted : (o : EntityType × EntityOutline) (d : FullName × EntityDefinition NameReference) (m : EntityType × ValidatorEntityType) → entity_outline_in o ≡ entity_outline d
        → get words_cmp (entity_types W) d.0 ≡ Some d.1 → MakesEntity (names_of all_defs) (map entity_outline_in types) used o m → DenotesEntity W d (entity_in m)
    entity_denoted o d m e got made =
        let named : entity_words o.0 ≡ d.0 = ap (λ x. x.0) e in
        let same : target (names_of all_defs) ≡ target (names W) = same_target (names_of all_defs) (names W) h.names_agree in
        record {
          named = ap entity_words made.described.key ∙ named;
          descendants = subst (λ n. IsSetOf words_cmp (DescendsFrom W n) (map entity_words m.1.descendants)) named
              (set_there words_cmp (OutlineDescends (names_of all_defs) (map entity_outline_in types) (entity_words o.0)) (DescendsFrom W (entity_words o.0))
              (descends_there W (names_of all_defs) same (map entity_outline_in types) types_are (entity_words o.0))
              (descends_back W (names_of all_defs) same (map entity_outline_in types) types_are (entity_words o.0)) (map entity_words m.1.descendants) made.descendants);
          kind = kind_by o.0 d.1 o.1.choices (type_attributes m.1) m.1.kind (ap (λ x. x.1.choices) e) (ap (get words_cmp (entity_types W)) named ∙ got) made.described.attributes made.described.kind;
        }

    -- the entity types are those that are denoted
    pub entities_denoted : (made : List (EntityType × ValidatorEntityType)) → AllZip (MakesEntity (names_of all_defs) (map entity_outline_in types) used) types made → AllZip (DenotesEntity W) (entity_types W) (map entity_in made)
    entities_denoted made zip = zip_through entity_outline_in entity_outline entity_in (λ d. get words_cmp (entity_types W) d.0 ≡ Some d.1) (MakesEntity (names_of all_defs) (map entity_outline_in types) used) (DenotesEntity W)
        entity_denoted types (entity_types W) made types_are (found-each names_exact.total (entity_types W) types_sorted) zip

  -- ---- actions

  -- what an action applies to
  applies_to : (refs : List NameReference) (ns : List FullName) → AreFree (names W) (targets (names W) refs)
      → IsSetOf words_cmp (λ n. IsTrue (contains words_cmp (targets (names_of all_defs) refs) n && not (has_cedar n))) ns → AreTargets W refs ns
  applies_to refs ns free set =
      let same : target (names_of all_defs) ≡ target (names W) = same_target (names_of all_defs) (names W) h.names_agree in
      set_there words_cmp (λ n. IsTrue (contains words_cmp (targets (names W) refs) n && not (has_cedar n))) (λ n. IsTrue (contains words_cmp (targets (names W) refs) n))
      (λ n both. and_left (contains words_cmp (targets (names W) refs) n) (not (has_cedar n)) both)
      (λ n here. and_both (contains words_cmp (targets (names W) refs) n) (not (has_cedar n)) here (ap not (of_contained (λ n. has_cedar n ≡ false) (targets (names W) refs) n free here))) ns
      (subst (λ (t : NameReference → Option FullName). IsSetOf words_cmp (λ n. IsTrue (contains words_cmp (filter_map t refs) n && not (has_cedar n))) ns) same set)

  module _ (acts : List (EntityUID × ActionOutline)) (acts_are : map action_outline_in acts ≡ map action_outline (actions W)) where
    abbrev pub Free : Uid × ActionDefinition NameReference ActionReference → Type 0
    Free d = AreFree (names W) (targets (names W) d.1.principals) × AreFree (names W) (targets (names W) d.1.resources)

    abbrev pub Known : Uid × ActionDefinition NameReference ActionReference → Type 0
    Known d = (get uid_cmp (actions W) d.0 ≡ Some d.1) × Free d

    context_by : (u : EntityUID) (context : ResolvedType) (d : ActionDefinition NameReference ActionReference) → get uid_cmp (actions W) (uid_in u) ≡ Some d
        → context ≡ context_at_use (type_at_use used (place.Context u)) → Unfolds (meanings W) d.context (resolved context)
    context_by u context d got is =
        let made = context_made W used unfolded passes u d.context (context_found (entity_types W) (actions W) (uid_in u) d got) in
        subst (λ t. Unfolds (meanings W) d.context (resolved t)) (sym (is ∙ ap context_at_use made.1)) made.2

    action_denoted : (o : EntityUID × ActionOutline) (d : Uid × ActionDefinition NameReference ActionReference) (m : EntityUID × ValidatorActionId) → action_outline_in o ≡ action_outline d
        → Known d → MakesAction (names_of all_defs) (map action_outline_in acts) used o m → DenotesAction W d (action_in m)
    action_denoted o d m e known made =
        let named : uid_in o.0 ≡ d.0 = ap (λ x. x.0) e in
        let same : action_target (names_of all_defs) ≡ action_target (names W) = same_action_target (names_of all_defs) (names W) h.names_agree in
        record {
          named = ap uid_in made.described.key ∙ named;
          principals = applies_to d.1.principals (map entity_words (action_principals m.1)) known.1.0
              (subst (λ refs. IsSetOf words_cmp (λ n. IsTrue (contains words_cmp (targets (names_of all_defs) refs) n && not (has_cedar n))) (map entity_words (action_principals m.1))) (ap (λ x. x.1.principals) e) made.described.principals);
          resources = applies_to d.1.resources (map entity_words (action_resources m.1)) known.1.1
              (subst (λ refs. IsSetOf words_cmp (λ n. IsTrue (contains words_cmp (targets (names_of all_defs) refs) n && not (has_cedar n))) (map entity_words (action_resources m.1))) (ap (λ x. x.1.resources) e) made.described.resources);
          context = context_by o.0 (action_context m.1) d.1 (ap (get uid_cmp (actions W)) named ∙ known.0) made.described.context;
          attribute_types = made.described.attribute_types ∙ ap (λ x. x.1.attribute_types) e;
          attributes = made.described.attributes ∙ ap (λ x. x.1.attributes) e;
          descendants = subst (λ u. IsSetOf uid_cmp (ActionDescendsFrom W u) (action_in m).1.descendants) named
              (set_there uid_cmp (ActionOutlineDescends (names_of all_defs) (map action_outline_in acts) (uid_in o.0)) (ActionDescendsFrom W (uid_in o.0))
              (action_descends_there W (names_of all_defs) same (map action_outline_in acts) acts_are (uid_in o.0))
              (action_descends_back W (names_of all_defs) same (map action_outline_in acts) acts_are (uid_in o.0)) (action_in m).1.descendants made.descendants);
        }

    both_pass : {A : Type 0} (P Q : A → Type 0) (xs : List A) → AllPass P xs → AllPass Q xs → AllPass (λ x. P x × Q x) xs
    both_pass P Q [] p q = tt
    both_pass P Q (x ∷ xs) p q = ((p.0, q.0), both_pass P Q xs p.1 q.1)

    -- the actions are those that are denoted
    pub actions_denoted : AllPass Free (actions W) → (made : List (EntityUID × ValidatorActionId)) → AllZip (MakesAction (names_of all_defs) (map action_outline_in acts) used) acts made → AllZip (DenotesAction W) (actions W) (map action_in made)
    actions_denoted free made zip = zip_through action_outline_in action_outline action_in Known (MakesAction (names_of all_defs) (map action_outline_in acts) used) (DenotesAction W)
        action_denoted acts (actions W) made acts_are (both_pass (λ d. get uid_cmp (actions W) d.0 ≡ Some d.1) Free (actions W) (found-each uids_exact.total (actions W) actions_sorted) free) zip

-- each stands under its name
pub types_named : (declared : Names) (os : List (FullName × EntityParts)) (used : Uses) (types : List (EntityType × EntityOutline)) (made : List (EntityType × ValidatorEntityType)) → AllZip (MakesEntity declared os used) types made → AllPass (λ e. type_name e.1 ≡ e.0) made
types_named declared os used [] [] z = tt
types_named declared os used [] (m ∷ made) z = absurd z
types_named declared os used (t ∷ types) [] z = absurd z
types_named declared os used (t ∷ types) (m ∷ made) z = (z.0.described.named ∙ sym z.0.described.key, types_named declared os used types made z.1)

-- each fits its kind
fits_kind : (used : Uses) (name : EntityType) (choices : Option (NonEmpty (List ℕ))) (attributes : Attributes) (kind : ValidatorEntityTypeKind)
    → attributes ≡ entity_attributes used name choices → kind ≡ entity_kind used name choices → FitsKind attributes kind
fits_kind used name None attributes kind as' ks = subst (FitsKind attributes) (sym ks) tt
fits_kind used name (Some ids) attributes kind as' ks = subst (FitsKind attributes) (sym ks) as'

pub types_fit : (declared : Names) (os : List (FullName × EntityParts)) (used : Uses) (types : List (EntityType × EntityOutline)) (made : List (EntityType × ValidatorEntityType))
    → AllZip (MakesEntity declared os used) types made → AllPass (λ e. FitsKind (type_attributes e.1) e.1.kind) made
types_fit declared os used [] [] z = tt
types_fit declared os used [] (m ∷ made) z = absurd z
types_fit declared os used (t ∷ types) [] z = absurd z
types_fit declared os used (t ∷ types) (m ∷ made) z =
    (fits_kind used t.0 t.1.choices (type_attributes m.1) m.1.kind z.0.described.attributes z.0.described.kind, types_fit declared os used types made z.1)

pub actions_named : (declared : Names) (os : List (Uid × ActionParts)) (used : Uses) (acts : List (EntityUID × ActionOutline)) (made : List (EntityUID × ValidatorActionId)) → AllZip (MakesAction declared os used) acts made → AllPass (λ a. action_name a.1 ≡ a.0) made
actions_named declared os used [] [] z = tt
actions_named declared os used [] (m ∷ made) z = absurd z
actions_named declared os used (a ∷ acts) [] z = absurd z
actions_named declared os used (a ∷ acts) (m ∷ made) z = (z.0.described.named ∙ sym z.0.described.key, actions_named declared os used acts made z.1)
