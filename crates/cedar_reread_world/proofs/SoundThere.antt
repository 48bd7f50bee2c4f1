-- SPDX-License-Identifier: Apache-2.0
-- Where a world is sound and can be printed, the world that is read again is sound, and denotes the same schema.
use Rattle.std.proofs.Common.{◌≡◌, ◌++◌, true, List, map, Option, Some, None, refl, sym, ap, ◌∙◌, subst}
use Rattle.std.specs.List.{flat_map}
use Rattle.cedar_data.specs.Firsts.{AllPass}
use Rattle.cedar_data.specs.Sets.{IsSetOf, contains}
use Rattle.cedar_declared.specs.Names.{Names, targets}
use Rattle.cedar_names.specs.Order.{words_cmp}
use Rattle.cedar_reread_world.specs.Rewritten.{ActionRewritten, EntityRewritten, NamespacesRewritten, Printable, SameKey, TagsRewritten, enumerated, no_tags, standard, tags}
use Rattle.cedar_reread_world.proofs.DescentsKept.{action_descendants_there, cycles_there, descendants_there}
use Rattle.cedar_reread_world.proofs.JobCarried.{commons_unfold, job_there, uses_pass}
use Rattle.cedar_reread_world.proofs.ReferencesKept.{once_there, references_there}
use Rattle.cedar_reread_world.proofs.SameNames.{actions_related, names_same, own_same, types_related}
use Rattle.cedar_reread_world.proofs.TypesCarried.{carried, shape_carried}
use Rattle.cedar_reread_world.proofs.UndeclaredKept.{undeclared_there}
use Rattle.cedar_reread_world.proofs.Zipped.{zip_beside, zip_through}
use Rattle.cedar_schema_error.specs.FullNames.{FullName, Uid, uid_cmp}
use Rattle.cedar_schema_error.specs.NameReferences.{ActionReference, NameReference}
use Rattle.cedar_schema_error.specs.Refusals.{Context, Shape, Tags}
use Rattle.cedar_shadowing.specs.Shadowing.{NoPair, ShadowPasses, ShadowsType, shadow_phases}
use Rattle.cedar_sound.proofs.NothingMissed.{pass_right, pass_unmap}
use Rattle.cedar_sound.specs.Sound.{Sound}
use Rattle.cedar_unfold.proofs.OneUnfolding.{one_type}
use Rattle.cedar_unfold.specs.Resolved.{Resolved, is_record}
use Rattle.cedar_unfold.specs.Resolved as resolved
use Rattle.cedar_unfold.specs.UnfoldPhases.{UnfoldsWithin, Unfoldable, UsePasses}
use Rattle.cedar_unfold.specs.Written.{Written}
use Rattle.cedar_world.specs.Definitions.{ActionDefinition, EntityDefinition, shape_of, tags_of}
use Rattle.cedar_world.specs.Denotes.{AreTargets, Denotes, DenotesAction, DenotesEntity, DenotesKind, DenotesTags}
use Rattle.cedar_world.specs.Descents.{ActionDescendsFrom, DescendsFrom}
use Rattle.cedar_world.specs.Schemas.{EntityKind, EnumeratedKind, Schema, SchemaAction, SchemaEntity, StandardKind}
use Rattle.cedar_world.specs.Worlds.{World, actions, common_types, entity_types, job, meanings, names, own, uses}

-- what the phase of unfolding says of common types and of uses
commons_of : (W : World) → Unfoldable (job W) → AllPass (λ c. UnfoldsWithin (meanings W) c.1) (common_types W)
unfolding Unfoldable
commons_of W h = h.1.1.0

uses_of : (W : World) → Unfoldable (job W) → AllPass (UsePasses (meanings W)) (uses W)
unfolding Unfoldable
uses_of W h = h.1.1.1.0

-- the world that is read again is sound
pub reread_sound : (W V : World) → V.extensions ≡ W.extensions → NamespacesRewritten W.namespaces V.namespaces → Printable W → Sound W → Sound V
unfolding Sound
reread_sound W V same_extensions rewrites printable h =
    let apart : NoPair (ShadowsType (own W)) = h.0.0 in
    let once = once_there W V same_extensions rewrites h.1.1.0 in
    let commons = commons_unfold W V same_extensions rewrites printable apart (commons_of W h.1.1.1.0) in
    let passes = uses_pass W V same_extensions rewrites printable apart (uses_of W h.1.1.1.0) in (
      subst (λ (o : Names). AllPass (ShadowPasses o) shadow_phases) (sym (own_same W V same_extensions rewrites)) h.0,
      (
        references_there W V same_extensions rewrites once commons passes h.1.0,
        (
          once,
          (
            job_there W V same_extensions rewrites printable apart h.1.1.1.0,
            (
              cycles_there W V same_extensions rewrites h.1.1.1.1.0,
              (undeclared_there W V same_extensions rewrites h.1.1.1.1.1.0, tt),
            ),
          ),
        ),
      ),
    )

module _ (W V : World) (same_extensions : V.extensions ≡ W.extensions) (rewrites : NamespacesRewritten W.namespaces V.namespaces)
    (printable : Printable W) (apart : NoPair (ShadowsType (own W))) (passes : AllPass (UsePasses (meanings W)) (uses W)) where
  tags_there : (s t : Option (Written NameReference)) (T : Option Resolved) → TagsRewritten s t → DenotesTags W s T → DenotesTags V t T
  tags_there _ _ None no_tags h = tt
  tags_there _ _ (Some T) no_tags h = absurd h
  tags_there _ _ None (tags r) h = absurd h
  tags_there _ _ (Some T) (tags {t} {u} r) h = carried W V same_extensions rewrites printable apart t u T h r

  kind_there : (d e : EntityDefinition NameReference) (k : EntityKind) → EntityRewritten d e → DenotesKind W d k → DenotesKind V e k
  kind_there _ _ (StandardKind parts is_open T) (standard {t = t} {u} {old} {new} s r) h =
      (shape_carried W V same_extensions rewrites printable apart t u (resolved.Record parts is_open) h.0 refl s, tags_there old new T r h.1)
  kind_there _ _ (EnumeratedKind ids) (standard s r) h = absurd h
  kind_there _ _ (StandardKind parts is_open T) enumerated h = absurd h
  kind_there _ _ (EnumeratedKind others) enumerated h = h

  entity_there : (d e : FullName × EntityDefinition NameReference) (m : FullName × SchemaEntity) → SameKey EntityRewritten d e → DenotesEntity W d m → DenotesEntity V e m
  entity_there d e m r h = record {
    named = h.named ∙ sym r.key;
    descendants = subst (λ n. IsSetOf words_cmp (DescendsFrom V n) m.1.descendants) (sym r.key) (descendants_there W V same_extensions rewrites d.0 m.1.descendants h.descendants);
    kind = kind_there d.1 e.1 m.1.kind r.value h.kind;
  }

  targets_there : (rs ss : List NameReference) (ns : List FullName) → ss ≡ rs → AreTargets W rs ns → AreTargets V ss ns
  targets_there rs ss ns is h = subst (λ (N : Names). IsSetOf words_cmp (λ n. contains words_cmp (targets N ss) n ≡ true) ns) (sym (names_same W V same_extensions rewrites))
      (subst (λ rs. IsSetOf words_cmp (λ n. contains words_cmp (targets (names W) rs) n ≡ true) ns) (sym is) h)

  -- the context of an action unfolds to a record
  abbrev ContextPasses : Uid × ActionDefinition NameReference ActionReference → Type 0
  ContextPasses a = UsePasses (meanings W) (Context a.0, a.1.context)

  contexts_pass : AllPass ContextPasses (actions W)
  contexts_pass = pass_unmap (UsePasses (meanings W)) (λ a. (Context a.0, a.1.context)) (actions W)
      (pass_right (UsePasses (meanings W)) (flat_map (λ e. map (λ t. (Shape e.0, t)) (shape_of e.1)) (entity_types W) ++ flat_map (λ e. map (λ t. (Tags e.0, t)) (tags_of e.1)) (entity_types W))
      (map (λ a. (Context a.0, a.1.context)) (actions W)) passes)

  action_there : (d e : Uid × ActionDefinition NameReference ActionReference) (m : Uid × SchemaAction) → SameKey ActionRewritten d e → ContextPasses d × DenotesAction W d m → DenotesAction V e m
  action_there d e m r both =
      let h = both.1 in
      let is : is_record m.1.context ≡ true = ap is_record (one_type (meanings W) d.1.context m.1.context both.0.resolved h.context both.0.unfolds) ∙ both.0.fits in
      record {
        named = h.named ∙ sym r.key;
        principals = targets_there d.1.principals e.1.principals m.1.principals r.value.principals h.principals;
        resources = targets_there d.1.resources e.1.resources m.1.resources r.value.resources h.resources;
        context = shape_carried W V same_extensions rewrites printable apart d.1.context e.1.context m.1.context h.context is r.value.context;
        attribute_types = h.attribute_types ∙ sym r.value.attribute_types;
        attributes = h.attributes ∙ sym r.value.attributes;
        descendants = subst (λ u. IsSetOf uid_cmp (ActionDescendsFrom V u) m.1.descendants) (sym r.key) (action_descendants_there W V same_extensions rewrites d.0 m.1.descendants h.descendants);
      }

  schema_there : (S : Schema) → Denotes W S → Denotes V S
  schema_there S h = record {
    entity_types = zip_through (SameKey EntityRewritten) (DenotesEntity W) (DenotesEntity V) entity_there (entity_types W) (entity_types V) S.entity_types (types_related W V same_extensions rewrites) h.entity_types;
    actions = zip_through (SameKey ActionRewritten) (λ d m. ContextPasses d × DenotesAction W d m) (DenotesAction V) action_there (actions W) (actions V) S.actions (actions_related W V same_extensions rewrites)
        (zip_beside ContextPasses (DenotesAction W) (actions W) S.actions contexts_pass h.actions);
  }

-- and denotes what the first does
pub reread_denotes : (W V : World) → V.extensions ≡ W.extensions → NamespacesRewritten W.namespaces V.namespaces → Printable W → Sound W → (S : Schema) → Denotes W S → Denotes V S
unfolding Sound
reread_denotes W V same_extensions rewrites printable h S d = schema_there W V same_extensions rewrites printable h.0.0 (uses_of W h.1.1.1.0) S d
