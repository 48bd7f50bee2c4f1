-- SPDX-License-Identifier: Apache-2.0
-- A world whose types unfold denotes a schema.
use Rattle.std.proofs.Common.{◌≡◌, ◌++◌, IsTrue, List, [], ◌∷◌, map, Option, Some, None, refl}
use Rattle.std.specs.List.{AllZip, flat_map}
use Rattle.cedar_data.proofs.Exact.{IsExact}
use Rattle.cedar_data.proofs.Passing.{AllPass-back, AllPass-front}
use Rattle.cedar_data.specs.Firsts.{AllPass, SomePasses}
use Rattle.cedar_data.specs.Maps.{get}
use Rattle.cedar_data.specs.Sets.{IsSetOf, set_of}
use Rattle.cedar_shadowing.specs.of_declared.Names.{action_target, target, targets}
use Rattle.cedar_names.specs.Order.{words_cmp}
use Rattle.cedar_duplicates.specs.of_schema_error.FullNames.{FullName, Uid, uid_cmp}
use Rattle.cedar_duplicates.specs.of_schema_error.NameReferences.{ActionReference, NameReference}
use Rattle.cedar_duplicates.specs.of_schema_error.Refusals.{Context, Shape, Tags, UsePlace}
use Rattle.cedar_world.specs.of_unfold.Resolved.{Resolved}
use Rattle.cedar_world.specs.of_unfold.Resolved as resolved
use Rattle.cedar_world.specs.of_unfold.UnfoldPhases.{UsePasses, Unfoldable}
use Rattle.cedar_world.specs.of_unfold.Unfolds.{Unfolds}
use Rattle.cedar_world.specs.of_unfold.Written.{Written}
use Rattle.cedar_world.specs.Definitions.{ActionDefinition, EntityDefinition, Enumerated, Standard, parents_of, shape_of, tags_of}
use Rattle.cedar_world.specs.Denotes.{Denotes, DenotesAction, DenotesEntity, DenotesKind, DenotesTags}
use Rattle.cedar_world.specs.Descents.{ActionDescendsFrom, ActionMember, DescendsFrom, Member}
use Rattle.cedar_world.specs.Schemas.{EntityKind, EnumeratedKind, Schema, SchemaAction, SchemaEntity, StandardKind}
use Rattle.cedar_world.specs.Worlds.{World, actions, all_namespaces, entity_types, meanings, names, uses}
use Rattle.cedar_sound.specs.Sound.{Sound}
use Rattle.cedar_sound.proofs.NameOrders.{names_exact, uids_exact}
use Rattle.cedar_sound.proofs.SortedMaps.{sorted-map_of}
use Rattle.cedar_sound.proofs.Descendants.{below, below-set, set-of-those}

-- what R gives item by item, where it gives something to each
record Zipped {A B : Type 0} (R : A → B → Type 0) (xs : List A) : Type 0 where
  pub made : List B
  pub all : AllZip R xs made

zipped : {A B : Type 0} (R : A → B → Type 0) (xs : List A) → AllPass (λ x. (y : B) × R x y) xs → Zipped R xs
zipped R [] each = record { made = []; all = tt }
zipped R (x ∷ xs) each =
    let rest = zipped R xs each.1 in
    record { made = each.0.0 ∷ rest.made; all = (each.0.1, rest.all) }

module _ (names_order : IsExact words_cmp) (uids_order : IsExact uid_cmp) (W : World) where
  -- ---- descendants

  member-parts : (a b : FullName) → Member W a b → (d : EntityDefinition NameReference) × (get words_cmp (entity_types W) a ≡ Some d) × SomePasses (λ r. target (names W) r ≡ Some b) (parents_of d)
  member-parts a b m = (m.definition, m.declared, m.targeted)

  member : (a b : FullName) (d : EntityDefinition NameReference) → get words_cmp (entity_types W) a ≡ Some d → SomePasses (λ r. target (names W) r ≡ Some b) (parents_of d) → Member W a b
  member a b d declared targeted = record { definition = d; declared = declared; targeted = targeted }

  act-parts : (a b : Uid) → ActionMember W a b → (d : ActionDefinition NameReference ActionReference) × (get uid_cmp (actions W) a ≡ Some d) × SomePasses (λ r. action_target (names W) r ≡ Some b) d.parents
  act-parts a b m = (m.definition, m.declared, m.targeted)

  act : (a b : Uid) (d : ActionDefinition NameReference ActionReference) → get uid_cmp (actions W) a ≡ Some d → SomePasses (λ r. action_target (names W) r ≡ Some b) d.parents → ActionMember W a b
  act a b d declared targeted = record { definition = d; declared = declared; targeted = targeted }

  abbrev types_below : FullName → List FullName
  types_below = below names_order (entity_types W) parents_of (target (names W)) (Member W) member-parts member

  types-below : (high : FullName) → IsSetOf words_cmp (DescendsFrom W high) (types_below high)
  types-below high = below-set names_order (entity_types W) parents_of (target (names W)) (Member W) member-parts member
      (sorted-map_of names_order.total (flat_map (λ ns. ns.entity_types) (all_namespaces W))) high

  abbrev acts_below : Uid → List Uid
  acts_below = below uids_order (actions W) (λ d. d.parents) (action_target (names W)) (ActionMember W) act-parts act

  acts-below : (high : Uid) → IsSetOf uid_cmp (ActionDescendsFrom W high) (acts_below high)
  acts-below high = below-set uids_order (actions W) (λ d. d.parents) (action_target (names W)) (ActionMember W) act-parts act
      (sorted-map_of uids_order.total (flat_map (λ ns. ns.actions) (all_namespaces W))) high

  -- ---- kinds

  abbrev Passes : UsePlace × Written NameReference → Type 0
  Passes = UsePasses (meanings W)

  -- the type of tags
  tags-denote : (name : FullName) (parents : List NameReference) (shape : Written NameReference) (tags : Option (Written NameReference)) → AllPass Passes (map (λ t. (Tags name, t)) (tags_of (Standard parents shape tags))) → (T : Option Resolved) × DenotesTags W tags T
  tags-denote name parents shape None each = (None, tt)
  tags-denote name parents shape (Some t) each = (Some each.0.resolved, each.0.unfolds)

  -- a record
  record-denotes : (name : FullName) (parents : List NameReference) (shape : Written NameReference) (tags : Option (Written NameReference)) (T : Resolved) → Unfolds (meanings W) shape T → IsTrue (resolved.is_record T)
      → (U : Option Resolved) × DenotesTags W tags U → (kind : EntityKind) × DenotesKind W (Standard parents shape tags) kind
  record-denotes name parents shape tags (resolved.Record fields is_open) unfolds fits U = (StandardKind fields is_open U.0, (unfolds, U.1))
  record-denotes name parents shape tags resolved.Boolean unfolds fits U = absurd (cc)
  record-denotes name parents shape tags resolved.Long unfolds fits U = absurd (cc)
  record-denotes name parents shape tags resolved.String unfolds fits U = absurd (cc)
  record-denotes name parents shape tags (resolved.Extension e) unfolds fits U = absurd (cc)
  record-denotes name parents shape tags (resolved.Set e) unfolds fits U = absurd (cc)
  record-denotes name parents shape tags (resolved.Entity e) unfolds fits U = absurd (cc)

  kind-denotes : (name : FullName) (d : EntityDefinition NameReference) → AllPass Passes (map (λ t. (Shape name, t)) (shape_of d)) → AllPass Passes (map (λ t. (Tags name, t)) (tags_of d)) → (kind : EntityKind) × DenotesKind W d kind
  kind-denotes name (Standard parents shape tags) shapes each =
      record-denotes name parents shape tags shapes.0.resolved shapes.0.unfolds shapes.0.fits (tags-denote name parents shape tags each)
  kind-denotes name (Enumerated ids) shapes each = (EnumeratedKind ids, refl)

  -- ---- entity types

  entity-denotes : (e : FullName × EntityDefinition NameReference) → (kind : EntityKind) × DenotesKind W e.1 kind → (y : FullName × SchemaEntity) × DenotesEntity W e y
  entity-denotes e kind = (
    (e.0, record { descendants = types_below e.0; kind = kind.0 }),
    record { named = refl; descendants = types-below e.0; kind = kind.1 },
  )

  entities-denote : (es : List (FullName × EntityDefinition NameReference)) → AllPass Passes (flat_map (λ e. map (λ t. (Shape e.0, t)) (shape_of e.1)) es) → AllPass Passes (flat_map (λ e. map (λ t. (Tags e.0, t)) (tags_of e.1)) es)
      → AllPass (λ e. (y : FullName × SchemaEntity) × DenotesEntity W e y) es
  entities-denote [] shapes tags = tt
  entities-denote (e ∷ es) shapes tags = (
    entity-denotes e (kind-denotes e.0 e.1 (AllPass-front Passes (map (λ t. (Shape e.0, t)) (shape_of e.1)) _ shapes) (AllPass-front Passes (map (λ t. (Tags e.0, t)) (tags_of e.1)) _ tags)),
    entities-denote es (AllPass-back Passes (map (λ t. (Shape e.0, t)) (shape_of e.1)) _ shapes) (AllPass-back Passes (map (λ t. (Tags e.0, t)) (tags_of e.1)) _ tags),
  )

  -- ---- actions

  action-denotes : (a : Uid × ActionDefinition NameReference ActionReference) → UsePasses (meanings W) (Context a.0, a.1.context) → (y : Uid × SchemaAction) × DenotesAction W a y
  action-denotes a used = (
    (
      a.0,
      record {
        principals = set_of words_cmp (targets (names W) a.1.principals);
        resources = set_of words_cmp (targets (names W) a.1.resources);
        context = used.resolved;
        attribute_types = a.1.attribute_types;
        attributes = a.1.attributes;
        descendants = acts_below a.0;
      },
    ),
    record {
      named = refl;
      principals = set-of-those names_order (targets (names W) a.1.principals);
      resources = set-of-those names_order (targets (names W) a.1.resources);
      context = used.unfolds;
      attribute_types = refl;
      attributes = refl;
      descendants = acts-below a.0;
    },
  )

  actions-denote : (acts : List (Uid × ActionDefinition NameReference ActionReference)) → AllPass Passes (map (λ a. (Context a.0, a.1.context)) acts) → AllPass (λ a. (y : Uid × SchemaAction) × DenotesAction W a y) acts
  actions-denote [] each = tt
  actions-denote (a ∷ acts) each = (action-denotes a each.0, actions-denote acts each.1)

  -- ---- the schema

  -- the uses of the world: shapes, then types of tags, then contexts
  abbrev Uses : Type 0
  Uses = List (UsePlace × Written NameReference)

  abbrev shapes : Uses
  shapes = flat_map (λ e. map (λ t. (Shape e.0, t)) (shape_of e.1)) (entity_types W)

  abbrev tags : Uses
  tags = flat_map (λ e. map (λ t. (Tags e.0, t)) (tags_of e.1)) (entity_types W)

  abbrev contexts : Uses
  contexts = map (λ a. (Context a.0, a.1.context)) (actions W)

  -- where each use passes
  pub schema-denoted : AllPass Passes (uses W) → (S : Schema) × Denotes W S
  schema-denoted each =
      let used = AllPass-front Passes (shapes ++ tags) contexts each in
      let types = zipped (DenotesEntity W) (entity_types W) (entities-denote (entity_types W) (AllPass-front Passes shapes tags used) (AllPass-back Passes shapes tags used)) in
      let acts = zipped (DenotesAction W) (actions W) (actions-denote (actions W) (AllPass-back Passes (shapes ++ tags) contexts each)) in
      (record { entity_types = types.made; actions = acts.made }, record { entity_types = types.all; actions = acts.all })

-- a sound world denotes a schema
pub sound_denotes : (W : World) → Sound W → (S : Schema) × Denotes W S
unfolding Sound Unfoldable
sound_denotes W sound = schema-denoted names_exact uids_exact W sound.1.1.1.0.1.1.1.0
