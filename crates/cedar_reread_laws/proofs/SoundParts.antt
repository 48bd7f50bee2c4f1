-- SPDX-License-Identifier: Apache-2.0
-- What the types of a sound fragment have: records are closed, at most 128 sets and records nest, and shapes and contexts are records or names.
use Rattle.std.proofs.Common.{◌++◌, List, [], ◌∷◌, Option, Some, None, IfSome, map, flat_map, arith}
use Rattle.std.proofs.lemmas.Cmp.{nat_list_cmp_total, lists_total}
use Rattle.std.specs.List.{AllByRecursion}
use Rattle.cedar_data.specs.Firsts.{AllPass, NoneAgain}
use Rattle.cedar_duplicates.specs.Duplicates.{same_declared}
use Rattle.cedar_names.specs.Order.{words_cmp}
use Rattle.cedar_schema_error.specs.FullNames.{FullName, Uid, uid_cmp}
use Rattle.cedar_schema_error.specs.NameReferences.{ActionReference, NameReference}
use Rattle.cedar_schema_error.specs.Refusals.{Context, Shape, Tags, UsePlace}
use Rattle.cedar_sound.proofs.NameOrders.{uids_exact}
use Rattle.cedar_sound.specs.Sound.{Sound, all_declared}
use Rattle.cedar_tree.specs.Trees.{Text}
use Rattle.cedar_unfold.specs.Meanings.{Meanings}
use Rattle.cedar_unfold.specs.UnfoldPhases.{Unfoldable, UnfoldsWithin, UsePasses}
use Rattle.cedar_unfold.specs.Written.{Written}
use Rattle.cedar_world.specs.Definitions.{ActionDefinition, EntityDefinition, Namespace, shape_of, tags_of}
use Rattle.cedar_world.specs.Worlds.{World, actions, all_namespaces, builtin_namespaces, common_types, entity_types, meanings, own, uses}
use Rattle.cedar_convert_fragment.specs.Fragments.{ActionContent, AppliesTo, Declared, Definition, EntityContent, Fragment, TypeAt, Shaped, Listed}
use Rattle.cedar_fragment_world.specs.FragmentWorlds.{action_at, action_uid, common_at, context_of, entity_at, entity_of, full_name, namespaces_of, type_of, world_of_fragment}
use Rattle.cedar_resolving_laws.proofs.OnceEach.{Apart, actions_each, apart_each, commons_each, entities_each}
use Rattle.cedar_resolving_laws.proofs.Reordering.{Each2}
use Rattle.cedar_reread.specs.EachType.{Nests}
use Rattle.cedar_resolving_laws.proofs.MapsBack.{all_first, all_of_pass, all_second, all_unflat, all_unmapped, map_back}
use Rattle.cedar_reread_laws.proofs.SoundTypes.{IsClosed, IsNamedOrRecord, type_closed, type_deep, type_shaped}

-- a type, and one that is a whole shape or context
abbrev pub TypeIsSound : TypeAt → Type 0
TypeIsSound t = IsClosed t × Nests 128 t

abbrev pub ShapeIsSound : TypeAt → Type 0
ShapeIsSound t = IsNamedOrRecord t × TypeIsSound t

abbrev pub EntityIsSound : EntityContent → Type 0
EntityIsSound (Shaped parents shape tags) = ShapeIsSound shape × IfSome tags TypeIsSound
EntityIsSound (Listed ids) = Unit {0}

abbrev pub ActionIsSound : ActionContent → Type 0
ActionIsSound a = IfSome a.applies_to (λ applies. ShapeIsSound applies.context)

abbrev pub DefinitionIsSound : Definition → Type 0
DefinitionIsSound d =
    AllByRecursion (λ e. TypeIsSound e.1.content) d.common_types × AllByRecursion (λ e. EntityIsSound e.1.content) d.entity_types × AllByRecursion (λ e. ActionIsSound e.1.content) d.actions

abbrev pub PartsAreSound : Fragment → Type 0
PartsAreSound F = AllByRecursion (λ n. DefinitionIsSound n.1) F

module _ (m : Meanings NameReference) where
  abbrev Passes : UsePlace × Written NameReference → Type 0
  Passes use_of = UsePasses m use_of

  abbrev ShapePasses : FullName × EntityDefinition NameReference → Type 0
  ShapePasses e = AllByRecursion Passes (map (λ t. (Shape e.0, t)) (shape_of e.1))

  abbrev TagsPass : FullName × EntityDefinition NameReference → Type 0
  TagsPass e = AllByRecursion Passes (map (λ t. (Tags e.0, t)) (tags_of e.1))

  abbrev ContextPasses : Uid × ActionDefinition NameReference ActionReference → Type 0
  ContextPasses a = Passes (Context a.0, a.1.context)

  abbrev CommonPasses : FullName × Written NameReference → Type 0
  CommonPasses c = UnfoldsWithin m c.1

  module _ (ns : Option FullName) where
    type_sound : (t : TypeAt) → UnfoldsWithin m (type_of ns t) → TypeIsSound t
    type_sound t (T, h, within) = (type_closed m ns t T h, omega (arith, within, type_deep m ns t T h))

    tags_sound : (name : FullName) (t : TypeAt) → Passes (Tags name, type_of ns t) → TypeIsSound t
    tags_sound name t u = type_sound t (u.resolved, u.unfolds, u.within)

    shape_sound : (name : FullName) (t : TypeAt) → Passes (Shape name, type_of ns t) → ShapeIsSound t
    shape_sound name t u = (type_shaped m ns t u.resolved u.unfolds u.fits, type_sound t (u.resolved, u.unfolds, u.within))

    context_sound : (uid : Uid) (t : TypeAt) → Passes (Context uid, type_of ns t) → ShapeIsSound t
    context_sound uid t u = (type_shaped m ns t u.resolved u.unfolds u.fits, type_sound t (u.resolved, u.unfolds, u.within))

    entity_sound : (name : FullName) (content : EntityContent) → ShapePasses (name, entity_of ns content) → TagsPass (name, entity_of ns content) → EntityIsSound content
    entity_sound name (Shaped parents shape None) shapes tags = (shape_sound name shape shapes.0, tt)
    entity_sound name (Shaped parents shape (Some ty)) shapes tags = (shape_sound name shape shapes.0, tags_sound name ty tags.0)
    entity_sound name (Listed ids) shapes tags = tt

    action_sound : (uid : Uid) (applies : Option AppliesTo) → Passes (Context uid, context_of ns applies) → IfSome applies (λ a. ShapeIsSound a.context)
    action_sound uid None passes = tt
    action_sound uid (Some a) passes = context_sound uid a.context passes

    commons_sound : (es : List (Text × Declared TypeAt)) → AllByRecursion CommonPasses (map (common_at ns) es) → AllByRecursion {X = Text × Declared TypeAt} (λ e. TypeIsSound e.1.content) es
    commons_sound [] passes = tt
    commons_sound (e ∷ es) passes = (type_sound e.1.content passes.0, commons_sound es passes.1)

    entities_sound : (es : List (Text × Declared EntityContent)) → AllByRecursion ShapePasses (map (entity_at ns) es) → AllByRecursion TagsPass (map (entity_at ns) es)
        → AllByRecursion {X = Text × Declared EntityContent} (λ e. EntityIsSound e.1.content) es
    entities_sound [] shapes tags = tt
    entities_sound (e ∷ es) shapes tags = (entity_sound (full_name ns e.0) e.1.content shapes.0 tags.0, entities_sound es shapes.1 tags.1)

    actions_sound : (es : List (Text × Declared ActionContent)) → AllByRecursion ContextPasses (map (action_at ns) es) → AllByRecursion {X = Text × Declared ActionContent} (λ e. ActionIsSound e.1.content) es
    actions_sound [] contexts = tt
    actions_sound (e ∷ es) contexts = (action_sound (action_uid ns e.0) e.1.content.applies_to contexts.0, actions_sound es contexts.1)

  namespaces_sound : (G : Fragment) → AllByRecursion (λ ns. AllByRecursion CommonPasses ns.common_types) (namespaces_of G) → AllByRecursion (λ ns. AllByRecursion ShapePasses ns.entity_types) (namespaces_of G)
      → AllByRecursion (λ ns. AllByRecursion TagsPass ns.entity_types) (namespaces_of G) → AllByRecursion (λ ns. AllByRecursion ContextPasses ns.actions) (namespaces_of G) → PartsAreSound G
  namespaces_sound [] commons shapes tags contexts = tt
  namespaces_sound (n ∷ G) commons shapes tags contexts = (
    (commons_sound n.0 n.1.common_types commons.0, entities_sound n.0 n.1.entity_types shapes.0 tags.0, actions_sound n.0 n.1.actions contexts.0),
    namespaces_sound G commons.1 shapes.1 tags.1 contexts.1,
  )

module _ (W : World) (sound : Sound W) where
  abbrev M : Meanings NameReference
  M = meanings W

  once : NoneAgain same_declared [] (all_declared (all_namespaces W))
  unfolding Sound
  once = sound.1.1.0

  depths : AllPass (λ c. UnfoldsWithin M c.1) (common_types W)
  unfolding Sound Unfoldable
  depths = sound.1.1.1.0.1.1.0

  uses_pass : AllPass (UsePasses M) (uses W)
  unfolding Sound Unfoldable
  uses_pass = sound.1.1.1.0.1.1.1.0

  apart : Each2 (Apart same_declared) (all_declared (all_namespaces W))
  apart = apart_each same_declared [] (all_declared (all_namespaces W)) once

  abbrev shapes : List (UsePlace × Written NameReference)
  shapes = flat_map (λ e. map (λ t. (Shape e.0, t)) (shape_of e.1)) (entity_types W)

  abbrev tags : List (UsePlace × Written NameReference)
  tags = flat_map (λ e. map (λ t. (Tags e.0, t)) (tags_of e.1)) (entity_types W)

  abbrev contexts : List (UsePlace × Written NameReference)
  contexts = map (λ a. (Context a.0, a.1.context)) (actions W)

  all_pass : AllByRecursion (Passes M) ((shapes ++ tags) ++ contexts)
  all_pass = all_of_pass (Passes M) (uses W) uses_pass

  -- of each namespace of the world
  each_common : AllByRecursion (λ ns. AllByRecursion (CommonPasses M) ns.common_types) (all_namespaces W)
  each_common =
      all_unflat (CommonPasses M) (λ ns. ns.common_types) (all_namespaces W)
      (map_back words_cmp (lists_total nat_list_cmp_total) (CommonPasses M) (flat_map (λ ns. ns.common_types) (all_namespaces W)) (commons_each (all_namespaces W) apart) (all_of_pass (CommonPasses M) (common_types W) depths))

  each_shape : AllByRecursion (λ ns. AllByRecursion (ShapePasses M) ns.entity_types) (all_namespaces W)
  each_shape =
      all_unflat (ShapePasses M) (λ ns. ns.entity_types) (all_namespaces W)
      (map_back words_cmp (lists_total nat_list_cmp_total) (ShapePasses M) (flat_map (λ ns. ns.entity_types) (all_namespaces W)) (entities_each (all_namespaces W) apart)
      (all_unflat (Passes M) (λ e. map (λ t. (Shape e.0, t)) (shape_of e.1)) (entity_types W) (all_first (Passes M) shapes tags (all_first (Passes M) (shapes ++ tags) contexts all_pass))))

  each_tags : AllByRecursion (λ ns. AllByRecursion (TagsPass M) ns.entity_types) (all_namespaces W)
  each_tags =
      all_unflat (TagsPass M) (λ ns. ns.entity_types) (all_namespaces W)
      (map_back words_cmp (lists_total nat_list_cmp_total) (TagsPass M) (flat_map (λ ns. ns.entity_types) (all_namespaces W)) (entities_each (all_namespaces W) apart)
      (all_unflat (Passes M) (λ e. map (λ t. (Tags e.0, t)) (tags_of e.1)) (entity_types W) (all_second (Passes M) shapes tags (all_first (Passes M) (shapes ++ tags) contexts all_pass))))

  each_context : AllByRecursion (λ ns. AllByRecursion (ContextPasses M) ns.actions) (all_namespaces W)
  each_context =
      all_unflat (ContextPasses M) (λ ns. ns.actions) (all_namespaces W)
      (map_back uid_cmp uids_exact.total (ContextPasses M) (flat_map (λ ns. ns.actions) (all_namespaces W)) (actions_each (all_namespaces W) apart)
      (all_unmapped (Passes M) (λ a. (Context a.0, a.1.context)) (actions W) (all_second (Passes M) (shapes ++ tags) contexts all_pass)))

-- of a sound fragment
pub parts_sound : (F : Fragment) (extensions : List Text) → Sound (world_of_fragment F extensions) → PartsAreSound F
parts_sound F extensions sound =
    let W = world_of_fragment F extensions in
    let builtins = builtin_namespaces (own W) extensions in
    namespaces_sound (meanings W) F
    (all_first (λ (ns : Namespace). AllByRecursion (CommonPasses (meanings W)) ns.common_types) (namespaces_of F) builtins (each_common W sound))
    (all_first (λ (ns : Namespace). AllByRecursion (ShapePasses (meanings W)) ns.entity_types) (namespaces_of F) builtins (each_shape W sound))
    (all_first (λ (ns : Namespace). AllByRecursion (TagsPass (meanings W)) ns.entity_types) (namespaces_of F) builtins (each_tags W sound))
    (all_first (λ (ns : Namespace). AllByRecursion (ContextPasses (meanings W)) ns.actions) (namespaces_of F) builtins (each_context W sound))
