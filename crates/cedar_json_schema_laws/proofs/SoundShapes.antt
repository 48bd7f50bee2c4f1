-- SPDX-License-Identifier: Apache-2.0
-- In a sound fragment no shape and no context is a reserved word: it has to be a record.
use Rattle.std.proofs.Common.{◌++◌, ℕ, IsTrue, List, [], ◌∷◌, Option, Some, None, IfSome, map, flat_map}
use Rattle.std.proofs.lemmas.Cmp.{nat_list_cmp_total, lists_total}
use Rattle.std.specs.Cmp.{IsTotalOrder}
use Rattle.std.specs.List.{AllByRecursion}
use Rattle.cedar_data.specs.Firsts.{AllPass}
use Rattle.cedar_names.specs.Order.{words_cmp}
use Rattle.cedar_schema_error.specs.FullNames.{FullName, Uid, uid_cmp}
use Rattle.cedar_schema_error.specs.NameReferences.{ActionReference, NameReference}
use Rattle.cedar_schema_error.specs.Refusals.{Context, Shape, Tags, UsePlace}
use Rattle.cedar_tree.specs.Trees.{Text}
use Rattle.cedar_written.specs.declared.reference_type.ReferenceType.TheVariants as kind
use Rattle.cedar_unfold.specs.Resolved.{Resolved, is_record}
use Rattle.cedar_unfold.specs.UnfoldPhases.{UsePasses}
use Rattle.cedar_unfold.specs.Unfolds.{Unfolds}
use Rattle.cedar_unfold.specs.Written.{Written}
use Rattle.cedar_world.specs.Definitions.{ActionDefinition, EntityDefinition, Namespace, shape_of, tags_of}
use Rattle.cedar_world.specs.Worlds.{World, actions, all_namespaces, builtin_namespaces, entity_types, meanings, own, uses}
use Rattle.cedar_convert_fragment.specs.Fragments.{ActionContent, AppliesTo, Declared, EntityContent, Fragment, TypeAt, written, common_type, Shaped, Listed}
use Rattle.cedar_fragment_world.specs.FragmentWorlds.{action_at, action_uid, context_of, entity_at, entity_of, full_name, namespaces_of, reference, type_of, world_of_fragment}
use Rattle.cedar_json_schema_laws.specs.TypeWords.{IsNoWord, IsNotEntityOrCommon, NamesNoEntityOrCommon, NamesNoWord, OfAction, OfEntity}
use Rattle.cedar_resolving_laws.proofs.OnceEach.{NamesDiffer, UidsDiffer}
use Rattle.cedar_resolving_laws.proofs.Reordering.{Each2}
use Rattle.cedar_resolving_laws.proofs.MapsBack.{all_first, all_of_pass, all_second, all_unflat, map_back}
use Rattle.cedar_json_schema_laws.proofs.OtherWords.{other_path}
use Rattle.cedar_json_schema_laws.proofs.ReservedNames.{AreFreeCommons, reserved_no_record, word_possibilities}

all_unmapped : {X Y : Type 0} (Q : Y → Type 0) (f : X → Y) (xs : List X) → AllByRecursion Q (map f xs) → AllByRecursion (λ x. Q (f x)) xs
all_unmapped Q f [] all = tt
all_unmapped Q f (x ∷ xs) all = (all.0, all_unmapped Q f xs all.1)

module _ (F : Fragment) (extensions : List (List ℕ)) (free : AllByRecursion AreFreeCommons F) where
  abbrev W : World
  W = world_of_fragment F extensions

  -- ---- a shape or a context that unfolds to a record

  shape_other : (ns : Option FullName) (t : TypeAt) (T : Resolved) → Unfolds (meanings W) (type_of ns t) T → IsTrue (is_record T) → IsNotEntityOrCommon t → IsNoWord t
  shape_other ns (written form place) T unfolds fits apart = tt
  shape_other ns (common_type name place) T unfolds fits apart =
      other_path name.words apart (λ w is reserved. reserved_no_record F extensions free (reference ns kind.Common name) w T (word_possibilities ns name.words w is) reserved unfolds fits)

  -- the uses of types pass
  abbrev Passes : UsePlace × Written NameReference → Type 0
  Passes use_of = UsePasses (meanings W) use_of

  abbrev ShapePasses : FullName × EntityDefinition NameReference → Type 0
  ShapePasses e = AllByRecursion Passes (map (λ t. (Shape e.0, t)) (shape_of e.1))

  abbrev ContextPasses : Uid × ActionDefinition NameReference ActionReference → Type 0
  ContextPasses a = Passes (Context a.0, a.1.context)

  entities_other : (ns : Option FullName) (es : List (Text × Declared EntityContent)) → AllByRecursion ShapePasses (map (entity_at ns) es)
      → AllByRecursion {X = Text × Declared EntityContent} (λ e. OfEntity IsNotEntityOrCommon e.1.content) es → AllByRecursion {X = Text × Declared EntityContent} (λ e. OfEntity IsNoWord e.1.content) es
  entities_other ns [] passes apart = tt
  entities_other ns (e ∷ es) passes apart = (by e.1.content passes.0 apart.0, entities_other ns es passes.1 apart.1)
    where
      by : (content : EntityContent) → AllByRecursion Passes (map (λ t. (Shape (full_name ns e.0), t)) (shape_of (entity_of ns content))) → OfEntity IsNotEntityOrCommon content → OfEntity IsNoWord content
      by (Shaped parents shape tags) passes apart = let use_of = passes.0 in shape_other ns shape use_of.resolved use_of.unfolds use_of.fits apart
      by (Listed choices) passes apart = tt

  actions_other : (ns : Option FullName) (es : List (Text × Declared ActionContent)) → AllByRecursion ContextPasses (map (action_at ns) es)
      → AllByRecursion {X = Text × Declared ActionContent} (λ e. OfAction IsNotEntityOrCommon e.1.content) es → AllByRecursion {X = Text × Declared ActionContent} (λ e. OfAction IsNoWord e.1.content) es
  actions_other ns [] passes apart = tt
  actions_other ns (e ∷ es) passes apart = (by e.1.content.applies_to passes.0 apart.0, actions_other ns es passes.1 apart.1)
    where
      by : (applies : Option AppliesTo) → Passes (Context (action_uid ns e.0), context_of ns applies) → IfSome applies (λ a. IsNotEntityOrCommon a.context) → IfSome applies (λ a. IsNoWord a.context)
      by None passes apart = tt
      by (Some a) passes apart = shape_other ns a.context passes.resolved passes.unfolds passes.fits apart

  namespaces_other : (G : Fragment) → AllByRecursion (λ ns. AllByRecursion ShapePasses ns.entity_types) (namespaces_of G) → AllByRecursion (λ ns. AllByRecursion ContextPasses ns.actions) (namespaces_of G)
      → NamesNoEntityOrCommon G → NamesNoWord G
  namespaces_other [] types contexts apart = tt
  namespaces_other (n ∷ G) types contexts apart =
      let here = apart.0 in
      ((entities_other n.0 n.1.entity_types types.0 here.0, actions_other n.0 n.1.actions contexts.0 here.1), namespaces_other G types.1 contexts.1 apart.1)

  -- ---- all uses of a sound fragment

  module _ (types_apart : Each2 (λ a b. NamesDiffer a.0 b.0) (flat_map (λ ns. ns.entity_types) (all_namespaces W)))
      (actions_apart : Each2 (λ a b. UidsDiffer a.0 b.0) (flat_map (λ ns. ns.actions) (all_namespaces W))) (uid_total : IsTotalOrder uid_cmp) (passes : AllPass Passes (uses W)) where
    abbrev shapes : List (UsePlace × Written NameReference)
    shapes = flat_map (λ e. map (λ t. (Shape e.0, t)) (shape_of e.1)) (entity_types W)

    abbrev tags : List (UsePlace × Written NameReference)
    tags = flat_map (λ e. map (λ t. (Tags e.0, t)) (tags_of e.1)) (entity_types W)

    abbrev contexts : List (UsePlace × Written NameReference)
    contexts = map (λ a. (Context a.0, a.1.context)) (actions W)

    all_pass : AllByRecursion Passes ((shapes ++ tags) ++ contexts)
    all_pass = all_of_pass Passes (uses W) passes

    own_types : AllByRecursion (λ ns. AllByRecursion ShapePasses ns.entity_types) (namespaces_of F)
    own_types =
        all_first (λ (ns : Namespace). AllByRecursion ShapePasses ns.entity_types) (namespaces_of F) (builtin_namespaces (own W) extensions)
        (all_unflat ShapePasses (λ ns. ns.entity_types) (all_namespaces W)
        (map_back words_cmp (lists_total nat_list_cmp_total) ShapePasses (flat_map (λ ns. ns.entity_types) (all_namespaces W)) types_apart
        (all_unflat Passes (λ e. map (λ t. (Shape e.0, t)) (shape_of e.1)) (entity_types W) (all_first Passes shapes tags (all_first Passes (shapes ++ tags) contexts all_pass)))))

    own_contexts : AllByRecursion (λ ns. AllByRecursion ContextPasses ns.actions) (namespaces_of F)
    own_contexts =
        all_first (λ (ns : Namespace). AllByRecursion ContextPasses ns.actions) (namespaces_of F) (builtin_namespaces (own W) extensions)
        (all_unflat ContextPasses (λ ns. ns.actions) (all_namespaces W)
        (map_back uid_cmp uid_total ContextPasses (flat_map (λ ns. ns.actions) (all_namespaces W)) actions_apart
        (all_unmapped Passes (λ a. (Context a.0, a.1.context)) (actions W) (all_second Passes (shapes ++ tags) contexts all_pass))))

    -- no shape and no context is a word of types, where none is `EntityOrCommon`
    pub sound_names_no_word : NamesNoEntityOrCommon F → NamesNoWord F
    sound_names_no_word apart = namespaces_other F own_types own_contexts apart
