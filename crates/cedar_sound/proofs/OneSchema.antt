-- SPDX-License-Identifier: Apache-2.0
-- A world denotes one schema at most.
use Rattle.std.specs.Prelude.{◌≡◌, Bool, true, IsTrue, List, [], ◌∷◌, Option, Some, None}
use Rattle.std.specs.List.{AllZip}
use Rattle.std.proofs.Common.{refl, sym, ap, ◌∙◌}
use Rattle.cedar_data.specs.Sets.{contains}
use Rattle.cedar_data.proofs.Exact.{one_set}
use Rattle.cedar_shadowing.specs.of_declared.Names.{targets}
use Rattle.cedar_names.specs.Order.{words_cmp}
use Rattle.cedar_duplicates.specs.of_schema_error.FullNames.{FullName, Uid}
use Rattle.cedar_duplicates.specs.of_schema_error.NameReferences.{ActionReference, NameReference}
use Rattle.cedar_sound.proofs.NameOrders.{names_exact, uids_exact}
use Rattle.cedar_world.specs.of_unfold.Resolved.{Resolved, ResolvedAttributes}
use Rattle.cedar_world.specs.of_unfold.Resolved as resolved
use Rattle.cedar_world.specs.of_unfold.Written.{Written}
use Rattle.cedar_world.proofs.of_unfold.OneUnfolding.{one_type}
use Rattle.cedar_world.specs.Definitions.{ActionDefinition, EntityDefinition, Enumerated, Standard}
use Rattle.cedar_world.specs.Denotes.{AreTargets, Denotes, DenotesAction, DenotesEntity, DenotesKind, DenotesTags}
use Rattle.cedar_world.specs.Descents.{ActionDescendsFrom, DescendsFrom}
use Rattle.cedar_world.specs.Schemas.{EntityKind, EnumeratedKind, Schema, SchemaAction, SchemaEntity, StandardKind}
use Rattle.cedar_world.specs.Worlds.{World, actions, entity_types, meanings, names}

-- what R gives item by item is one list, where it is one item
one_zip : {A B : Type 0} (R : A → B → Type 0) → ((x : A) (y z : B) → R x y → R x z → y ≡ z) → (xs : List A) (ys zs : List B) → AllZip R xs ys → AllZip R xs zs → ys ≡ zs
one_zip R one [] [] [] h k = refl
one_zip R one [] (y ∷ ys) zs h k = absurd h
one_zip R one [] [] (z ∷ zs) h k = absurd k
one_zip R one (x ∷ xs) [] zs h k = absurd h
one_zip R one (x ∷ xs) (y ∷ ys) [] h k = absurd k
one_zip R one (x ∷ xs) (y ∷ ys) (z ∷ zs) h k =
    let first : y ≡ z = one x y z h.0 k.0 in
    let rest : ys ≡ zs = one_zip R one xs ys zs h.1 k.1 in
    λ i. first i ∷ rest i

abbrev pub parts_of : Resolved → ResolvedAttributes
parts_of (resolved.Record ps is_open) = ps
parts_of other = resolved.no_attributes

abbrev pub open_of : Resolved → Bool
open_of (resolved.Record ps is_open) = is_open
open_of other = true

module _ (W : World) where
  one_tags : (t : Option (Written NameReference)) (T U : Option Resolved) → DenotesTags W t T → DenotesTags W t U → T ≡ U
  one_tags None None None h k = refl
  one_tags None (Some T) U h k = absurd h
  one_tags None None (Some U) h k = absurd k
  one_tags (Some t) None U h k = absurd h
  one_tags (Some t) (Some T) None h k = absurd k
  one_tags (Some t) (Some T) (Some U) h k = ap Some (one_type (meanings W) t T U h k)

  one_kind : (d : EntityDefinition NameReference) (k l : EntityKind) → DenotesKind W d k → DenotesKind W d l → k ≡ l
  one_kind (Standard parents shape tags) (StandardKind ps o T) (StandardKind qs o' U) h k =
      let whole : resolved.Record ps o ≡ resolved.Record qs o' = one_type (meanings W) shape (resolved.Record ps o) (resolved.Record qs o') h.0 k.0 in
      let parts : ps ≡ qs = ap parts_of whole in
      let closed : o ≡ o' = ap open_of whole in
      let same : T ≡ U = one_tags tags T U h.1 k.1 in
      λ i. StandardKind (parts i) (closed i) (same i)
  one_kind (Standard parents shape tags) (StandardKind ps o T) (EnumeratedKind qs) h k = absurd k
  one_kind (Standard parents shape tags) (EnumeratedKind ps) l h k = absurd h
  one_kind (Enumerated ids) (StandardKind ps o T) l h k = absurd h
  one_kind (Enumerated ids) (EnumeratedKind ps) (StandardKind qs o U) h k = absurd k
  one_kind (Enumerated ids) (EnumeratedKind ps) (EnumeratedKind qs) h k = ap EnumeratedKind (h ∙ sym k)

  one_entity : (d : FullName × EntityDefinition NameReference) (s t : FullName × SchemaEntity) → DenotesEntity W d s → DenotesEntity W d t → s ≡ t
  one_entity d s t h k =
      let name : s.0 ≡ t.0 = h.named ∙ sym k.named in
      let below : s.1.descendants ≡ t.1.descendants = one_set names_exact (DescendsFrom W d.0) s.1.descendants t.1.descendants h.descendants k.descendants in
      let kind : s.1.kind ≡ t.1.kind = one_kind d.1 s.1.kind t.1.kind h.kind k.kind in
      λ i. (name i, record { descendants = below i; kind = kind i })

  one_targets : (rs : List NameReference) (ns ms : List FullName) → AreTargets W rs ns → AreTargets W rs ms → ns ≡ ms
  one_targets rs ns ms h k = one_set names_exact (λ n. IsTrue (contains words_cmp (targets (names W) rs) n)) ns ms h k

  one_action : (d : Uid × ActionDefinition NameReference ActionReference) (s t : Uid × SchemaAction) → DenotesAction W d s → DenotesAction W d t → s ≡ t
  one_action d s t h k =
      let name : s.0 ≡ t.0 = h.named ∙ sym k.named in
      let principals : s.1.principals ≡ t.1.principals = one_targets d.1.principals s.1.principals t.1.principals h.principals k.principals in
      let resources : s.1.resources ≡ t.1.resources = one_targets d.1.resources s.1.resources t.1.resources h.resources k.resources in
      let context : s.1.context ≡ t.1.context = one_type (meanings W) d.1.context s.1.context t.1.context h.context k.context in
      let types : s.1.attribute_types ≡ t.1.attribute_types = h.attribute_types ∙ sym k.attribute_types in
      let values : s.1.attributes ≡ t.1.attributes = h.attributes ∙ sym k.attributes in
      let below : s.1.descendants ≡ t.1.descendants = one_set uids_exact (ActionDescendsFrom W d.0) s.1.descendants t.1.descendants h.descendants k.descendants in
      λ i. (name i, record { principals = principals i; resources = resources i; context = context i; attribute_types = types i; attributes = values i; descendants = below i })

-- a world denotes one schema at most
pub one_schema : (W : World) (S T : Schema) → Denotes W S → Denotes W T → S ≡ T
one_schema W S T h k =
    let types : S.entity_types ≡ T.entity_types = one_zip (DenotesEntity W) (one_entity W) (entity_types W) S.entity_types T.entity_types h.entity_types k.entity_types in
    let acts : S.actions ≡ T.actions = one_zip (DenotesAction W) (one_action W) (actions W) S.actions T.actions h.actions k.actions in
    λ i. record { entity_types = types i; actions = acts i }
