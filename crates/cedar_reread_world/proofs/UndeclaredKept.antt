-- SPDX-License-Identifier: Apache-2.0
-- The world that is read again asks no other names to be entity types.
use Rattle.std.proofs.Common.{◌≡◌, ◌++◌, ◌||◌, ◌&&◌, Bool, true, false, not, List, [], ◌∷◌, refl, sym, ap, ◌∙◌}
use Rattle.std.proofs.lemmas.List.Elements.{filter_map-append}
use Rattle.std.proofs.lemmas.List.Folds.{list_any-append}
use Rattle.std.specs.BTreeMap.{is_at}
use Rattle.std.specs.List.{AllZip, flat_map, list_any}
use Rattle.cedar_data.specs.Sets.{contains}
use Rattle.cedar_declared.specs.Names.{Names, is_entity, target, targets}
use Rattle.cedar_names.specs.Order.{words_cmp}
use Rattle.cedar_reread_world.specs.Rewritten.{ActionRewritten, AttributesRewritten, EntityRewritten, NamespacesRewritten, SameKey, ShapeRewritten, TypeRewritten}
use Rattle.cedar_reread_world.specs.Rewritten as read
use Rattle.cedar_reread_world.proofs.DescentsKept.{same_parents}
use Rattle.cedar_reread_world.proofs.JobCarried.{RewrittenAt, SameUse, uses_related}
use Rattle.cedar_reread_world.proofs.SameNames.{Stands, actions_related, commons_related, names_same, rewritten, stays, types_related}
use Rattle.cedar_reread_world.proofs.Tests.{both_true, left_true, right_true}
use Rattle.cedar_reread_world.proofs.Zipped.{zip_same}
use Rattle.cedar_schema_error.specs.FullNames.{FullName}
use Rattle.cedar_schema_error.specs.NameReferences.{NameReference}
use Rattle.cedar_schema_error.specs.Refusals.{Context, Shape, Tags, UsePlace}
use Rattle.cedar_unfold.specs.Written.{Written, WrittenAttributes}
use Rattle.cedar_world.specs.Definitions.{parents_of}
use Rattle.cedar_world.specs.Undeclared.{IsUndeclared, all_entity_references, applications, attribute_entity_references, entity_parents, entity_references, references_to_entities}
use Rattle.cedar_world.specs.Worlds.{World, actions, common_types, entity_types, names, uses}

mutual
  -- no reference of a rewritten type must mean an entity type
  no_entity_references : (t u : Written NameReference) → TypeRewritten t u → entity_references u ≡ []
  no_entity_references _ _ read.boolean = refl
  no_entity_references _ _ read.long = refl
  no_entity_references _ _ read.string = refl
  no_entity_references _ _ read.extension = refl
  no_entity_references _ _ (read.set {t} {u} h) = no_entity_references t u h
  no_entity_references _ _ (read.record_of {ts} {us} h) = no_attribute_references ts us h
  no_entity_references _ _ (read.entity h) = refl
  no_entity_references _ _ (read.either h) = refl
  no_entity_references _ _ (read.common h) = refl

  no_attribute_references : (ts us : WrittenAttributes NameReference) → AttributesRewritten ts us → attribute_entity_references us ≡ []
  no_attribute_references _ _ read.none = refl
  no_attribute_references _ _ (read.each {t = t} {u} {ts} {us} h hs) = λ i. no_entity_references t u h i ++ no_attribute_references ts us hs i

no_shape_references : (t u : Written NameReference) → ShapeRewritten t u → entity_references u ≡ []
no_shape_references _ _ (read.record_of {ts} {us} h) = no_attribute_references ts us h
no_shape_references _ _ (read.either h) = refl
no_shape_references _ _ (read.common h) = refl

no_use_references : (p : UsePlace) (t u : Written NameReference) → RewrittenAt p t u → entity_references u ≡ []
no_use_references (Shape n) t u h = no_shape_references t u h
no_use_references (Tags n) t u h = no_entity_references t u h
no_use_references (Context n) t u h = no_shape_references t u h

either_way : (a b c d : Bool) → (a ≡ true → c ≡ true) → (b ≡ true → d ≡ true) → (a || b) ≡ true → (c || d) ≡ true
either_way true b c d f g e = ap (λ c. c || d) (f refl)
either_way false b true d f g e = refl
either_way false b false d f g e = g e

module _ (N : Names) (p : FullName → Bool) where
  -- some target passes the test
  abbrev has_some : List NameReference → Bool
  has_some rs = list_any p (targets N rs)

  some_append : (xs ys : List NameReference) → has_some (xs ++ ys) ≡ (has_some xs || has_some ys)
  some_append xs ys = ap (list_any p) (filter_map-append (target N) xs ys) ∙ list_any-append p (targets N xs) (targets N ys)

  -- where that is so of the first, it is so of the second
  abbrev Fewer : List NameReference → List NameReference → Type 0
  Fewer xs ys = has_some xs ≡ true → has_some ys ≡ true

  fewer_append : (xs ys zs ws : List NameReference) → Fewer xs zs → Fewer ys ws → Fewer (xs ++ ys) (zs ++ ws)
  fewer_append xs ys zs ws f g e = some_append zs ws ∙ either_way (has_some xs) (has_some ys) (has_some zs) (has_some ws) f g (sym (some_append xs ys) ∙ e)

  fewer_none : (xs ys : List NameReference) → xs ≡ [] → Fewer xs ys
  fewer_none xs ys is e = let none : has_some [] ≡ true = sym (ap has_some is) ∙ e in absurd (cc)

  fewer_flat : {A B : Type 0} (R : A → B → Type 0) (f : A → List NameReference) (g : B → List NameReference) → ((x : A) (y : B) → R x y → Fewer (g y) (f x))
      → (xs : List A) (ys : List B) → AllZip R xs ys → Fewer (flat_map g ys) (flat_map f xs)
  fewer_flat R f g h [] [] z = λ e. e
  fewer_flat R f g h [] (y ∷ ys) z = absurd z
  fewer_flat R f g h (x ∷ xs) [] z = absurd z
  fewer_flat R f g h (x ∷ xs) (y ∷ ys) z = fewer_append (g y) (flat_map g ys) (f x) (flat_map f xs) (h x y z.0) (fewer_flat R f g h xs ys z.1)

  fewer_common : (t u : Written NameReference) → Stands t u → Fewer (entity_references u) (entity_references t)
  fewer_common _ _ (rewritten {t} {u} h) = fewer_none (entity_references u) (entity_references t) (no_entity_references t u h)
  fewer_common _ _ stays = λ e. e

module _ (W V : World) (same_extensions : V.extensions ≡ W.extensions) (rewrites : NamespacesRewritten W.namespaces V.namespaces) where
  parents_same : entity_parents (entity_types V) ≡ entity_parents (entity_types W)
  parents_same = zip_same (SameKey EntityRewritten) (λ e. parents_of e.1) (λ e. parents_of e.1) (λ x y h. same_parents x.1 y.1 h.value) (entity_types W) (entity_types V) (types_related W V same_extensions rewrites)

  applications_same : applications (actions V) ≡ applications (actions W)
  applications_same = zip_same (SameKey ActionRewritten) (λ a. a.1.principals ++ a.1.resources) (λ a. a.1.principals ++ a.1.resources)
      (λ x y h. λ i. h.value.principals i ++ h.value.resources i) (actions W) (actions V) (actions_related W V same_extensions rewrites)

  module _ (name : FullName) where
    abbrev p : FullName → Bool
    p = is_at (words_cmp name)

    fewer : Fewer (names W) p (references_to_entities V) (references_to_entities W)
    fewer = fewer_append (names W) p
        (all_entity_references (common_types V)) (all_entity_references (uses V) ++ (entity_parents (entity_types V) ++ applications (actions V)))
        (all_entity_references (common_types W)) (all_entity_references (uses W) ++ (entity_parents (entity_types W) ++ applications (actions W)))
        (fewer_flat (names W) p (SameKey Stands) (λ e. entity_references e.1) (λ e. entity_references e.1)
        (λ x y h. fewer_common (names W) p x.1 y.1 h.value) (common_types W) (common_types V) (commons_related W V same_extensions rewrites))
        (fewer_append (names W) p (all_entity_references (uses V)) (entity_parents (entity_types V) ++ applications (actions V)) (all_entity_references (uses W)) (entity_parents (entity_types W) ++ applications (actions W))
        (fewer_flat (names W) p SameUse (λ e. entity_references e.1) (λ e. entity_references e.1)
        (λ x y h. fewer_none (names W) p (entity_references y.1) (entity_references x.1) (no_use_references x.0 x.1 y.1 h.type)) (uses W) (uses V) (uses_related W V same_extensions rewrites))
        (λ e. sym (ap (has_some (names W) p) (λ i. parents_same i ++ applications_same i)) ∙ e))

    -- what is undeclared there is undeclared here
    undeclared_back : IsUndeclared V name → IsUndeclared W name
    undeclared_back h =
        let there : (contains words_cmp (targets (names W) (references_to_entities V)) name && not (is_entity (names W) name)) ≡ true =
        sym (ap (λ (N : Names). contains words_cmp (targets N (references_to_entities V)) name && not (is_entity N name)) (names_same W V same_extensions rewrites)) ∙ h in
        both_true (contains words_cmp (targets (names W) (references_to_entities W)) name) (not (is_entity (names W) name))
        (fewer (left_true (contains words_cmp (targets (names W) (references_to_entities V)) name) (not (is_entity (names W) name)) there))
        (right_true (contains words_cmp (targets (names W) (references_to_entities V)) name) (not (is_entity (names W) name)) there)

  pub undeclared_there : ((name : FullName) → IsUndeclared W name → ⊥) → (name : FullName) → IsUndeclared V name → ⊥
  undeclared_there h name undeclared = h name (undeclared_back name undeclared)
