-- SPDX-License-Identifier: Apache-2.0
-- A world that is read again declares the same names, and its types are those of the first, each rewritten.
use Rattle.std.proofs.Common.{◌≡◌, ◌++◌, ℕ, true, List, [], refl, sym, ap, ◌∙◌, subst}
use Rattle.std.proofs.lemmas.Grind.{flat_map-append}
use Rattle.std.specs.List.{AllZip, flat_map, list_any}
use Rattle.std.specs.Map.{keys_of}
use Rattle.cedar_declared.specs.Names.{Names, is_common, is_declared, is_entity}
use Rattle.cedar_names.specs.Order.{words_cmp}
use Rattle.cedar_reread_world.specs.Rewritten.{ActionRewritten, DeclaresNothing, EntityRewritten, NamespaceRewritten, NamespacesRewritten, Printable, SameKey, TypeRewritten, left_out, no_more, one_more}
use Rattle.cedar_reread_world.proofs.Zipped.{zip_append, zip_itself, zip_keys, zip_map_of, zip_weaker}
use Rattle.cedar_schema_error.specs.FullNames.{FullName, basename, uid_cmp}
use Rattle.cedar_schema_error.specs.NameReferences.{NameReference}
use Rattle.cedar_text.specs.Words.{has_word, is_primitive_word, primitive_words}
use Rattle.cedar_unfold.specs.Written.{Written}
use Rattle.cedar_world.specs.Definitions.{Namespace}
use Rattle.cedar_written.specs.declared.reference_type.ReferenceType.TheVariants as kind
use Rattle.cedar_world.specs.Worlds.{World, actions, all_namespaces, builtin_namespaces, common_types, entity_types, names, own}

-- a common type that is rewritten, or that stays
pub data Stands : Written NameReference → Written NameReference → Type 0 where
  rewritten : {t u : Written NameReference} → TypeRewritten t u → Stands t u
  stays : {t : Written NameReference} → Stands t t

-- the same is given of all, where it is of each
pub flat_kept : {C : Type 0} (f : Namespace → List C) → ((a b : Namespace) → NamespaceRewritten a b → f b ≡ f a) → ((a : Namespace) → DeclaresNothing a → f a ≡ [])
    → (xs ys : List Namespace) → NamespacesRewritten xs ys → flat_map f ys ≡ flat_map f xs
flat_kept f same nothing _ _ no_more = refl
flat_kept f same nothing _ _ (one_more {ns} {other} {all} {others} h rest) = λ i. same ns other h i ++ flat_kept f same nothing all others rest i
flat_kept f same nothing _ _ (left_out {ns} {all} {others} h rest) = flat_kept f same nothing all others rest ∙ sym (ap (λ l. l ++ flat_map f all) (nothing ns h))

-- what is given of all is related in turn, where it is of each
pub flat_related : {C : Type 0} (R : C → C → Type 0) (f : Namespace → List C) → ((a b : Namespace) → NamespaceRewritten a b → AllZip R (f a) (f b)) → ((a : Namespace) → DeclaresNothing a → f a ≡ [])
    → (xs ys : List Namespace) → NamespacesRewritten xs ys → AllZip R (flat_map f xs) (flat_map f ys)
flat_related R f each nothing _ _ no_more = tt
flat_related R f each nothing _ _ (one_more {ns} {other} {all} {others} h rest) = zip_append R (f ns) (f other) (flat_map f all) (flat_map f others) (each ns other h) (flat_related R f each nothing all others rest)
flat_related R f each nothing _ _ (left_out {ns} {all} {others} h rest) = subst (λ l. AllZip R (l ++ flat_map f all) (flat_map f others)) (sym (nothing ns h)) (flat_related R f each nothing all others rest)

module _ (W V : World) (same_extensions : V.extensions ≡ W.extensions) (read : NamespacesRewritten W.namespaces V.namespaces) where
  -- the caller declares the same names
  pub own_same : own V ≡ own W
  own_same = λ i. record {
    entity_types = flat_kept (λ ns. keys_of ns.entity_types) (λ a b h. zip_keys EntityRewritten a.entity_types b.entity_types h.entity_types) (λ a h. ap keys_of h.entity_types) W.namespaces V.namespaces read i;
    common_types = flat_kept (λ ns. keys_of ns.common_types) (λ a b h. zip_keys TypeRewritten a.common_types b.common_types h.common_types) (λ a h. ap keys_of h.common_types) W.namespaces V.namespaces read i;
    actions = flat_kept (λ ns. keys_of ns.actions) (λ a b h. zip_keys ActionRewritten a.actions b.actions h.actions) (λ a h. ap keys_of h.actions) W.namespaces V.namespaces read i;
  }

  abbrev pub others : List Namespace
  others = builtin_namespaces (own W) W.extensions

  -- the builtin types and aliases are the same
  pub others_same : builtin_namespaces (own V) V.extensions ≡ others
  others_same = λ i. builtin_namespaces (own_same i) (same_extensions i)

  -- the same is given of all namespaces
  pub all_kept : {C : Type 0} (f : Namespace → List C) → ((a b : Namespace) → NamespaceRewritten a b → f b ≡ f a) → ((a : Namespace) → DeclaresNothing a → f a ≡ [])
      → flat_map f (all_namespaces V) ≡ flat_map f (all_namespaces W)
  all_kept f same nothing =
      flat_map-append f V.namespaces (builtin_namespaces (own V) V.extensions)
      ∙ (λ i. flat_kept f same nothing W.namespaces V.namespaces read i ++ flat_map f (others_same i))
      ∙ sym (flat_map-append f W.namespaces others)

  pub names_same : names V ≡ names W
  names_same = λ i. record {
    entity_types = all_kept (λ ns. keys_of ns.entity_types) (λ a b h. zip_keys EntityRewritten a.entity_types b.entity_types h.entity_types) (λ a h. ap keys_of h.entity_types) i;
    common_types = all_kept (λ ns. keys_of ns.common_types) (λ a b h. zip_keys TypeRewritten a.common_types b.common_types h.common_types) (λ a h. ap keys_of h.common_types) i;
    actions = all_kept (λ ns. keys_of ns.actions) (λ a b h. zip_keys ActionRewritten a.actions b.actions h.actions) (λ a h. ap keys_of h.actions) i;
  }

  all_related : {C : Type 0} (R : C → C → Type 0) (f : Namespace → List C) → AllZip R (flat_map f W.namespaces) (flat_map f V.namespaces) → AllZip R (flat_map f others) (flat_map f others)
      → AllZip R (flat_map f (all_namespaces W)) (flat_map f (all_namespaces V))
  all_related R f z w = subst (λ l. AllZip R l (flat_map f (all_namespaces V))) (sym (flat_map-append f W.namespaces others))
      (subst (λ l. AllZip R (flat_map f W.namespaces ++ flat_map f others) l)
      (sym (flat_map-append f V.namespaces (builtin_namespaces (own V) V.extensions) ∙ ap (λ b. flat_map f V.namespaces ++ flat_map f b) others_same))
      (zip_append R (flat_map f W.namespaces) (flat_map f V.namespaces) (flat_map f others) (flat_map f others) z w))

  -- common types, entity types and actions are those of the first, each in turn
  pub commons_related : AllZip (SameKey Stands) (common_types W) (common_types V)
  commons_related = zip_map_of words_cmp Stands (flat_map (λ ns. ns.common_types) (all_namespaces W)) (flat_map (λ ns. ns.common_types) (all_namespaces V))
      (all_related (SameKey Stands) (λ ns. ns.common_types)
      (zip_weaker (SameKey TypeRewritten) (SameKey Stands) (λ x y h. record { key = h.key; value = rewritten h.value }) (flat_map (λ ns. ns.common_types) W.namespaces) (flat_map (λ ns. ns.common_types) V.namespaces)
      (flat_related (SameKey TypeRewritten) (λ ns. ns.common_types) (λ a b h. h.common_types) (λ a h. h.common_types) W.namespaces V.namespaces read))
      (zip_itself (SameKey Stands) (λ x. record { key = refl; value = stays }) (flat_map (λ ns. ns.common_types) others)))

  pub types_related : AllZip (SameKey EntityRewritten) (entity_types W) (entity_types V)
  types_related = zip_map_of words_cmp EntityRewritten (flat_map (λ ns. ns.entity_types) (all_namespaces W)) (flat_map (λ ns. ns.entity_types) (all_namespaces V))
      (all_related (SameKey EntityRewritten) (λ ns. ns.entity_types) (flat_related (SameKey EntityRewritten) (λ ns. ns.entity_types) (λ a b h. h.entity_types) (λ a h. h.entity_types) W.namespaces V.namespaces read) tt)

  pub actions_related : AllZip (SameKey ActionRewritten) (actions W) (actions V)
  actions_related = zip_map_of uid_cmp ActionRewritten (flat_map (λ ns. ns.actions) (all_namespaces W)) (flat_map (λ ns. ns.actions) (all_namespaces V))
      (all_related (SameKey ActionRewritten) (λ ns. ns.actions) (flat_related (SameKey ActionRewritten) (λ ns. ns.actions) (λ a b h. h.actions) (λ a h. h.actions) W.namespaces V.namespaces read) tt)

  -- it can be printed too
  pub printable_there : Printable W → Printable V
  printable_there p = record {
    one_kind = subst (λ (o : Names). (n : FullName) → is_entity o n ≡ true → is_common o n ≡ true → ⊥) (sym own_same) p.one_kind;
    no_builtin_word = λ n is. ap (λ (e : List (List ℕ)). has_word (primitive_words ++ e) (basename n)) same_extensions ∙ p.no_builtin_word n (sym (ap (λ (o : Names). is_entity o n) own_same) ∙ is);
    unreserved = λ n is. p.unreserved n (sym (ap (λ (o : Names). is_declared o kind.CommonOrEntity n) own_same) ∙ is);
    no_primitive_word = ap (list_any is_primitive_word) same_extensions ∙ p.no_primitive_word;
  }
