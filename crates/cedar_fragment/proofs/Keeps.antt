-- SPDX-License-Identifier: Apache-2.0
-- Where a step keeps what is read of a name, taking declarations through the step keeps what is read of them.
use Rattle.std.proofs.Common.{◌≡◌, List, map, Some, option_map, IfOk, refl}
use Rattle.std.specs.declared.result.Result.{Result}
use Rattle.std.specs.declared.result.Result.TheVariants.{Ok}
use Rattle.cedar_types.specs.of_data.Maps.{map_values}
use Rattle.cedar_written.specs.Answers.{and_then, all_items, all_values, in_option}
use Rattle.cedar_written.specs.Reference.{Reference, parent, renamed}
use Rattle.cedar_written.specs.Through.{through_names, through_type}
use Rattle.cedar_written.specs.declared.ref_name.RefName as ref_name
use Rattle.cedar_written.specs.declared.reference_type.ReferenceType.TheVariants as kind
use Rattle.cedar_written.proofs.Keeps.{kept, map_kept, items_kept, option_kept, names_kept, type_kept}
use Rattle.cedar_fragment.specs.ActionUids.{uid_of}
use Rattle.cedar_fragment.specs.Definitions.{through_action, through_apply, through_common, through_entity, through_kind, through_namespace, through_shape, through_standard, through_uid}
use Rattle.cedar_fragment.specs.declared.action_uid.ActionEntityUID.{ActionEntityUID}
use Rattle.cedar_fragment.specs.declared.attributes_or_context.AttributesOrContext.{AttributesOrContext}
use Rattle.cedar_fragment.specs.declared.definitions.ActionType.{ActionType}
use Rattle.cedar_fragment.specs.declared.definitions.ApplySpec.{ApplySpec}
use Rattle.cedar_fragment.specs.declared.definitions.CommonType.{CommonType}
use Rattle.cedar_fragment.specs.declared.definitions.EntityType.{EntityType}
use Rattle.cedar_fragment.specs.declared.definitions.EntityTypeKind.{EntityTypeKind}
use Rattle.cedar_fragment.specs.declared.definitions.EntityTypeKind.TheVariants as sort
use Rattle.cedar_fragment.specs.declared.definitions.NamespaceDefinition.{NamespaceDefinition}
use Rattle.cedar_fragment.specs.declared.definitions.StandardEntityType.{StandardEntityType}

-- Kept f h g v: where f gives something of v, what h reads of that is what g reads of v
abbrev pub Kept : {A B C E F : Type 0} → (A → Result B E) → (B → Result C F) → (A → Result C F) → A → Type 0
Kept f h g v = IfOk (f v) (λ w. h w ≡ g v)

module _ {N M X E F : Type 0} (s : Reference N → Result M E) (h : Reference M → Result X F) (g : Reference N → Result X F) (keeps : (r : Reference N) → IfOk (s r) (λ m. h (renamed r m) ≡ g r)) where
  -- a shape or a context
  pub shape_kept : (a : AttributesOrContext N) → Kept (through_shape s) (through_shape h) (through_shape g) a
  shape_kept a = kept (through_type s a.0) _ (λ t. through_type h t ≡ through_type g a.0) _ (type_kept s h g keeps a.0) (λ t is i. and_then (is i) (λ ty. Ok (record { 0 = ty })))

  -- a common type
  pub common_kept : (c : CommonType N) → Kept (through_common s) (through_common h) (through_common g) c
  common_kept c = kept (through_type s c.ty) _ (λ t. through_type h t ≡ through_type g c.ty) _ (type_kept s h g keeps c.ty) (λ t is i. and_then (is i) (λ ty. Ok (record { ty = ty; annotations = c.annotations; loc = c.loc })))

  -- a standard entity type
  pub standard_kept : (e : StandardEntityType N) → Kept (through_standard s) (through_standard h) (through_standard g) e
  standard_kept e =
      kept (through_names s kind.Entity e.member_of_types) _ (λ ms. through_names h kind.Entity ms ≡ through_names g kind.Entity e.member_of_types) _ (names_kept s h g keeps kind.Entity e.member_of_types) (λ ms is.
      kept (through_shape s e.shape) _ (λ t. through_shape h t ≡ through_shape g e.shape) _ (shape_kept e.shape) (λ t is'.
      kept (in_option (option_map (through_type s) e.tags)) _ (λ o. in_option (option_map (through_type h) o) ≡ in_option (option_map (through_type g) e.tags)) _ (option_kept (through_type s) (through_type h) (through_type g) (type_kept s h g keeps) e.tags) (λ o is'' i.
      and_then (is i) (λ member_of_types. and_then (is' i) (λ shape. and_then (is'' i) (λ tags. Ok (record { member_of_types = member_of_types; shape = shape; tags = tags })))))))

  -- what kind of entity type it is
  pub kind_kept : (k : EntityTypeKind N) → Kept (through_kind s) (through_kind h) (through_kind g) k
  kind_kept (sort.Standard e) = kept (through_standard s e) _ (λ e'. through_standard h e' ≡ through_standard g e) _ (standard_kept e) (λ e' is i. and_then (is i) (λ e. Ok (sort.Standard e)))
  kind_kept (sort.Enum choices) = refl

  -- an entity type
  pub entity_kept : (e : EntityType N) → Kept (through_entity s) (through_entity h) (through_entity g) e
  entity_kept e = kept (through_kind s e.kind) _ (λ k. through_kind h k ≡ through_kind g e.kind) _ (kind_kept e.kind) (λ k is i. and_then (is i) (λ sort. Ok (record { kind = sort; annotations = e.annotations; loc = e.loc })))

  -- what an action applies to
  pub apply_kept : (a : ApplySpec N) → Kept (through_apply s) (through_apply h) (through_apply g) a
  apply_kept a =
      kept (through_names s kind.Entity a.resource_types) _ (λ ms. through_names h kind.Entity ms ≡ through_names g kind.Entity a.resource_types) _ (names_kept s h g keeps kind.Entity a.resource_types) (λ ms is.
      kept (through_names s kind.Entity a.principal_types) _ (λ ms. through_names h kind.Entity ms ≡ through_names g kind.Entity a.principal_types) _ (names_kept s h g keeps kind.Entity a.principal_types) (λ ms is'.
      kept (through_shape s a.context) _ (λ t. through_shape h t ≡ through_shape g a.context) _ (shape_kept a.context) (λ t is'' i.
      and_then (is i) (λ resource_types. and_then (is' i) (λ principal_types. and_then (is'' i) (λ context. Ok (record { resource_types = resource_types; principal_types = principal_types; context = context })))))))

module _ {N M X E F : Type 0} (R : ref_name.Ghosts N) (R' : ref_name.Ghosts M) (R'' : ref_name.Ghosts X) (s : Reference N → Result M E) (h : Reference M → Result X F) (g : Reference N → Result X F) (keeps : (r : Reference N) → IfOk (s r) (λ m. h (renamed r m) ≡ g r)) where
  -- an action as a parent
  pub uid_kept : (u : ActionEntityUID N R) → Kept (through_uid R R' s) (through_uid R' R'' h) (through_uid R R'' g) u
  uid_kept u = kept (s (parent u.id u.ty)) _ (λ m. h (parent u.id (Some m)) ≡ g (parent u.id u.ty)) _ (keeps (parent u.id u.ty)) (λ m is i. and_then (is i) (λ ty. Ok (uid_of R'' u.id ty)))

  abbrev all_of : {A B E : Type 0} → (A → Result B E) → List A → Result (List B) E
  all_of f us = all_items (map f us)

  -- an action
  pub action_kept : (a : ActionType N R) → Kept (through_action R R' s) (through_action R' R'' h) (through_action R R'' g) a
  action_kept a =
      kept (in_option (option_map (through_apply s) a.applies_to)) _ (λ o. in_option (option_map (through_apply h) o) ≡ in_option (option_map (through_apply g) a.applies_to)) _ (option_kept (through_apply s) (through_apply h) (through_apply g) (apply_kept s h g keeps) a.applies_to) (λ o is.
      kept (in_option (option_map (all_of (through_uid R R' s)) a.member_of)) _ (λ o. in_option (option_map (all_of (through_uid R' R'' h)) o) ≡ in_option (option_map (all_of (through_uid R R'' g)) a.member_of)) _
      (option_kept (all_of (through_uid R R' s)) (all_of (through_uid R' R'' h)) (all_of (through_uid R R'' g)) (items_kept (through_uid R R' s) (through_uid R' R'' h) (through_uid R R'' g) uid_kept) a.member_of) (λ o is' i.
      and_then (is i) (λ applies_to. and_then (is' i) (λ member_of. Ok (record { attributes = a.attributes; applies_to = applies_to; member_of = member_of; annotations = a.annotations; loc = a.loc })))))

  -- the definitions of a namespace
  pub namespace_kept : (n : NamespaceDefinition N R) → Kept (through_namespace R R' s) (through_namespace R' R'' h) (through_namespace R R'' g) n
  namespace_kept n =
      kept (all_values (map_values (through_common s) n.common_types)) _ (λ es. all_values (map_values (through_common h) es) ≡ all_values (map_values (through_common g) n.common_types)) _ (map_kept (through_common s) (through_common h) (through_common g) (common_kept s h g keeps) n.common_types) (λ es is.
      kept (all_values (map_values (through_entity s) n.entity_types)) _ (λ es. all_values (map_values (through_entity h) es) ≡ all_values (map_values (through_entity g) n.entity_types)) _ (map_kept (through_entity s) (through_entity h) (through_entity g) (entity_kept s h g keeps) n.entity_types) (λ es is'.
      kept (all_values (map_values (through_action R R' s) n.actions)) _ (λ es. all_values (map_values (through_action R' R'' h) es) ≡ all_values (map_values (through_action R R'' g) n.actions)) _ (map_kept (through_action R R' s) (through_action R' R'' h) (through_action R R'' g) action_kept n.actions) (λ es is'' i.
      and_then (is i) (λ common_types. and_then (is' i) (λ entity_types. and_then (is'' i) (λ actions. Ok (record { common_types = common_types; entity_types = entity_types; actions = actions; annotations = n.annotations })))))))
