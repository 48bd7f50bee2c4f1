-- SPDX-License-Identifier: Apache-2.0
-- The definition that an entity type becomes is the one that the fragment has, in its namespace.
use Rattle.std.proofs.Common.{◌≡◌, List, map, Option, option_map, refl, ap, ◌∙◌}
use Rattle.cedar_data.specs.Sets.{set_of}
use Rattle.cedar_names.specs.Components.{components}
use Rattle.cedar_names.specs.Order.{words_cmp}
use Rattle.cedar_names.specs.declared.internal_name.InternalName.{InternalName}
use Rattle.cedar_written.specs.Answers.{in_option}
use Rattle.cedar_written.specs.Possibilities.{conditional, written}
use Rattle.cedar_written.specs.Qualifying.{qualifying}
use Rattle.cedar_written.specs.Reference.{named}
use Rattle.cedar_written.specs.Through.{through_names, through_type}
use Rattle.cedar_written.specs.declared.conditional_name.ConditionalName.{ConditionalName}
use Rattle.cedar_written.specs.declared.raw_name.RawName.{RawName}
use Rattle.cedar_written.specs.declared.reference_type.ReferenceType.TheVariants as kind
use Rattle.cedar_written.specs.declared.ty.SchemaType.{SchemaType}
use Rattle.cedar_fragment.specs.Definitions.{through_kind, through_shape, through_standard}
use Rattle.cedar_fragment.specs.declared.attributes_or_context.AttributesOrContext.{AttributesOrContext}
use Rattle.cedar_fragment.specs.declared.definitions.EntityType.{EntityType}
use Rattle.cedar_fragment.specs.declared.definitions.EntityTypeKind.{EntityTypeKind}
use Rattle.cedar_fragment.specs.declared.definitions.EntityTypeKind.TheVariants as sort
use Rattle.cedar_fragment.specs.declared.definitions.StandardEntityType.{StandardEntityType}
use Rattle.cedar_schema_error.specs.NameReferences.{reference_of}
use Rattle.cedar_namespace_definitions.specs.Definitions.{entity_made, kind_made, standard_made, sure}
use Rattle.cedar_namespace_definitions.specs.Orders.{conditional_cmp}
use Rattle.cedar_world.specs.Definitions.{Standard}
use Rattle.cedar_world.specs.DefinitionViews.{kind_in, type_in}
use Rattle.cedar_convert_fragment.specs.Views.{kind_seen, name_at, type_seen}
use Rattle.cedar_fragment_world.specs.FragmentWorlds.{entity_of, entity_types_of, reference, reference_cmp, type_of}
use Rattle.cedar_fragment_world.proofs.Lists.{option_both, sets_alike}
use Rattle.cedar_fragment_world.proofs.NamesSeen.{referred, words_of}
use Rattle.cedar_namespace_definitions.proofs.ReferenceOrder.{in_order}
use Rattle.cedar_namespace_definitions.proofs.SureSteps.{sure_items, sure_one, sure_option, sure_three}
use Rattle.cedar_fragment_world.proofs.TypesSeen.{type_alike}

module _ (ns : Option InternalName) where
  -- a set of names of entity types
  pub names_alike : (names : List RawName) → map reference_of (set_of conditional_cmp (sure (through_names (qualifying ns) kind.Entity names))) ≡ entity_types_of (words_of ns) (map name_at names)
  names_alike names =
      ap (λ made. map reference_of (set_of conditional_cmp made)) (sure_items (λ name. qualifying ns (named kind.Entity name)) names)
      ∙ sets_alike (λ a b. words_cmp (components (written a)) (components (written b))) conditional_cmp reference_cmp (conditional ns kind.Entity) name_at (reference (words_of ns) kind.Entity) reference_of
      (in_order ns kind.Entity) (λ a b. refl) (referred ns kind.Entity) names

  -- a shape or a context
  pub shape_alike : (s : AttributesOrContext RawName) → type_in (sure (through_shape (qualifying ns) s)).0 ≡ type_of (words_of ns) (type_seen s.0)
  shape_alike s = ap (λ (a : AttributesOrContext ConditionalName). type_in a.0) (sure_one (through_type (qualifying ns) s.0) (λ ty. record { 0 = ty })) ∙ type_alike ns s.0

  -- a type of tags, where there is one
  tags_alike : (tags : Option (SchemaType RawName)) → option_map type_in (sure (in_option (option_map (through_type (qualifying ns)) tags))) ≡ option_map (type_of (words_of ns)) (option_map type_seen tags)
  tags_alike tags =
      ap (option_map type_in) (sure_option (through_type (qualifying ns)) tags)
      ∙ option_both type_in (λ t. sure (through_type (qualifying ns) t)) (type_of (words_of ns)) type_seen (type_alike ns) tags

  standard_alike : (e : StandardEntityType RawName) → kind_in (standard_made conditional_cmp (sure (through_standard (qualifying ns) e))) ≡ entity_of (words_of ns) (kind_seen (sort.Standard e))
  standard_alike e =
      ap (λ e. kind_in (standard_made conditional_cmp e)) (
      sure_three (through_names (qualifying ns) kind.Entity e.member_of_types) (through_shape (qualifying ns) e.shape) (in_option (option_map (through_type (qualifying ns)) e.tags))
      (λ member_of_types shape tags. record { member_of_types = member_of_types; shape = shape; tags = tags }))
      ∙ (λ i. Standard (names_alike e.member_of_types i) (shape_alike e.shape i) (tags_alike e.tags i))

  kind_alike : (k : EntityTypeKind RawName) → kind_in (kind_made conditional_cmp (sure (through_kind (qualifying ns) k))) ≡ entity_of (words_of ns) (kind_seen k)
  kind_alike (sort.Standard e) = ap (λ k. kind_in (kind_made conditional_cmp k)) (sure_one (through_standard (qualifying ns) e) (λ e. sort.Standard e)) ∙ standard_alike e
  kind_alike (sort.Enum choices) = refl

  -- an entity type
  pub entity_alike : (e : EntityType RawName) → kind_in (entity_made ns e) ≡ entity_of (words_of ns) (kind_seen e.kind)
  unfolding entity_made
  entity_alike e =
      ap (λ (made : EntityType ConditionalName). kind_in (kind_made conditional_cmp made.kind)) (sure_one (through_kind (qualifying ns) e.kind) (λ made. record { kind = made; annotations = e.annotations; loc = e.loc }))
      ∙ kind_alike e.kind
