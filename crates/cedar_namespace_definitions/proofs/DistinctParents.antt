-- SPDX-License-Identifier: Apache-2.0
-- An entity type is the same, whether of equal parents the first alone gets its full names, or each.
use Rattle.std.proofs.Common.{◌≡◌, List, Option, option_map, refl, sym, ap, ◌∙◌}
use Rattle.std.specs.declared.result.Result.TheVariants.{Ok}
use Rattle.cedar_data.specs.Sets.{set_of}
use Rattle.cedar_names.specs.declared.internal_name.InternalName.{InternalName}
use Rattle.cedar_written.specs.Answers.{in_option}
use Rattle.cedar_written.specs.Qualifying.{qualifying}
use Rattle.cedar_written.specs.Through.{through_names, through_type}
use Rattle.cedar_written.specs.declared.conditional_name.ConditionalName.{ConditionalName}
use Rattle.cedar_written.specs.declared.raw_name.RawName.{RawName}
use Rattle.cedar_written.specs.declared.reference_type.ReferenceType.TheVariants as kind
use Rattle.cedar_fragment.specs.Definitions.{through_kind, through_shape, through_standard}
use Rattle.cedar_fragment.specs.declared.definitions.EntityType.{EntityType}
use Rattle.cedar_fragment.specs.declared.definitions.EntityTypeKind.{EntityTypeKind}
use Rattle.cedar_fragment.specs.declared.definitions.EntityTypeKind.TheVariants as sort
use Rattle.cedar_fragment.specs.declared.definitions.StandardEntityType.{StandardEntityType}
use Rattle.cedar_definitions.specs.declared.structures.EntityTypeFragment.{EntityTypeFragment}
use Rattle.cedar_definitions.specs.declared.structures.EntityTypeFragment.TheVariants as made
use Rattle.cedar_namespace_definitions.specs.Definitions.{distinct_parents, entity_made, kind_made, standard_made, sure}
use Rattle.cedar_namespace_definitions.specs.Orders.{conditional_cmp}
use Rattle.cedar_namespace_definitions.proofs.DistinctNames.{names_once}
use Rattle.cedar_namespace_definitions.proofs.ReferenceOrder.{raw_cmp}
use Rattle.cedar_namespace_definitions.proofs.Sure.{is_sure}
use Rattle.cedar_namespace_definitions.proofs.SureSteps.{sure_one, sure_three}

module _ (ns : Option InternalName) where
  -- a standard entity type with this set of parents, all else as here
  abbrev with_parents : StandardEntityType RawName → List ConditionalName → EntityTypeFragment ConditionalName
  with_parents e parents = made.Standard (sure (through_shape (qualifying ns) e.shape)) parents (sure (in_option (option_map (through_type (qualifying ns)) e.tags)))

  -- what becomes of one
  standard : (e : StandardEntityType RawName)
      → kind_made conditional_cmp (sure (through_kind (qualifying ns) (sort.Standard e))) ≡ with_parents e (set_of conditional_cmp (sure (through_names (qualifying ns) kind.Entity e.member_of_types)))
  standard e =
      ap (kind_made conditional_cmp) (sure_one (through_standard (qualifying ns) e) (λ e. sort.Standard e))
      ∙ ap (standard_made conditional_cmp) (
      sure_three (through_names (qualifying ns) kind.Entity e.member_of_types) (through_shape (qualifying ns) e.shape) (in_option (option_map (through_type (qualifying ns)) e.tags))
      (λ member_of_types shape tags. record { member_of_types = member_of_types; shape = shape; tags = tags }))

  -- its parents once each
  once : (k : EntityTypeKind RawName) → kind_made conditional_cmp (sure (through_kind (qualifying ns) (distinct_parents raw_cmp k))) ≡ kind_made conditional_cmp (sure (through_kind (qualifying ns) k))
  once (sort.Standard e) =
      standard (record { member_of_types = set_of raw_cmp e.member_of_types; shape = e.shape; tags = e.tags }) ∙ ap (with_parents e) (names_once ns kind.Entity e.member_of_types) ∙ sym (standard e)
  once (sort.Enum choices) = refl

  whole : (e : EntityType RawName) → kind_made conditional_cmp (sure (through_kind (qualifying ns) e.kind)) ≡ entity_made ns e
  unfolding entity_made
  whole e = sym (ap (λ (made : EntityType ConditionalName). kind_made conditional_cmp made.kind) (sure_one (through_kind (qualifying ns) e.kind) (λ made. record { kind = made; annotations = e.annotations; loc = e.loc })))

  -- so is an entity type
  pub distinct_made : (e : EntityType RawName) (k : EntityTypeKind RawName) (full : EntityTypeKind ConditionalName) → k ≡ distinct_parents raw_cmp e.kind → through_kind (qualifying ns) k ≡ Ok full
      → kind_made conditional_cmp full ≡ entity_made ns e
  distinct_made e k full distinct through =
      ap (kind_made conditional_cmp) (is_sure (through_kind (qualifying ns) k) full through ∙ ap (λ k. sure (through_kind (qualifying ns) k)) distinct) ∙ once e.kind ∙ whole e
