-- SPDX-License-Identifier: Apache-2.0
-- What an action applies to is the same, whether of equal principals and of equal resources the first alone gets its full names, or each.
use Rattle.std.proofs.Common.{◌≡◌, Option, Some, None, option_map, refl, sym, ap, ◌∙◌}
use Rattle.cedar_names.specs.declared.internal_name.InternalName.{InternalName}
use Rattle.cedar_written.specs.Qualifying.{qualifying}
use Rattle.cedar_written.specs.Through.{through_names}
use Rattle.cedar_written.specs.declared.conditional_name.ConditionalName.{ConditionalName}
use Rattle.cedar_written.specs.declared.raw_name.RawName.{RawName}
use Rattle.cedar_written.specs.declared.reference_type.ReferenceType.TheVariants as kind
use Rattle.cedar_fragment.specs.Definitions.{through_apply, through_shape}
use Rattle.cedar_fragment.specs.declared.definitions.ApplySpec.{ApplySpec}
use Rattle.cedar_namespace_definitions.specs.Definitions.{application_in, applied_in, context_in, distinct_application, sure}
use Rattle.cedar_namespace_definitions.specs.Orders.{conditional_cmp}
use Rattle.cedar_namespace_definitions.proofs.DistinctNames.{names_once}
use Rattle.cedar_namespace_definitions.proofs.ReferenceOrder.{raw_cmp}
use Rattle.cedar_namespace_definitions.proofs.SureSteps.{sure_one, sure_three}

module _ (ns : Option InternalName) where
  -- each part with its full names
  abbrev in_parts : ApplySpec RawName → ApplySpec ConditionalName
  in_parts a = record {
    resource_types = sure (through_names (qualifying ns) kind.Entity a.resource_types);
    principal_types = sure (through_names (qualifying ns) kind.Entity a.principal_types);
    context = sure (through_shape (qualifying ns) a.context);
  }

  by_parts : (a : ApplySpec RawName) → applied_in ns (Some a) ≡ Some (in_parts a)
  by_parts a =
      sure_one (through_apply (qualifying ns) a) Some
      ∙ ap Some (sure_three (through_names (qualifying ns) kind.Entity a.resource_types) (through_names (qualifying ns) kind.Entity a.principal_types) (through_shape (qualifying ns) a.context)
      (λ resource_types principal_types context. record { resource_types = resource_types; principal_types = principal_types; context = context }))

  -- principals and resources once each
  sets_once : (a : ApplySpec RawName) → application_in conditional_cmp (Some (in_parts (distinct_application raw_cmp a))) ≡ application_in conditional_cmp (Some (in_parts a))
  sets_once a = λ i. record {
    principal_apply_spec = names_once ns kind.Entity a.principal_types i;
    resource_apply_spec = names_once ns kind.Entity a.resource_types i;
  }

  types_once : (a : Option (ApplySpec RawName)) → application_in conditional_cmp (applied_in ns (option_map (distinct_application raw_cmp) a)) ≡ application_in conditional_cmp (applied_in ns a)
  types_once None = refl
  types_once (Some a) = ap (application_in conditional_cmp) (by_parts (distinct_application raw_cmp a)) ∙ sets_once a ∙ sym (ap (application_in conditional_cmp) (by_parts a))

  -- the context stays
  context_stays : (a : Option (ApplySpec RawName)) → context_in (applied_in ns (option_map (distinct_application raw_cmp) a)) ≡ context_in (applied_in ns a)
  context_stays None = refl
  context_stays (Some a) = ap context_in (by_parts (distinct_application raw_cmp a)) ∙ sym (ap context_in (by_parts a))

  module _ (a distinct : Option (ApplySpec RawName)) (full : Option (ApplySpec ConditionalName)) (is : distinct ≡ option_map (distinct_application raw_cmp) a) (through : full ≡ applied_in ns distinct) where
    pub distinct_context : context_in full ≡ context_in (applied_in ns a)
    distinct_context = ap context_in (through ∙ ap (applied_in ns) is) ∙ context_stays a

    pub distinct_types : application_in conditional_cmp full ≡ application_in conditional_cmp (applied_in ns a)
    distinct_types = ap (application_in conditional_cmp) (through ∙ ap (applied_in ns) is) ∙ types_once a
