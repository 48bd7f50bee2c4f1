-- SPDX-License-Identifier: Apache-2.0
-- A set of names is the same, whether of equal ones the first alone gets its full names, or each.
use Rattle.std.proofs.Common.{◌≡◌, List, map, Option, sym, ap, ◌∙◌}
use Rattle.cedar_data.specs.Sets.{set_of}
use Rattle.cedar_names.specs.Components.{components}
use Rattle.cedar_names.specs.OrderLaws.{words-total}
use Rattle.cedar_names.specs.declared.internal_name.InternalName.{InternalName}
use Rattle.cedar_written.specs.Possibilities.{conditional, written}
use Rattle.cedar_written.specs.Qualifying.{qualifying}
use Rattle.cedar_written.specs.Reference.{named}
use Rattle.cedar_written.specs.Through.{through_names}
use Rattle.cedar_written.specs.declared.raw_name.RawName.{RawName}
use Rattle.cedar_written.specs.declared.reference_type.ReferenceType.{ReferenceType}
use Rattle.cedar_namespace_definitions.specs.Definitions.{sure}
use Rattle.cedar_namespace_definitions.specs.Orders.{conditional_cmp}
use Rattle.cedar_namespace_definitions.proofs.OrderedSets.{seen_once}
use Rattle.cedar_namespace_definitions.proofs.ReferenceOrder.{in_order, raw_cmp}
use Rattle.cedar_namespace_definitions.proofs.SureSteps.{sure_items}

module _ (ns : Option InternalName) (kind : ReferenceType) where
  full : (names : List RawName) → sure (through_names (qualifying ns) kind names) ≡ map (conditional ns kind) names
  full names = sure_items (λ name. qualifying ns (named kind name)) names

  pub names_once : (names : List RawName) → set_of conditional_cmp (sure (through_names (qualifying ns) kind (set_of raw_cmp names))) ≡ set_of conditional_cmp (sure (through_names (qualifying ns) kind names))
  names_once names =
      ap (set_of conditional_cmp) (full (set_of raw_cmp names))
      ∙ seen_once raw_cmp conditional_cmp (conditional ns kind) (in_order ns kind) (words-total (λ n. components (written n))) names
      ∙ sym (ap (set_of conditional_cmp) (full names))
