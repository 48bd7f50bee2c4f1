-- SPDX-License-Identifier: Apache-2.0
-- What a kept fault tells.
use Rattle.std.specs.Prelude.{[], ◌∷◌, Option}
use Rattle.std.specs.Option.{option_map}
use Rattle.cedar_names.specs.Components.{components}
use Rattle.cedar_names.specs.Identifiers.{unreserved_word}
use Rattle.cedar_schema_error.specs.Refusals.{Refusal}
use Rattle.cedar_schema_error.specs.Refusals as refusal
use Rattle.cedar_unfold.specs.declared.faults.Fault.{Fault}
use Rattle.cedar_unfold.specs.declared.faults.Fault.TheVariants.{OpenRecord, UnknownExtension, NoCommonType, Reserved}

-- what a fault tells
abbrev pub told_fault : Fault → Refusal
told_fault OpenRecord = refusal.OpenRecord
told_fault (UnknownExtension id) = refusal.UnknownExtensionType (unreserved_word id ∷ [])
told_fault (NoCommonType name) = refusal.CommonTypeInvariantViolation (components name)
told_fault (Reserved name) = refusal.ReservedName (components name)

-- what is told of a fault that may be kept
abbrev pub noted : Option Fault → Option Refusal
noted fault = option_map told_fault fault
