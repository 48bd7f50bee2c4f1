-- SPDX-License-Identifier: Apache-2.0
-- References to types and to actions, as they are carried from their namespace: each with the names that it may stand for, places aside.
use Rattle.std.specs.Prelude.{ℕ, List, [], map}
use Rattle.std.specs.Option.{option_map_or}
use Rattle.cedar_names.specs.Components.{components}
use Rattle.cedar_names.specs.of_text.Lists.{elements}
use Rattle.cedar_fragment.specs.ActionUids.{over_conditional, type_in}
use Rattle.cedar_fragment.specs.declared.action_uid.ActionEntityUID.{ActionEntityUID}
use Rattle.cedar_written.specs.Possibilities.{kind_of, possibilities_of, raw_of, written}
use Rattle.cedar_written.specs.declared.conditional_name.ConditionalName.{ConditionalName}
use Rattle.cedar_written.specs.declared.reference_type.ReferenceType.{ReferenceType}
use Rattle.cedar_written.specs.declared.reference_type.ReferenceType.TheVariants as kind
use Rattle.cedar_schema_error.specs.FullNames.{FullName}

-- a reference: the name as it is written, the names that it may stand for, the first to be tried first, and what it may be
pub record NameReference : Type 0 where
  pub raw : FullName
  pub possibilities : List FullName
  pub kind : ReferenceType

-- a reference to an action: that to its type, and its text
pub record ActionReference : Type 0 where
  pub ty : NameReference
  pub id : List ℕ

-- the reference that a conditional name is
abbrev pub reference_of : ConditionalName → NameReference
reference_of n = record {
  raw = components (written (raw_of n));
  possibilities = map components (elements (possibilities_of n));
  kind = kind_of n;
}

-- a reference that may stand for nothing; the type of an action over conditional names is there, so it is none
abbrev pub no_reference : NameReference
no_reference = record { raw = []; possibilities = []; kind = kind.Entity }

-- the reference to an action that the parent of an action is
abbrev pub action_reference_of : ActionEntityUID ConditionalName over_conditional → ActionReference
action_reference_of a = record { ty = option_map_or reference_of (type_in a) no_reference; id = a.id }
