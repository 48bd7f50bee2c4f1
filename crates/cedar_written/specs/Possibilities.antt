-- SPDX-License-Identifier: Apache-2.0
-- Names as a schema writes them, and the full names that they may stand for.
use Rattle.std.specs.Prelude.{List, [], ◌∷◌, Option, Some, None}
use Rattle.std.specs.Option.{option_map}
use Rattle.cedar_print.specs.of_text.declared.non_empty.NonEmpty.{NonEmpty}
use Rattle.cedar_print.specs.of_names.Components.{all_ids, namespace_of, qualified, qualified_in}
use Rattle.cedar_print.specs.of_names.declared.id.Id.{Id}
use Rattle.cedar_print.specs.of_names.declared.internal_name.InternalName.{InternalName}
use Rattle.cedar_written.specs.declared.conditional_name.ConditionalName.{ConditionalName}
use Rattle.cedar_written.specs.declared.raw_name.RawName.{RawName}
use Rattle.cedar_written.specs.declared.reference_type.ReferenceType.{ReferenceType}

-- a name as it is written
abbrev pub raw_name : InternalName → RawName
raw_name n = record { name = n }

-- what is written
abbrev pub written : RawName → InternalName
written n = n.name

-- a list that begins so
abbrev pub leading : {A : Type 0} → A → List A → NonEmpty A
leading head tail = record { head = head; tail = tail }

-- the full names that a name stands for in the namespace ns, given the name's own namespace
abbrev possible : Option InternalName → InternalName → List Id → NonEmpty InternalName
possible None n ids = leading n []
possible (Some ns) n [] = leading (qualified n (Some ns)) (n ∷ [])
possible (Some ns) n (id ∷ ids) = leading n []

-- in a namespace, an unqualified name stands for the name in it, or else for itself; every other name stands for itself alone
abbrev pub possibilities : Option InternalName → InternalName → NonEmpty InternalName
possibilities ns n = possible ns n (namespace_of n)

-- the identifiers of the namespace that a name names, where there is one
abbrev pub ids_of : Option InternalName → Option (List Id)
ids_of ns = option_map all_ids ns

-- the full names that a name stands for in the namespace of these identifiers, given the name's own namespace
abbrev possible_in : Option (List Id) → InternalName → List Id → NonEmpty InternalName
possible_in None n ids = leading n []
possible_in (Some outer) n [] = leading (qualified_in n (Some outer)) (n ∷ [])
possible_in (Some outer) n (id ∷ ids) = leading n []

-- the same in the namespace of these identifiers, where there is one
abbrev pub possibilities_in : Option (List Id) → InternalName → NonEmpty InternalName
possibilities_in outer n = possible_in outer n (namespace_of n)

-- a written name at a place of a kind, with the full names that it may stand for
abbrev pub reference : RawName → ReferenceType → NonEmpty InternalName → ConditionalName
reference raw kind names = record { reference = record { raw = raw; reference_type = kind; possibilities = names } }

-- a written name at a place of a kind, in the namespace ns, where there is one
abbrev pub conditional : Option InternalName → ReferenceType → RawName → ConditionalName
conditional ns kind raw = reference raw kind (possibilities ns (written raw))

-- the same in the namespace of these identifiers, where there is one
abbrev pub conditional_in : Option (List Id) → ReferenceType → RawName → ConditionalName
conditional_in outer kind raw = reference raw kind (possibilities_in outer (written raw))

-- a name that stands for itself alone
abbrev pub unconditional : InternalName → ReferenceType → ConditionalName
unconditional n kind = reference (raw_name n) kind (leading n [])

-- the name as it is written
abbrev pub raw_of : ConditionalName → RawName
raw_of n = n.reference.raw

-- the kind of its place
abbrev pub kind_of : ConditionalName → ReferenceType
kind_of n = n.reference.reference_type

-- the full names that it may stand for
abbrev pub possibilities_of : ConditionalName → NonEmpty InternalName
possibilities_of n = n.reference.possibilities

-- the one that counts first
abbrev pub first_possibility : ConditionalName → InternalName
first_possibility n = n.reference.possibilities.head
