-- SPDX-License-Identifier: Apache-2.0
-- Actions as parents of others: a type, which names as written may leave out, and an id.
use Rattle.std.specs.Prelude.{◌≡◌, ℕ, Bool, true, false, ◌||◌, IsTrue, List, Option, Some, None, refl}
use Rattle.cedar_types.specs.of_names.EntityUids.{eid_of, eid_text, place_of}
use Rattle.cedar_types.specs.of_names.declared.entity_uid.EntityUID.{EntityUID}
use Rattle.cedar_types.specs.of_names.declared.internal_name.InternalName.{InternalName}
use Rattle.cedar_types.specs.of_names.declared.name.Name.{Name}
use Rattle.cedar_written.specs.declared.conditional_name.ConditionalName.{ConditionalName}
use Rattle.cedar_written.specs.declared.raw_name.RawName.{RawName}
use Rattle.cedar_written.specs.declared.ref_name.RefName as ref_name
use Rattle.cedar_fragment.specs.declared.action_uid.ActionEntityUID.{ActionEntityUID}

-- only a parent over names as written may lack its type
abbrev pub over_raw : ref_name.Ghosts RawName
over_raw = record { may_lack_type = true }

abbrev pub over_conditional : ref_name.Ghosts ConditionalName
over_conditional = record { may_lack_type = false }

abbrev pub over_internal : ref_name.Ghosts InternalName
over_internal = record { may_lack_type = false }

abbrev pub over_full : ref_name.Ghosts Name
over_full = record { may_lack_type = false }

-- an action with a type may stand over any names
pub typed : (b : Bool) → IsTrue (b || true)
typed true = refl
typed false = refl

-- the action of this id and type
abbrev pub uid_of : {N : Type 0} (R : ref_name.Ghosts N) → List ℕ → N → ActionEntityUID N R
uid_of R id ty = record { ty = Some ty; id = id; typed = typed R.may_lack_type }

-- the action of this id, with or without a type
abbrev pub raw_uid : Option RawName → List ℕ → ActionEntityUID RawName over_raw
raw_uid ty id = record { ty = ty; id = id; typed = refl }

-- the type, where one is given
abbrev pub type_in : {N : Type 0} {R : ref_name.Ghosts N} → ActionEntityUID N R → Option N
type_in a = a.ty

-- the entity has this id, and no place
abbrev pub IsEntity : List ℕ → EntityUID → Type 0
IsEntity id u = (eid_text (eid_of u) ≡ id) × (place_of u ≡ None)
