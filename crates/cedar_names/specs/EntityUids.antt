-- SPDX-License-Identifier: Apache-2.0
use Rattle.std.specs.Prelude.{ℕ, List, ◌++◌, Option, codes}
use Rattle.cedar_text.specs.Joining.{joined}
use Rattle.cedar_text.specs.Escapes.{escaped}
use Rattle.cedar_names.specs.Names.{entity_words}
use Rattle.cedar_names.specs.declared.entity_uid.Eid.{Eid}
use Rattle.cedar_names.specs.declared.entity_uid.EntityUID.{EntityUID}
use Rattle.cedar_text.specs.declared.location.Loc.{Loc}
use Rattle.cedar_names.specs.declared.name.EntityType.{EntityType}

-- the text of an id
abbrev pub eid_text : Eid → List ℕ
eid_text eid = eid.text

-- the entity of this id in this type, at this place
abbrev pub entity_uid : EntityType → Eid → Option Loc → EntityUID
entity_uid ty eid loc = record { ty = ty; eid = eid; loc = loc }

-- the type of an entity
abbrev pub entity_type_of : EntityUID → EntityType
entity_type_of uid = uid.ty

-- its id
abbrev pub eid_of : EntityUID → Eid
eid_of uid = uid.eid

-- its place
abbrev pub place_of : EntityUID → Option Loc
place_of uid = uid.loc

-- what is printed of an entity: its type, `::`, and its quoted id
abbrev pub uid_text : EntityUID → List ℕ
uid_text uid = joined (entity_words uid.ty) ++ codes "::\"" ++ escaped (eid_text uid.eid) ++ codes "\""
