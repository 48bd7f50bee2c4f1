-- SPDX-License-Identifier: Apache-2.0
-- Where the pieces that an error keeps stand.
use Rattle.std.specs.Prelude.{List, Option, option_to_list}
use Rattle.std.specs.Option.{option_map}
use Rattle.cedar_names.specs.of_text.Places.{span_of}
use Rattle.cedar_names.specs.of_text.declared.location.Loc.{Loc}
use Rattle.cedar_names.specs.of_text.declared.location.Span.{Span}
use Rattle.cedar_names.specs.Components.{loc_of}
use Rattle.cedar_names.specs.Names.{internal_of, name_of}
use Rattle.cedar_names.specs.declared.name.EntityType.{EntityType}
use Rattle.cedar_names.specs.declared.name.Name.{Name}

-- the range of a place, if there is one
abbrev pub range : Option Loc → List Span
range place = option_to_list (option_map span_of place)

-- the place of a name
abbrev pub name_place : Name → Option Loc
name_place name = loc_of (internal_of name)

-- the place of an entity type
abbrev pub entity_place : EntityType → Option Loc
entity_place ty = name_place (name_of ty)
