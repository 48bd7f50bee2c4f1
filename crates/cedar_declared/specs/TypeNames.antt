-- SPDX-License-Identifier: Apache-2.0
-- Names of types that grow by one.
use Rattle.std.specs.Prelude.{◌≡◌, ◌||◌, cond, List, [], ◌∷◌, Option, Some, None, unwrap_or}
use Rattle.std.specs.BTreeMap.{insert_entry, is_at}
use Rattle.std.specs.BTreeSet.{insert_key}
use Rattle.cedar_data.specs.Maps.{get}
use Rattle.cedar_data.specs.Sets.{contains}
use Rattle.cedar_names.specs.Components.{basename_of, components, loc_of, namespace_of}
use Rattle.cedar_names.specs.Names.{internal_cmp}
use Rattle.cedar_names.specs.Order.{words_cmp}
use Rattle.cedar_names.specs.declared.id.Id.{Id}
use Rattle.cedar_names.specs.declared.internal_name.InternalName.{InternalName}
use Rattle.cedar_names.specs.of_text.declared.location.Loc.{Loc}
use Rattle.cedar_schema_error.specs.FullNames.{FullName}
use Rattle.cedar_declared.specs.Basenames.{id_cmp}
use Rattle.cedar_declared.specs.Held.{type_names}
use Rattle.cedar_declared.specs.declared.all_defs.AllDefs.{AllDefs}
use Rattle.cedar_declared.specs.declared.type_names.TypeNames.{TypeNames}

-- a name put to the others, given its namespace
abbrev pub put_name : TypeNames → InternalName → List Id → TypeNames
put_name t n [] = record { unqualified = insert_entry id_cmp t.unqualified (basename_of n) (loc_of n); qualified = t.qualified }
put_name t n (id ∷ ids) = record { unqualified = t.unqualified; qualified = insert_key internal_cmp t.qualified n }

-- a name put to the others, unless it is one of them
abbrev pub with_name : TypeNames → InternalName → TypeNames
with_name t n = cond (contains words_cmp (type_names t) (components n)) t (put_name t n (namespace_of n))

-- the new names are the old ones and this one, as far as a name of a schema can tell
abbrev pub AddsName : List FullName → List FullName → InternalName → Type 0
AddsName old new name = (other : InternalName)
    → contains words_cmp new (components other) ≡ (is_at (words_cmp (components other)) (components name) || contains words_cmp old (components other))

-- the place of the first, and where it is not there, of the second
abbrev pub first_place : Option (Option Loc) → Option (Option Loc) → Option Loc
first_place (Some place) second = place
first_place None second = unwrap_or second None

-- the place of the type of which this component alone is the name: that of an entity type, else that of a common type
abbrev pub place_alone : AllDefs → Id → Option Loc
place_alone d id = first_place (get id_cmp d.entity_types.unqualified id) (get id_cmp d.common_types.unqualified id)
