-- SPDX-License-Identifier: Apache-2.0
-- Maps by name, and tables of finished types, as contracts see them.
use Rattle.std.specs.Prelude.{ℕ, Bool, List, map, Option}
use Rattle.std.specs.Option.{is_some, option_map}
use Rattle.cedar_types.specs.of_closure.Places.{place}
use Rattle.cedar_data.specs.Maps.{get}
use Rattle.cedar_names.specs.Components.{components}
use Rattle.cedar_names.specs.Order.{words_cmp}
use Rattle.cedar_names.specs.declared.internal_name.InternalName.{InternalName}
use Rattle.cedar_schema_error.specs.FullNames.{FullName}
use Rattle.cedar_unfolding.specs.Resolved.{Resolved}
use Rattle.cedar_unfold.specs.ResolvedViews.{resolved}
use Rattle.cedar_unfold.specs.declared.nested.Nested.{Nested}

-- the entries of a map by the components of their names, with what f gives of each value
abbrev pub by_name : {V W : Type 0} → (V → W) → List (InternalName × V) → List (FullName × W)
by_name f es = map (λ e. (components e.0, f e.1)) es

-- names by their components
abbrev pub names_of : List InternalName → List FullName
names_of keys = map components keys

-- where the name stands among names in order
abbrev pub place_of : List FullName → FullName → Option ℕ
place_of names name = place words_cmp names name

-- whether it stands among them
abbrev pub is_among : List FullName → FullName → Bool
is_among names name = is_some (place_of names name)

-- the type that was finished, if it doesn't nest too deep
abbrev pub found_type : Option Nested → Option Resolved
found_type found = option_map (λ n. resolved n.ty) found

-- what the table has of the common type of this name
abbrev pub tabled : List (InternalName × Option Nested) → FullName → Option (Option Resolved)
tabled table name = get words_cmp (by_name found_type table) name

-- whether a table has something of the common type of this name
abbrev pub is_tabled : (FullName → Option (Option Resolved)) → FullName → Bool
is_tabled table name = is_some (table name)
