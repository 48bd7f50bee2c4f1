-- SPDX-License-Identifier: Apache-2.0
-- How the number of an environment is found without going through the environments.
use Rattle.std.specs.Prelude.{ℕ, suc, ◌+◌, ◌*◌, if◌then◌else◌, List, [], ◌∷◌, length}
use Rattle.std.specs.BTreeMap.{is_at}
use Rattle.cedar_names.specs.Order.{words_cmp}
use Rattle.cedar_schema_error.specs.FullNames.{FullName, Uid, uid_cmp}
use Rattle.cedar_conform.specs.of_world.Schemas.{Schema, SchemaAction}

-- how many of the types stand before the one of this name
abbrev pub place_among : List FullName → FullName → ℕ
place_among [] name = 0
place_among (ty ∷ types) name = if is_at (words_cmp name) ty then 0 else suc (place_among types name)

-- how many environments an action has
abbrev pub size_of : SchemaAction → ℕ
size_of action = length action.principals * length action.resources

-- how many environments the actions before this one have
abbrev pub size_before : List (Uid × SchemaAction) → Uid → ℕ
size_before [] u = 0
size_before (a ∷ actions) u = if is_at (uid_cmp u) a.0 then 0 else size_of a.1 + size_before actions u

-- how many environments of the action stand before the one with the principal and the resource
abbrev pub place_in : SchemaAction → FullName → FullName → ℕ
place_in action principal resource = place_among action.principals principal * length action.resources + place_among action.resources resource

-- the number of the environment of the action with the principal and the resource
abbrev pub number : Schema → Uid → SchemaAction → FullName → FullName → ℕ
number S u action principal resource = size_before S.actions u + place_in action principal resource
