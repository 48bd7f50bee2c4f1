-- SPDX-License-Identifier: Apache-2.0
-- The ancestors of actions, while they are gathered.
use Rattle.std.specs.Prelude.{Bool, cond, List, [], ◌∷◌}
use Rattle.std.specs.Option.{unwrap_or}
use Rattle.cedar_data.specs.Maps.{get}
use Rattle.cedar_names.specs.declared.entity_uid.EntityUID.{EntityUID}
use Rattle.cedar_resolved.specs.Schemas.{uid_cmp}

-- the ancestors that are noted of an action
abbrev pub noted_of : List (EntityUID × List EntityUID) → EntityUID → List EntityUID
noted_of noted uid = unwrap_or (get uid_cmp noted uid) []

-- the one key where it holds, and else none
abbrev pub one_where : {K : Type 0} → Bool → K → List K
one_where b key = cond b (key ∷ []) []
