-- SPDX-License-Identifier: Apache-2.0
-- The least of those that shadow another, found in one pass.
use Rattle.std.specs.Prelude.{◌&&◌, not, Bool, is_some, unwrap_or, List, [], ◌∷◌, Option}
use Rattle.std.specs.Ordering.{ordering_then}
use Rattle.std.specs.declared.cmp.Ordering.{Ordering}
use Rattle.cedar_names.specs.Components.{has_cedar}
use Rattle.cedar_names.specs.Order.{word_cmp, words_cmp}
use Rattle.cedar_written.specs.declared.reference_type.ReferenceType.TheVariants.{CommonOrEntity}
use Rattle.cedar_schema_error.specs.FullNames.{FullName, Uid, basename, is_qualified, uid_cmp}
use Rattle.cedar_declared.specs.Alone.{least_alone, pick_all}
use Rattle.cedar_declared.specs.Names.{Names, is_declared}

-- whether a name with a namespace shadows its basename
abbrev pub shadows_type : Names → FullName → Bool
shadows_type own name = is_qualified name && (not (has_cedar name) && is_declared own CommonOrEntity (basename name ∷ []))

-- the order of such names: by basename, then by name
abbrev pub shadowing_cmp : FullName → FullName → Ordering
shadowing_cmp a b = ordering_then (word_cmp (basename a) (basename b)) (words_cmp a b)

-- the least name that shadows its basename
abbrev pub least_shadowing : Names → Option FullName → List FullName → Option FullName
least_shadowing own best names = pick_all (shadows_type own) shadowing_cmp best names

module _ (own : List Uid) where
  -- the least action without a namespace that has the id of this one
  abbrev pub shadowed_action : Uid → Option Uid
  shadowed_action u = least_alone own u.id

  -- whether an action with a namespace shadows one
  abbrev pub shadows_action : Uid → Bool
  shadows_action u = is_qualified u.ty && is_some (shadowed_action u)

  -- the order of such actions: by the action that is shadowed, then by the action
  abbrev pub shadowing_action_cmp : Uid → Uid → Ordering
  shadowing_action_cmp u v = ordering_then (uid_cmp (unwrap_or (shadowed_action u) u) (unwrap_or (shadowed_action v) v)) (uid_cmp u v)

  -- the least action that shadows one
  abbrev pub least_shadowing_action : Option Uid → List Uid → Option Uid
  least_shadowing_action best us = pick_all shadows_action shadowing_action_cmp best us
