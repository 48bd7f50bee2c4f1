-- SPDX-License-Identifier: Apache-2.0
-- The least action of each id, of those whose type has no namespace.
use Rattle.std.specs.Prelude.{◌≡◌, ◌&&◌, ℕ, not, Bool, true, cond, List, Option, Some, None, IfSome, fold, map}
use Rattle.std.specs.BTreeMap.{is_at}
use Rattle.std.specs.Option.{option_map}
use Rattle.std.specs.Ordering.{is_lt}
use Rattle.std.specs.declared.cmp.Ordering.{Ordering}
use Rattle.cedar_data.specs.Maps.{get}
use Rattle.cedar_names.specs.EntityUids.{eid_of, eid_text}
use Rattle.cedar_names.specs.declared.entity_uid.Eid.{Eid}
use Rattle.cedar_names.specs.declared.entity_uid.EntityUID.{EntityUID}
use Rattle.cedar_names.specs.Order.{word_cmp}
use Rattle.cedar_schema_error.specs.FullNames.{Uid, is_qualified, uid_cmp, uid_in}
use Rattle.cedar_schema_error.specs.KeptDeclarations.{IsAmong}

module _ {A : Type 0} (passes : A → Bool) (cmp : A → A → Ordering) where
  -- whether it comes before the best so far
  abbrev pub precedes : A → Option A → Bool
  precedes x None = true
  precedes x (Some best) = is_lt (cmp x best)

  -- the better of the two
  abbrev pub pick : Option A → A → Option A
  pick best x = cond (passes x && precedes x best) (Some x) best

  -- the best of all
  abbrev pub pick_all : Option A → List A → Option A
  pick_all best xs = fold pick best xs

-- the order of ids
abbrev pub eid_cmp : Eid → Eid → Ordering
eid_cmp a b = word_cmp (eid_text a) (eid_text b)

-- whether an action is of this id, and its type has no namespace
abbrev pub is_alone : List ℕ → Uid → Bool
is_alone id u = not (is_qualified u.ty) && is_at (word_cmp id) u.id

-- the least action of this id whose type has no namespace
abbrev pub least_alone : List Uid → List ℕ → Option Uid
least_alone own id = pick_all (is_alone id) uid_cmp None own

-- the action of an id in an index
abbrev pub indexed : List (Eid × EntityUID) → Eid → Option Uid
indexed index id = option_map uid_in (get eid_cmp index id)

-- whether an action has no namespace and comes before that of its id in the index
abbrev pub improves : List (Eid × EntityUID) → EntityUID → Bool
improves index u = not (is_qualified (uid_in u).ty) && precedes (is_alone (uid_in u).id) uid_cmp (uid_in u) (indexed index (eid_of u))

-- the index has at each id the least action of that id whose type has no namespace
abbrev pub Indexes : List Uid → List (Eid × EntityUID) → Type 0
Indexes own index = (id : Eid) → indexed index id ≡ least_alone own (eid_text id)

-- so the index of actions, which has none but them
pub record IndexesActions (own : List EntityUID) (index : List (Eid × EntityUID)) : Type 0 where
  pub least : Indexes (map uid_in own) index
  pub held : (id : Eid) → IfSome (get eid_cmp index id) (IsAmong own)
