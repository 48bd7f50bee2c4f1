-- SPDX-License-Identifier: Apache-2.0
-- A place where a name stands, with what stands there.
use Rattle.std.specs.Prelude.{ℕ, List, Option, Some}
use Rattle.cedar_written.specs.declared.reference_type.ReferenceType.{ReferenceType}

-- a name at a place of some kind, or the parent of an action, whose type may be left out
pub data Reference (N : Type 0) : Type 0 where
  named : ReferenceType → N → Reference N
  parent : List ℕ → Option N → Reference N

-- the same place with another name
abbrev pub renamed : {N M : Type 0} → Reference N → M → Reference M
renamed (named kind name) new = named kind new
renamed (parent id ty) new = parent id (Some new)
