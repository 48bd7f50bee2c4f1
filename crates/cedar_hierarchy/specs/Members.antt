-- SPDX-License-Identifier: Apache-2.0
-- What descends from what, where names have parents that are references.
use Rattle.std.specs.Prelude.{◌≡◌, List, Option, Some}
use Rattle.std.specs.declared.cmp.Ordering.{Ordering}
use Rattle.cedar_closure.specs.Chains.{Reaches}
use Rattle.cedar_data.specs.Firsts.{SomePasses}
use Rattle.cedar_data.specs.Maps.{get}

module _ {N P R : Type 0} (order : N → N → Ordering) (target : R → Option N) (parents : P → List R) (os : List (N × P)) where
  -- a name, and the target of one of its parents
  pub record IsMember (name parent : N) : Type 0 where
    pub parts : P
    pub declared : get order os name ≡ Some parts
    pub targeted : SomePasses (λ r. target r ≡ Some parent) (parents parts)

  -- a name descends from another: a chain of one or more memberships leads up to it
  abbrev pub IsBelow : N → N → Type 0
  IsBelow high low = Reaches IsMember low high
