-- SPDX-License-Identifier: Apache-2.0
-- Written types, without their places, over references that are anything: names as they are written, names with what they may stand for, or full names.
use Rattle.std.specs.Prelude.{ℕ, ◌+◌, Bool, List, [], ◌∷◌, ◌++◌}
use Rattle.std.specs.List.{sum_by}

-- a written type, and the attributes of a record in the order of their names
mutual
  pub data Written (N : Type 0) : Type 0 where
    Boolean : Written N
    Long : Written N
    String : Written N
    Extension : List ℕ → Written N
    Set : Written N → Written N
    -- a record, and whether it is open
    Record : WrittenAttributes N → Bool → Written N
    Entity : N → Written N
    EntityOrCommon : N → Written N
    CommonTypeRef : N → Written N

  pub data WrittenAttributes (N : Type 0) : Type 0 where
    no_attributes : WrittenAttributes N
    -- the name of the first attribute, whether it is required, and its type; and the others
    attribute : List ℕ → Bool → Written N → WrittenAttributes N → WrittenAttributes N

-- the references of a type, in walk order
abbrev mutual
  pub references : {N : Type 0} → Written N → List N
  references Boolean = []
  references Long = []
  references String = []
  references (Extension e) = []
  references (Set element) = references element
  references (Record parts is_open) = attribute_references parts
  references (Entity r) = r ∷ []
  references (EntityOrCommon r) = r ∷ []
  references (CommonTypeRef r) = r ∷ []

  pub attribute_references : {N : Type 0} → WrittenAttributes N → List N
  attribute_references no_attributes = []
  attribute_references (attribute name required ty others) = references ty ++ attribute_references others

-- the references of a type that may mean common types, in walk order
abbrev mutual
  pub common_references : {N : Type 0} → Written N → List N
  common_references Boolean = []
  common_references Long = []
  common_references String = []
  common_references (Extension e) = []
  common_references (Set element) = common_references element
  common_references (Record parts is_open) = attribute_common_references parts
  common_references (Entity r) = []
  common_references (EntityOrCommon r) = r ∷ []
  common_references (CommonTypeRef r) = r ∷ []

  pub attribute_common_references : {N : Type 0} → WrittenAttributes N → List N
  attribute_common_references no_attributes = []
  attribute_common_references (attribute name required ty others) = common_references ty ++ attribute_common_references others

-- how many types are written in a type, itself included
abbrev mutual
  pub nodes : {N : Type 0} → Written N → ℕ
  nodes Boolean = 1
  nodes Long = 1
  nodes String = 1
  nodes (Extension e) = 1
  nodes (Set element) = nodes element + 1
  nodes (Record parts is_open) = attribute_nodes parts + 1
  nodes (Entity r) = 1
  nodes (EntityOrCommon r) = 1
  nodes (CommonTypeRef r) = 1

  pub attribute_nodes : {N : Type 0} → WrittenAttributes N → ℕ
  attribute_nodes no_attributes = 0
  attribute_nodes (attribute name required ty others) = nodes ty + attribute_nodes others

-- how many are written in these types
abbrev pub all_nodes : {K N : Type 0} → List (K × Written N) → ℕ
all_nodes types = sum_by (λ e. nodes e.1) types

-- how many are written in definitions and uses
abbrev pub node_count : {J K N : Type 0} → List (J × Written N) → List (K × Written N) → ℕ
node_count definitions uses = all_nodes definitions + all_nodes uses
