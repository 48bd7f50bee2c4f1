-- SPDX-License-Identifier: Apache-2.0
-- What holds of each type that a fragment writes out, as a whole.
use Rattle.std.specs.Prelude.{◌≤◌, ⊤, ℕ, IfSome}
use Rattle.std.specs.List.{AllByRecursion}
use Rattle.cedar_tree.specs.Nesting.{nest}
use Rattle.cedar_convert_fragment.specs.Fragments.{ActionContent, Definition, EntityContent, Fragment, TypeAt, Shaped, Listed}
use Rattle.cedar_reread.specs.TreesRead.{type_read}

-- P holds of the shape and of the type of tags
abbrev pub EachOfEntity : (TypeAt → Type 0) → EntityContent → Type 0
EachOfEntity P (Shaped parents shape tags) = P shape × IfSome tags P
EachOfEntity P (Listed ids) = ⊤

-- of the context, where there is one
abbrev pub EachOfAction : (TypeAt → Type 0) → ActionContent → Type 0
EachOfAction P a = IfSome a.applies_to (λ applies. P applies.context)

abbrev pub EachOfDefinition : (TypeAt → Type 0) → Definition → Type 0
EachOfDefinition P d =
    AllByRecursion (λ e. P e.1.content) d.common_types × AllByRecursion (λ e. EachOfEntity P e.1.content) d.entity_types × AllByRecursion (λ e. EachOfAction P e.1.content) d.actions

-- of each common type, shape, type of tags and context
abbrev pub EachType : (TypeAt → Type 0) → Fragment → Type 0
EachType P F = AllByRecursion (λ n. EachOfDefinition P n.1) F

-- so many sets and records nest in a type at most
abbrev pub Nests : ℕ → TypeAt → Type 0
Nests n ty = nest (type_read ty) ≤ n

-- and in each type of a fragment
abbrev pub NestsAtMost : ℕ → Fragment → Type 0
NestsAtMost n F = EachType (Nests n) F
