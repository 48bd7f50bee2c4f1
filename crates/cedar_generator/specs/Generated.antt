-- SPDX-License-Identifier: Apache-2.0
-- Generated schemas: a text by its size.
use Rattle.std.specs.Prelude.{ℕ, ◌-◌, ◌/◌, ◌%◌, ◌==◌, suc, zero, List, [], ◌++◌, codes, decimal, if◌then◌else◌}
use Rattle.cedar_streams.specs.Texts.{◌+++◌}

-- the line of common type i: of Long at each sixteenth, and else a set of the one before
abbrev pub type_line : ℕ → List ℕ
type_line i = if i % 16 == 1
    then codes "type T" +++ decimal i +++ codes " = Long;\n"
    else codes "type T" +++ decimal i +++ codes " = Set<T" +++ decimal (i - 1) +++ codes ">;\n"

-- the line of entity type i: in the one of half its number, but for the first
abbrev pub entity_line : ℕ → List ℕ
entity_line i = if i == 1
    then codes "entity E" +++ decimal i +++ codes " = { \"t\": T" +++ decimal i +++ codes " };\n"
    else codes "entity E" +++ decimal i +++ codes " in E" +++ decimal (i / 2) +++ codes " = { \"t\": T" +++ decimal i +++ codes " };\n"

-- the line of action i: on the first entity type
abbrev pub action_line : ℕ → List ℕ
action_line i = codes "action \"a" +++ decimal i +++ codes "\" appliesTo { principal: E" +++ decimal i +++ codes ", resource: E1 };\n"

-- the three lines of a number
abbrev pub lines_of : ℕ → List ℕ
lines_of i = type_line i +++ entity_line i +++ action_line i

-- the schema of a size: the lines of the numbers from 1 on
unfoldable pub generated : ℕ → List ℕ
generated zero = []
generated (suc n) = generated n ++ lines_of (suc n)
