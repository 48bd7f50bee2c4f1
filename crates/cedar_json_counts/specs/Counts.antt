-- SPDX-License-Identifier: Apache-2.0
-- The colons of a text in JSON outside its string literals, and the members of a value.
use Rattle.std.specs.Prelude.{ℕ, ◌+◌, ◌-◌, ◌^◌, ◌==◌, min, if◌then◌else◌, List, [], ◌∷◌}
use Rattle.serde_json.specs.Data.{Data, null, boolean, number, string, array, object, Items, no_items, item, Members, no_members, member}
use Rattle.cedar_json_counts.specs.declared.counting.Within.{Within}
use Rattle.cedar_json_counts.specs.declared.counting.Within.TheVariants as within

-- a count that stops at the greatest u64
abbrev pub capped : ℕ → ℕ
capped n = min n (2 ^ 64 - 1)

-- ---- colons

-- where the byte after this one stands
abbrev pub after : Within → ℕ → Within
after within.Plain b = if b == 34 then within.Literal else within.Plain
after within.Literal b = if b == 34 then within.Plain else (if b == 92 then within.Escape else within.Literal)
after within.Escape b = within.Literal

-- the byte is a colon outside string literals
abbrev pub colon : Within → ℕ → ℕ
colon within.Plain b = if b == 58 then 1 else 0
colon within.Literal b = 0
colon within.Escape b = 0

-- how many colons stand outside string literals, where the first byte stands so
abbrev pub colons_from : Within → List ℕ → ℕ
colons_from place [] = 0
colons_from place (b ∷ bs) = colon place b + colons_from (after place b) bs

abbrev pub colons : List ℕ → ℕ
colons s = colons_from within.Plain s

-- ---- members

-- how many members a value has, those of the values inside counted
abbrev mutual
  pub members_in : Data → ℕ
  members_in null = 0
  members_in (boolean b) = 0
  members_in (number n) = 0
  members_in (string s) = 0
  members_in (array ds) = members_in_items ds
  members_in (object ms) = members_in_members ms

  pub members_in_items : Items → ℕ
  members_in_items no_items = 0
  members_in_items (item d ds) = members_in d + members_in_items ds

  pub members_in_members : Members → ℕ
  members_in_members no_members = 0
  members_in_members (member k d ms) = 1 + members_in d + members_in_members ms
