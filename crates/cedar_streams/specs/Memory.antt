-- SPDX-License-Identifier: Apache-2.0
-- Sources and sinks in memory, whose calls move few bytes and fail where that is wanted.
use Rattle.std.specs.Prelude.{ℕ, List, ◌++◌, min, max, drop}
use Rattle.cedar_streams.specs.Faults.{one_more}

-- a source over bytes in memory
pub record Supply : Type 0 where
  -- the bytes that are left
  pub left : List ℕ
  -- how many bytes a call moves at most, where 0 counts as 1
  pub most : ℕ
  -- how many calls there were, up to the greatest u64
  pub calls : ℕ
  -- the numbers of the calls that fail, the first call being 1
  pub fail_at : List ℕ
  -- how many calls failed, up to the greatest u64
  pub faults : ℕ

-- a sink that keeps its bytes in memory
pub record Store : Type 0 where
  pub written : List ℕ
  -- how many bytes it holds at most
  pub room : ℕ
  -- as of a `Supply`
  pub most : ℕ
  pub calls : ℕ
  pub fail_at : List ℕ
  pub faults : ℕ

-- the least of the most that a call moves, what is lent to it, and what is there
abbrev pub moved : ℕ → ℕ → ℕ → ℕ
moved most lent there = min (max most 1) (min lent there)

-- after a read of n bytes
abbrev pub after_read : Supply → ℕ → Supply
after_read supply n = record supply { left = drop n supply.left; calls = one_more supply.calls }

-- after a read that failed
abbrev pub after_failed_read : Supply → Supply
after_failed_read supply = record supply { calls = one_more supply.calls; faults = one_more supply.faults }

-- after a write of these bytes
abbrev pub after_write : Store → List ℕ → Store
after_write store bytes = record store { written = store.written ++ bytes; calls = one_more store.calls }

-- after a write that failed
abbrev pub after_failed_write : Store → Store
after_failed_write store = record store { calls = one_more store.calls; faults = one_more store.faults }
