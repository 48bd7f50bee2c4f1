-- SPDX-License-Identifier: Apache-2.0
-- What the crates above cite of `cedar_missing`.
pub use Rattle.cedar_missing.specs.Undeclared
