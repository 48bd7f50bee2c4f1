-- SPDX-License-Identifier: Apache-2.0
-- What the crates above cite of `cedar_meaning`.
pub use Rattle.cedar_meaning.specs.Schemas
