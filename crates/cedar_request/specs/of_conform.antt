-- SPDX-License-Identifier: Apache-2.0
-- What the crates above cite of `cedar_conform`.
pub use Rattle.cedar_conform.specs.Entities
pub use Rattle.cedar_conform.specs.EntityChecks
