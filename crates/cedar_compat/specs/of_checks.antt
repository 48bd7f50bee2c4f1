-- SPDX-License-Identifier: Apache-2.0
-- What the crates above cite of `cedar_checks`.
pub use Rattle.cedar_checks.specs.Lookups
pub use Rattle.cedar_checks.specs.SchemaViews
