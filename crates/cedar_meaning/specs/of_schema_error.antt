-- SPDX-License-Identifier: Apache-2.0
-- What the crates above cite of `cedar_schema_error`.
pub use Rattle.cedar_unfolding.specs.of_schema_error.FullNames
pub use Rattle.cedar_unfolding.specs.of_schema_error.NameReferences
pub use Rattle.cedar_unfolding.specs.of_schema_error.Refusals
pub use Rattle.cedar_unfolding.specs.of_schema_error.Told
pub mod declared
pub mod contracts
