-- SPDX-License-Identifier: Apache-2.0
-- What the crates above cite of `cedar_schema_error`.
pub use Rattle.cedar_schema_error.specs.FullNames
pub use Rattle.cedar_schema_error.specs.NameReferences
pub use Rattle.cedar_schema_error.specs.Refusals
pub use Rattle.cedar_schema_error.specs.Told
pub mod declared
pub mod contracts
