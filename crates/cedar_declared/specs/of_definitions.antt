-- SPDX-License-Identifier: Apache-2.0
-- What the crates above cite of `cedar_definitions`.
pub use Rattle.cedar_definitions.specs.ActionUids
pub use Rattle.cedar_definitions.specs.DeclaredNames
pub use Rattle.cedar_definitions.specs.Structures
pub mod declared
