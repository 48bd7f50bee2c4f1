-- SPDX-License-Identifier: Apache-2.0
-- What the crates above cite of `cedar_names`.
pub use Rattle.cedar_names.specs.Components
pub use Rattle.cedar_names.specs.Identifiers
pub use Rattle.cedar_names.specs.Names
pub mod declared
