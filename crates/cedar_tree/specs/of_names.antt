-- SPDX-License-Identifier: Apache-2.0
-- What the crates above cite of `cedar_names`.
pub use Rattle.cedar_names.specs.Annotating
pub use Rattle.cedar_names.specs.Identifiers
pub use Rattle.cedar_names.specs.Order
pub mod declared
