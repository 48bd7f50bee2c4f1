-- SPDX-License-Identifier: Apache-2.0
-- What the crates above cite of `cedar_data`.
pub use Rattle.cedar_data.specs.Maps
pub use Rattle.cedar_data.specs.Sets
pub use Rattle.cedar_data.specs.formers
pub mod declared
