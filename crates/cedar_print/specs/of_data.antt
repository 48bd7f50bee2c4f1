-- SPDX-License-Identifier: Apache-2.0
-- What the crates above cite of `cedar_data`.
pub use Rattle.cedar_names.specs.of_data.Maps
pub use Rattle.cedar_names.specs.of_data.Sets
pub mod declared
