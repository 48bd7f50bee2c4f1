-- SPDX-License-Identifier: Apache-2.0
-- What the crates above cite of `cedar_data`.
pub use Rattle.cedar_closure.specs.of_data.Maps
pub mod declared
