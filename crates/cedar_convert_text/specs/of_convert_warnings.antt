-- SPDX-License-Identifier: Apache-2.0
-- What the crates above cite of `cedar_convert_warnings`.
pub use Rattle.cedar_convert.specs.of_convert_warnings.Shadowing
pub mod declared
