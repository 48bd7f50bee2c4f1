-- SPDX-License-Identifier: Apache-2.0
-- What the crates above cite of `cedar_convert_errors`.
pub use Rattle.cedar_convert_faults.specs.of_convert_errors.Texts
