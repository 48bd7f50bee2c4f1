-- SPDX-License-Identifier: Apache-2.0
-- What the crates above cite of `cedar_convert_faults`.
pub use Rattle.cedar_convert_fragment.specs.of_convert_faults.Faults
pub use Rattle.cedar_convert_fragment.specs.of_convert_faults.Gathering
