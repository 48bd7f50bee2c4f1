-- SPDX-License-Identifier: Apache-2.0
-- What the crates above cite of `cedar_convert_faults`.
pub use Rattle.cedar_convert_faults.specs.Conditions
pub use Rattle.cedar_convert_faults.specs.Faults
pub use Rattle.cedar_convert_faults.specs.Gathering
