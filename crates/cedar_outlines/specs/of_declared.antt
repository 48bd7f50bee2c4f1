-- SPDX-License-Identifier: Apache-2.0
-- What the crates above cite of `cedar_declared`.
pub use Rattle.cedar_declared.specs.Held
pub use Rattle.cedar_declared.specs.Names
pub use Rattle.cedar_declared.specs.Targets
