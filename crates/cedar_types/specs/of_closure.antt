-- SPDX-License-Identifier: Apache-2.0
-- What the crates above cite of `cedar_closure`.
pub use Rattle.cedar_closure.specs.Chains
pub use Rattle.cedar_closure.specs.Marks
pub use Rattle.cedar_closure.specs.Places
pub use Rattle.cedar_closure.specs.TcErrors
pub mod declared
