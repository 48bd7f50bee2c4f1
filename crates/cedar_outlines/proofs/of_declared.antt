-- SPDX-License-Identifier: Apache-2.0
-- What the crates above cite of `cedar_declared`.
pub use Rattle.cedar_declared.proofs.FoundTargets
pub use Rattle.cedar_declared.proofs.Targeted
