-- SPDX-License-Identifier: Apache-2.0
-- What the crates above cite of `cedar_closure`.
pub use Rattle.cedar_closure.proofs.ChainLaws
pub use Rattle.cedar_closure.proofs.KeyChains
pub use Rattle.cedar_closure.proofs.PlaceLemmas
