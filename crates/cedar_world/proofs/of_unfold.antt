-- SPDX-License-Identifier: Apache-2.0
-- What the crates above cite of `cedar_unfold`.
pub use Rattle.cedar_unfold.proofs.OneUnfolding
pub use Rattle.cedar_unfold.proofs.SchemaTypes
