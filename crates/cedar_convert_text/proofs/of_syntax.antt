-- SPDX-License-Identifier: Apache-2.0
-- What the crates above cite of `cedar_syntax`.
pub use Rattle.cedar_syntax.proofs.Completing
pub use Rattle.cedar_syntax.proofs.OneCause
pub use Rattle.cedar_syntax.proofs.Wholes
