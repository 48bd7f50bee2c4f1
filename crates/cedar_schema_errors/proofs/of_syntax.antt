-- SPDX-License-Identifier: Apache-2.0
-- What the crates above cite of `cedar_syntax`.
pub use Rattle.cedar_convert_text.proofs.of_syntax.Completing
pub use Rattle.cedar_convert_text.proofs.of_syntax.OneCause
pub use Rattle.cedar_convert_text.proofs.of_syntax.Wholes
