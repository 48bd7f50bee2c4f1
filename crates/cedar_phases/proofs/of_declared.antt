-- SPDX-License-Identifier: Apache-2.0
pub use Rattle.cedar_declared.proofs.Among
