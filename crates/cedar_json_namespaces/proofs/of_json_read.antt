-- SPDX-License-Identifier: Apache-2.0
-- What the crates above cite of `cedar_json_read`.
pub use Rattle.cedar_json_read.proofs.ChoiceLemmas
