-- SPDX-License-Identifier: Apache-2.0
-- What the crates above cite of the proofs of `cedar_schema_error`.
pub use Rattle.cedar_schema_error.proofs.UidOrder
