-- SPDX-License-Identifier: Apache-2.0
-- What the crates above cite of `cedar_unfolding`.
pub use Rattle.cedar_unfolding.specs.Written
