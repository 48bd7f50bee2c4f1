-- SPDX-License-Identifier: Apache-2.0
-- What the crates above cite of `cedar_closure`.
pub use Rattle.cedar_types.specs.of_closure.Chains
