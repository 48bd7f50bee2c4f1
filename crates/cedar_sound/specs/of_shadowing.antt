-- SPDX-License-Identifier: Apache-2.0
-- What the crates above cite of `cedar_shadowing`.
pub use Rattle.cedar_shadowing.specs.Shadowing
