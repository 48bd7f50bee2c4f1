-- SPDX-License-Identifier: Apache-2.0
-- What the crates above cite of `cedar_qualified`.
pub use Rattle.cedar_qualified.specs.Agreeing
