-- SPDX-License-Identifier: Apache-2.0
-- What the crates above cite of `cedar_syntax`.
pub use Rattle.cedar_syntax.specs.Causes
pub use Rattle.cedar_syntax.specs.Texts
