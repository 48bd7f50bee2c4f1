-- SPDX-License-Identifier: Apache-2.0
-- What the crates above cite of `cedar_outlines`.
pub use Rattle.cedar_outlines.specs.declared.outlines
