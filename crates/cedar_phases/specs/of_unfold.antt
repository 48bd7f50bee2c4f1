-- SPDX-License-Identifier: Apache-2.0
-- What the crates above cite of `cedar_unfold`.
pub use Rattle.cedar_unfold.specs.Resolved
pub use Rattle.cedar_unfold.specs.ResolvedViews
