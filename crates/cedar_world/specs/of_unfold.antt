-- SPDX-License-Identifier: Apache-2.0
-- What the crates above cite of `cedar_unfold`.
pub use Rattle.cedar_unfold.specs.Faults
pub use Rattle.cedar_unfold.specs.Full
pub use Rattle.cedar_unfold.specs.Meanings
pub use Rattle.cedar_unfold.specs.Resolved
pub use Rattle.cedar_unfold.specs.Tables
pub use Rattle.cedar_unfold.specs.UnfoldPhases
pub use Rattle.cedar_unfold.specs.Unfolds
pub use Rattle.cedar_unfold.specs.Written
pub use Rattle.cedar_unfold.specs.WrittenViews
