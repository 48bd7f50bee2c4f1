-- SPDX-License-Identifier: Apache-2.0
-- What the crates above cite of `cedar_text`.
pub use Rattle.cedar_text.specs.Escapes
pub use Rattle.cedar_text.specs.Failures
pub use Rattle.cedar_text.specs.FaultTexts
pub use Rattle.cedar_text.specs.Faults
pub use Rattle.cedar_text.specs.Joining
pub use Rattle.cedar_text.specs.Lists
pub use Rattle.cedar_text.specs.NormalNames
pub use Rattle.cedar_text.specs.Places
pub use Rattle.cedar_text.specs.Words
pub mod declared
