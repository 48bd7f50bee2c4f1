-- SPDX-License-Identifier: Apache-2.0
-- What the crates above cite of `cedar_text`.
pub use Rattle.cedar_names.specs.of_text.Failures
pub use Rattle.cedar_names.specs.of_text.FaultTexts
pub use Rattle.cedar_names.specs.of_text.Faults
pub use Rattle.cedar_names.specs.of_text.Joining
pub use Rattle.cedar_names.specs.of_text.Lists
pub use Rattle.cedar_names.specs.of_text.NormalNames
pub use Rattle.cedar_names.specs.of_text.Words
pub mod declared
