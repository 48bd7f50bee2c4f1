-- SPDX-License-Identifier: Apache-2.0
-- What the crates above cite of `cedar_text`.
pub use Rattle.cedar_text.specs.declared.location
pub use Rattle.cedar_text.specs.declared.node
pub use Rattle.cedar_text.specs.declared.non_empty
