-- SPDX-License-Identifier: Apache-2.0
-- What the crates above cite of `cedar_text`.
pub use Rattle.cedar_names.specs.of_text.declared.location
pub use Rattle.cedar_names.specs.of_text.declared.non_empty
