-- SPDX-License-Identifier: Apache-2.0
-- What the crates above cite of `cedar_declared`.
pub use Rattle.cedar_declared.specs.declared.all_defs
pub use Rattle.cedar_declared.specs.declared.type_names
