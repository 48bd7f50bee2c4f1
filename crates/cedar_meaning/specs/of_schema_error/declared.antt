-- SPDX-License-Identifier: Apache-2.0
-- What the crates above cite of `cedar_schema_error`.
pub use Rattle.cedar_unfolding.specs.of_schema_error.declared.use_place
