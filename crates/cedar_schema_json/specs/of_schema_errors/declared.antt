-- SPDX-License-Identifier: Apache-2.0
-- What the crates above cite of `cedar_schema_errors`.
pub use Rattle.cedar_schema.specs.of_schema_errors.declared.schema_error
