-- SPDX-License-Identifier: Apache-2.0
-- What the crates above cite of `cedar_convert_text`.
pub use Rattle.cedar_schema.specs.of_convert_text.Texts
