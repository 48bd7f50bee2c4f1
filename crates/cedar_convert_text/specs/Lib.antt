-- SPDX-License-Identifier: Apache-2.0
pub mod of_syntax
pub mod of_convert_warnings
pub use Rattle.cedar_data.specs.formers
pub mod Texts
