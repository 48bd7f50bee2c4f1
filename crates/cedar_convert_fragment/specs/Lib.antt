-- SPDX-License-Identifier: Apache-2.0
pub mod of_convert_faults
pub mod of_convert_errors
pub use Rattle.cedar_data.specs.formers
pub mod Declares
pub mod Fragments
pub mod Views
