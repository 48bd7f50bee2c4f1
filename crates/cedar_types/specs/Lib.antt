-- SPDX-License-Identifier: Apache-2.0
pub mod of_text
pub mod of_names
pub mod of_data
pub mod of_closure
pub mod Types
pub mod Sameness
pub mod Values
