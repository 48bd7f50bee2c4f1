-- SPDX-License-Identifier: Apache-2.0
pub mod of_text
pub mod of_names
pub mod of_data
pub mod Pieces
pub mod Annotations
