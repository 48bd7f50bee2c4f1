-- SPDX-License-Identifier: Apache-2.0
pub mod of_data
pub mod Texts
pub mod Prints
