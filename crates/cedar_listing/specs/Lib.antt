-- SPDX-License-Identifier: Apache-2.0
pub mod Counts
pub mod Listing
pub mod Rows
