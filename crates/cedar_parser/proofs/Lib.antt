-- SPDX-License-Identifier: Apache-2.0
pub mod Loops
pub mod Chains
pub mod Quotes
pub mod Commas
pub mod Faults
pub mod TypeTrees
pub mod Braces
pub mod Noting
pub mod Items
pub mod Endings
mod Plain
