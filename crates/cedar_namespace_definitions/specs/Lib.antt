-- SPDX-License-Identifier: Apache-2.0
pub mod of_definitions
pub mod Definitions
pub mod Faults
pub mod NamesIn
pub mod Orders
