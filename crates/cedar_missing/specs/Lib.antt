-- SPDX-License-Identifier: Apache-2.0
pub mod of_schema_error
pub mod of_definitions
pub mod of_declared
pub mod Undeclared
