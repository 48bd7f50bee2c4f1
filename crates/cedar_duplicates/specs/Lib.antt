-- SPDX-License-Identifier: Apache-2.0
pub mod of_schema_error
pub mod Duplicates
pub mod Declarations
