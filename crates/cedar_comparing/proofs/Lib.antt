-- SPDX-License-Identifier: Apache-2.0
pub mod Declarations
pub mod Names
pub mod Parts
pub mod Types
pub mod Values
pub mod Variants
