-- SPDX-License-Identifier: Apache-2.0
pub mod CommonIds
pub mod Faults
pub mod Keys
pub mod Parts
pub mod Shapes
pub mod Types
