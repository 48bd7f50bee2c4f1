-- SPDX-License-Identifier: Apache-2.0
pub mod Types
pub mod Lines
pub mod Refusals
pub mod Denoted
