-- SPDX-License-Identifier: Apache-2.0
pub mod Layers
pub mod Lookups
pub mod Steps
