-- SPDX-License-Identifier: Apache-2.0
pub mod Pushed
pub mod Seen
pub mod Declared
pub mod Kept
