-- SPDX-License-Identifier: Apache-2.0
pub mod Causes
pub mod Marks
pub mod Repeats
pub mod Steps
pub mod Texts
