-- SPDX-License-Identifier: Apache-2.0
pub mod Gathering
pub mod InWorld
pub mod Undeclared
