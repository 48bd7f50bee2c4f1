-- SPDX-License-Identifier: Apache-2.0
pub mod Orders
pub mod Walked
pub mod Searched
