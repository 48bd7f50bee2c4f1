-- SPDX-License-Identifier: Apache-2.0
pub mod Reached
pub mod TwoLongs
