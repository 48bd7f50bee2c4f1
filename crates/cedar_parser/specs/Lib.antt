-- SPDX-License-Identifier: Apache-2.0
pub mod Giving
pub mod Ids
pub mod Longer
pub mod Keys
pub mod Behind
