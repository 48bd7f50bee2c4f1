-- SPDX-License-Identifier: Apache-2.0
pub mod Deciding
pub mod Least
pub mod Lists
pub mod Jobs
pub mod Shadows
pub mod Worlds
pub mod Fragments
