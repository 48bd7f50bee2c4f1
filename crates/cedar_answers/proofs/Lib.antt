-- SPDX-License-Identifier: Apache-2.0
pub mod ByMade
pub mod Schemas
pub mod Unprintable
