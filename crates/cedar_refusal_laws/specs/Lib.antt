-- SPDX-License-Identifier: Apache-2.0
pub mod Parts
pub mod Kinds
pub mod NeverComing
pub mod NotOfTexts
pub mod Made
