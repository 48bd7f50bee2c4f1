-- SPDX-License-Identifier: Apache-2.0
pub mod Counting
pub mod Depths
pub mod TypeTexts
pub mod Digits
