-- SPDX-License-Identifier: Apache-2.0
mod Grammar
mod Marks
mod Opening
pub mod Whole
