-- SPDX-License-Identifier: Apache-2.0
pub mod Causes
pub mod Copied
pub mod Front
pub mod InLoop
pub mod InOrder
pub mod Known
pub mod TextLaws
