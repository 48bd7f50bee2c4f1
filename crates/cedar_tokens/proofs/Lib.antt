-- SPDX-License-Identifier: Apache-2.0
pub mod Closing
pub mod Cuts
pub mod Forms
pub mod Lexed
pub mod Longest
pub mod Placing
