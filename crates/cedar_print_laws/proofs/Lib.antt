-- SPDX-License-Identifier: Apache-2.0
pub mod Fronts
pub mod Lexed
pub mod Literals
