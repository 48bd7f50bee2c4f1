-- SPDX-License-Identifier: Apache-2.0
pub mod of_text
pub mod Forms
pub mod Lexemes
pub mod Lexing
pub mod Literals
pub mod Pieces
pub mod Standing
