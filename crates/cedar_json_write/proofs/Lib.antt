-- SPDX-License-Identifier: Apache-2.0
pub mod Building
pub mod Parts
pub mod Plain
pub mod PlainDeclarations
pub mod PlainTypes
