-- SPDX-License-Identifier: Apache-2.0
pub use Rattle.cedar_data.specs.formers
pub mod EachType
pub mod Placeless
pub mod Rereading
pub mod Said
pub mod TreesRead
