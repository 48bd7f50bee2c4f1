-- SPDX-License-Identifier: Apache-2.0
pub use Rattle.cedar_data.specs.formers
pub mod Unplaced
pub mod Warnings
