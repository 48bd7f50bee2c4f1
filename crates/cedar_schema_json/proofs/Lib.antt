-- SPDX-License-Identifier: Apache-2.0
pub use Rattle.cedar_schema.proofs.Declaring
pub mod OneShape
pub mod Reading
pub mod Unplaced
