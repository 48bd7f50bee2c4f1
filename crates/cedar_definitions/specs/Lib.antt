-- SPDX-License-Identifier: Apache-2.0
pub use Rattle.cedar_fragment.specs.Definitions
pub use Rattle.cedar_fragment.specs.ActionUids
pub mod CommonDefs
pub mod DeclaredNames
pub mod Structures
pub mod Walks
