-- SPDX-License-Identifier: Apache-2.0
-- What the crates above cite of `cedar_definitions`.
pub use Rattle.cedar_namespace_definitions.specs.of_definitions.Structures
