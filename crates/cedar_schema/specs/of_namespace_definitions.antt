-- SPDX-License-Identifier: Apache-2.0
-- What the crates above cite of `cedar_namespace_definitions`.
pub use Rattle.cedar_fragment_world.specs.of_namespace_definitions.Faults
