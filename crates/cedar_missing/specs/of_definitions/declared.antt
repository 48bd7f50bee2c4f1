-- SPDX-License-Identifier: Apache-2.0
-- What the crates above cite of `cedar_definitions`.
pub use Rattle.cedar_declared.specs.of_definitions.declared.structures
