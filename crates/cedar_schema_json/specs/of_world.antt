-- SPDX-License-Identifier: Apache-2.0
-- What the crates above cite of `cedar_world`.
pub use Rattle.cedar_schema.specs.of_world.Denotes
