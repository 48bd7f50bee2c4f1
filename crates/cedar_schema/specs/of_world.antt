-- SPDX-License-Identifier: Apache-2.0
-- What the crates above cite of `cedar_world`.
pub use Rattle.cedar_fragment_world.specs.of_world.Denotes
pub use Rattle.cedar_fragment_world.specs.of_world.Schemas
