-- SPDX-License-Identifier: Apache-2.0
-- What the crates above cite of `cedar_fragment_world`.
pub use Rattle.cedar_fragment_world.specs.FragmentFaults
pub use Rattle.cedar_fragment_world.specs.FragmentWorlds
