-- SPDX-License-Identifier: Apache-2.0
-- What the crates above cite of `cedar_sound`.
pub use Rattle.cedar_sound.specs.Sound
