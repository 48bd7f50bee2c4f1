-- SPDX-License-Identifier: Apache-2.0
-- What the crates above cite of `cedar_duplicates`.
pub use Rattle.cedar_sound.specs.of_duplicates.Duplicates
