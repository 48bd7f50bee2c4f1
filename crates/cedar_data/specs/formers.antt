-- SPDX-License-Identifier: Apache-2.0
-- How each wrapper holds its values, so that a type may hold itself through it.
pub mod boxed
pub mod entries
pub mod items
pub mod map
pub mod run
pub mod shared
