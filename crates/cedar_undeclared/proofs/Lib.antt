-- SPDX-License-Identifier: Apache-2.0
pub mod Gathers
pub mod EntityNames
pub mod UndeclaredSets
pub mod EntityTypes
pub mod WorldTargets
pub mod FreeTargets
