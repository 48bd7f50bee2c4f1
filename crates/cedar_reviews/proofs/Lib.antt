-- SPDX-License-Identifier: Apache-2.0
pub mod PrintedNames
mod Colliding
mod Compared
mod Held
mod Judgements
mod Keys
mod LineLoops
mod MergeLoops
mod Mergeable
mod Reviews
