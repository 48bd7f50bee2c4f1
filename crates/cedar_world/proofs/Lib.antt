-- SPDX-License-Identifier: Apache-2.0
pub mod of_unfold
pub mod of_declared
mod BuiltinNames
