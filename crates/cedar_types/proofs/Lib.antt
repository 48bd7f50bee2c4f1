-- SPDX-License-Identifier: Apache-2.0
pub mod of_closure
pub mod Entries
pub mod Folds
