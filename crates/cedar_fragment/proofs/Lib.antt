-- SPDX-License-Identifier: Apache-2.0
pub mod FirstRefusal
pub mod Keeps
pub mod Printing
pub mod Same
pub mod Uids
