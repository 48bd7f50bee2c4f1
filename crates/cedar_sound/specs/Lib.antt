-- SPDX-License-Identifier: Apache-2.0
pub mod of_shadowing
pub mod of_duplicates
pub mod References
pub mod Sound
pub mod Uses
