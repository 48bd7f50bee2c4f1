-- SPDX-License-Identifier: Apache-2.0
pub mod of_declared
pub mod Appended
