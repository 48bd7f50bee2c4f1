-- SPDX-License-Identifier: Apache-2.0
pub mod Answers
pub mod Causes
pub mod Made
pub mod Making
pub mod Printing
