-- SPDX-License-Identifier: Apache-2.0
pub mod Contents
pub mod NothingMissed
