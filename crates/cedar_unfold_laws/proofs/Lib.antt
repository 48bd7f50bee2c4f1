-- SPDX-License-Identifier: Apache-2.0
pub mod OneType
pub mod Walking
pub mod TwoLongsUnfold
