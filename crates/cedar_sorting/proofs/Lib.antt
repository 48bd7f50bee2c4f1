-- SPDX-License-Identifier: Apache-2.0
pub mod Walks
pub mod WalkMeasure
pub mod Parts
pub mod CycleMeasure
pub mod OrderLaws
