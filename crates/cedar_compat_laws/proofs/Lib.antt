-- SPDX-License-Identifier: Apache-2.0
pub mod NameLoops
pub mod TypesStay
pub mod EntitiesStay
