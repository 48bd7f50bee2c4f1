-- SPDX-License-Identifier: Apache-2.0
pub mod Ancestors
pub mod Environments
pub mod Kinds
pub mod NodeLaws
pub mod Queries
pub mod Schemas
