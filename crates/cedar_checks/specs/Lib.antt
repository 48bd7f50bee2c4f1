-- SPDX-License-Identifier: Apache-2.0
pub mod of_world
pub mod SchemaViews
pub mod Lookups
