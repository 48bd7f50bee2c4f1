-- SPDX-License-Identifier: Apache-2.0
pub mod of_world
pub mod of_namespace_definitions
pub mod of_definitions
pub mod of_convert_fragment
pub mod of_convert_faults
pub mod FragmentWorlds
pub mod FragmentFaults
