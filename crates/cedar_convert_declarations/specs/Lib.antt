-- SPDX-License-Identifier: Apache-2.0
pub mod of_convert_fragment
pub mod of_convert_faults
pub mod of_convert_errors
pub mod Applied
