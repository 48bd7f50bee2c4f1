-- SPDX-License-Identifier: Apache-2.0
pub mod of_convert_faults
mod TypeTrees
mod TypeViews
