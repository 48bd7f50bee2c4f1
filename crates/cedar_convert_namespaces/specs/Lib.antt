-- SPDX-License-Identifier: Apache-2.0
pub mod of_convert_fragment
pub use Rattle.cedar_data.specs.formers
