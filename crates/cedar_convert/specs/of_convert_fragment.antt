-- SPDX-License-Identifier: Apache-2.0
-- What the crates above cite of `cedar_convert_fragment`.
pub use Rattle.cedar_convert_namespaces.specs.of_convert_fragment.Declares
pub use Rattle.cedar_convert_namespaces.specs.of_convert_fragment.Fragments
pub use Rattle.cedar_convert_namespaces.specs.of_convert_fragment.Views
