-- SPDX-License-Identifier: Apache-2.0
-- What the crates above cite of `cedar_convert_fragment`.
pub use Rattle.cedar_convert_fragment.specs.Declares
pub use Rattle.cedar_convert_fragment.specs.Fragments
pub use Rattle.cedar_convert_fragment.specs.Views
