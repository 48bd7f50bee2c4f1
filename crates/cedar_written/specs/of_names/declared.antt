-- SPDX-License-Identifier: Apache-2.0
-- What the crates above cite of `cedar_names`.
pub use Rattle.cedar_print.specs.of_names.declared.id
pub use Rattle.cedar_print.specs.of_names.declared.internal_name
