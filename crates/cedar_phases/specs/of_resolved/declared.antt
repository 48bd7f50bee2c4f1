-- SPDX-License-Identifier: Apache-2.0
-- What the crates above cite of `cedar_resolved`.
pub use Rattle.cedar_resolved.specs.declared.schema
