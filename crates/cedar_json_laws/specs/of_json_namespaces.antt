-- SPDX-License-Identifier: Apache-2.0
-- What the crates above cite of `cedar_json_namespaces`.
pub use Rattle.cedar_json_namespaces.specs.Namespaces
