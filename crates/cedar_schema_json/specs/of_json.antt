-- SPDX-License-Identifier: Apache-2.0
-- What the crates above cite of `cedar_json`.
pub use Rattle.cedar_json.specs.TextFaults
