-- SPDX-License-Identifier: Apache-2.0
-- What the crates above cite of `cedar_schema_errors`.
pub mod declared
