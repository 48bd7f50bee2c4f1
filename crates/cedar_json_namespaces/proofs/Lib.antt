-- SPDX-License-Identifier: Apache-2.0
pub mod of_json_read
pub mod MemberLemmas
