-- SPDX-License-Identifier: Apache-2.0
pub mod Ascending
mod FewNames
mod ReadClauses
pub mod FaultLaws
pub mod FirstRepeats
pub mod RecordLaws
mod RecordRepeats
mod Repeated
mod Unnamed
mod WordLists
mod ClauseLaws
pub mod DeclarationLaws
