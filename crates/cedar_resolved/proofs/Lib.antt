-- SPDX-License-Identifier: Apache-2.0
pub mod AncestorLemmas
pub mod EntitiesMade
pub mod EnvironmentCounts
pub mod EnvironmentLemmas
pub mod KeyCounts
pub mod NotedLemmas
