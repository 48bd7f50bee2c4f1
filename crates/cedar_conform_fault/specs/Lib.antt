-- SPDX-License-Identifier: Apache-2.0
pub mod FaultPlaces
pub mod FaultTexts
pub mod Flaws
