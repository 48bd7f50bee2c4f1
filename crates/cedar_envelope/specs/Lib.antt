-- SPDX-License-Identifier: Apache-2.0
pub mod Envelopes
pub mod FaultTexts
pub mod Faults
pub mod Members
