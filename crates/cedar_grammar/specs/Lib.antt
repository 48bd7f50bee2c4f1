-- SPDX-License-Identifier: Apache-2.0
pub mod Grammar
pub mod AsRead
pub mod Productions
pub mod Reading
pub mod Stops
pub mod Unplaced
