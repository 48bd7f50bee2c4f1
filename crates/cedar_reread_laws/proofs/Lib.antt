-- SPDX-License-Identifier: Apache-2.0
mod Conditions
mod Denoting
pub mod FaultsKept
mod Known
mod NestsAlike
mod NoCollisions
mod Places
mod Placed
mod Printing
pub mod SoundParts
mod SoundTypes
mod Told
mod Warned
mod Wholes
mod WorldPlaceless
mod WorldReread
