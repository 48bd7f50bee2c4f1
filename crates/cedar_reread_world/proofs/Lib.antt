-- SPDX-License-Identifier: Apache-2.0
mod Builtins
mod DeclaredTypes
mod DescentsKept
mod Faultless
mod JobCarried
mod Maps
mod NothingMissing
mod Once
mod ReferencesKept
mod SameNames
pub mod SoundThere
mod TargetsKept
mod Tests
mod TypesCarried
mod UndeclaredKept
mod Zipped
