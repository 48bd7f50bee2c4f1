-- SPDX-License-Identifier: Apache-2.0
mod ByKind
mod Conditioned
mod Lists
mod Spaces
mod Types
mod Warnings
