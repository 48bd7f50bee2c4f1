-- SPDX-License-Identifier: Apache-2.0
mod HeldTypes
mod HeldFragments
