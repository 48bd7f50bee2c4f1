-- SPDX-License-Identifier: Apache-2.0
mod Apart
mod Builtins
mod Places
