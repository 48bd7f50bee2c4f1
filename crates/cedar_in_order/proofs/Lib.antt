-- SPDX-License-Identifier: Apache-2.0
mod Ascending
mod DeclarationsSeen
mod NamespacesSeen
mod TypesSeen
