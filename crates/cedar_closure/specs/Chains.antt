-- SPDX-License-Identifier: Apache-2.0
-- Chains of steps.

-- a chain of one or more steps leads from a to b
pub data Reaches {A : Type 0} (Step : A → A → Type 0) : A → A → Type 0 where
  one : {a b : A} → Step a b → Reaches Step a b
  more : {a b c : A} → Step a b → Reaches Step b c → Reaches Step a c
