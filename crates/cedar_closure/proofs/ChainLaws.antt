-- SPDX-License-Identifier: Apache-2.0
-- Laws of chains of steps.
use Rattle.std.proofs.Common.{}
use Rattle.cedar_closure.specs.Chains.{Reaches, one, more}

module _ {A : Type 0} {Step : A → A → Type 0} where
  -- one chain and then another
  pub Reaches-append : {a b c : A} → Reaches Step a b → Reaches Step b c → Reaches Step a c
  Reaches-append (one first) later = more first later
  Reaches-append (more first rest) later = more first (Reaches-append rest later)

  -- a chain and then one step
  pub Reaches-push : {a b c : A} → Reaches Step a b → Step b c → Reaches Step a c
  Reaches-push chain last = Reaches-append chain (one last)

  -- what holds after one step from a, and goes on along each step, holds wherever a chain leads from a
  pub Reaches-along : (P : A → Type 0) → ((b c : A) → P b → Step b c → P c) → {a d : A} → ((b : A) → Step a b → P b) → Reaches Step a d → P d
  Reaches-along P on begun (one first) = begun _ first
  Reaches-along P on begun (more first rest) = Reaches-along P on (λ c step. on _ c (begun _ first) step) rest

-- a chain, seen through a function that keeps steps
pub Reaches-map : {A B : Type 0} {Step : A → A → Type 0} {Step' : B → B → Type 0} (f : A → B) → ((a b : A) → Step a b → Step' (f a) (f b)) → {a b : A} → Reaches Step a b → Reaches Step' (f a) (f b)
Reaches-map f keeps (one first) = one (keeps _ _ first)
Reaches-map f keeps (more first rest) = more (keeps _ _ first) (Reaches-map f keeps rest)

-- a chain of steps that are steps of another kind too
pub Reaches-weaker : {A : Type 0} {Step Step' : A → A → Type 0} → ((a b : A) → Step a b → Step' a b) → {a b : A} → Reaches Step a b → Reaches Step' a b
Reaches-weaker keeps chain = Reaches-map (λ a. a) keeps chain
