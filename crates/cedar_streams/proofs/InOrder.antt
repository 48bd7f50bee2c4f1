-- SPDX-License-Identifier: Apache-2.0
-- How writes that follow one another make one write of the texts together.
use Rattle.std.proofs.Common.{◌≡◌, List, [], ◌++◌, ℕ, ◌≤◌, Option, Result, Ok, Err, refl, ap, ◌∙◌, arith}
use Rattle.std.specs.Result.{IsErr}
use Rattle.std.specs.Io.KnownBytes.{append_known}
use Rattle.cedar_streams.specs.Bytes.{Takes, TakesFront}
use Rattle.cedar_streams.specs.Faults.{Rose, HasCause}
use Rattle.cedar_streams.specs.Texts.{◌+++◌}
use Rattle.cedar_streams.specs.Writes.{Writes, whole, part}
use Rattle.cedar_streams.proofs.Known.{append_known-nil, append_known-append, TakesFront-before, TakesFront-longer}

module _ {K : Type 0} {written : K → Option (List ℕ)} {faults : K → ℕ} where
  -- nothing is written
  pub Writes-nothing : {T E : Type 0} (k : K) (x : T) → Writes {T = T} {E = E} written faults k k [] (Ok x)
  Writes-nothing k x = whole (append_known-nil (written k)) refl

  -- a text, and then another
  pub Writes-append : {T U E F : Type 0} {old mid new : K} {first second : List ℕ} {x : T} {result : Result U F}
      → Writes {E = E} written faults old mid first (Ok x) → Writes written faults mid new second result → Writes written faults old new (first ++ second) result
  Writes-append {old = old} {first = first} {second = second} (whole p l) (whole q m) =
      whole (q ∙ ap (λ k. append_known k second) p ∙ append_known-append (written old) first second) (m ∙ l)
  Writes-append {first = first} (whole p l) (part q m r) = part (TakesFront-before first p q) (omega arith) (omega arith)

  -- a failure at the first of two texts
  pub Writes-append-stopped : {T U E F : Type 0} {old new : K} {first : List ℕ} (second : List ℕ) {e : E} {result : Result U F}
      → Writes {T = T} written faults old new first (Err e) → IsErr result → Writes written faults old new (first ++ second) result
  Writes-append-stopped second {result = Ok y} p i = cc
  Writes-append-stopped second {result = Err d} (part q m r) i = part (TakesFront-longer second q) m r

  -- the three steps of a function that writes one text after another, each with `?`

  pub Writes-then : {T U E F : Type 0} {old mid new : K} {first second : List ℕ} {x : T} {result : Result U F}
      → Writes {E = E} written faults old mid first (Ok x) → Writes written faults mid new second result → Writes written faults old new (first +++ second) result
  unfolding ◌+++◌
  Writes-then p q = Writes-append p q

  pub Writes-stopped : {T U E F : Type 0} {old new : K} {first : List ℕ} (second : List ℕ) {e : E} {result : Result U F}
      → Writes {T = T} written faults old new first (Err e) → IsErr result → Writes written faults old new (first +++ second) result
  unfolding ◌+++◌
  Writes-stopped second p i = Writes-append-stopped second p i

  pub Writes-failed : {T U E F : Type 0} {old new : K} {text : List ℕ} {e : E} {result : Result U F}
      → Writes {T = T} written faults old new text (Err e) → IsErr result → Writes written faults old new text result
  Writes-failed {result = Ok y} p i = cc
  Writes-failed {result = Err d} (part q m r) i = part q m r

  -- what a caller learns

  pub Writes-whole : {T E : Type 0} {old new : K} {text : List ℕ} {x : T} → Writes {E = E} written faults old new text (Ok x) → Takes (written old) (written new) text
  Writes-whole (whole p l) = p

  pub Writes-calm : {T E : Type 0} {old new : K} {text : List ℕ} {x : T} → Writes {E = E} written faults old new text (Ok x) → faults new ≡ faults old
  Writes-calm (whole p l) = l

  pub Writes-front : {T E : Type 0} {old new : K} {text : List ℕ} {e : E} → Writes {T = T} written faults old new text (Err e) → TakesFront (written old) (written new) text
  Writes-front (part p l r) = p

  pub Writes-rose : {T E : Type 0} {old new : K} {text : List ℕ} {e : E} → Writes {T = T} written faults old new text (Err e) → Rose (faults old) (faults new)
  Writes-rose (part p l r) = r

  pub Writes-later : {T E : Type 0} {old new : K} {text : List ℕ} {result : Result T E} → Writes written faults old new text result → faults old ≤ faults new
  Writes-later (whole p l) = omega (arith, l)
  Writes-later (part p l r) = l

  pub Writes-cause : {T E : Type 0} {old new : K} {text : List ℕ} {result : Result T E} → Writes written faults old new text result → HasCause (faults old) (faults new) result
  Writes-cause (whole p l) = record { later = omega (arith, l); failed = tt; succeeded = l }
  Writes-cause (part p l r) = record { later = l; failed = r; succeeded = tt }

-- for a function that writes one text after another, each with `?`, the whole being `a +++ b +++ c`
pub ruleset in_order = (Writes-then, Writes-stopped, Writes-failed)
