-- SPDX-License-Identifier: Apache-2.0
-- The loop that writes a text piece by piece.
use Rattle.std.proofs.Common.{◌≡◌, List, [], ◌++◌, ℕ, take, length, slice_range, Option, Result, Ok, Err, refl, ap, sym, ◌∙◌, append_assoc, append-nil, arith}
use Rattle.std.specs.Result.{IsErr}
use Rattle.std.specs.Io.KnownBytes.{append_known}
use Rattle.std.proofs.lemmas.List.{take-append-drop}
use Rattle.std.proofs.lemmas.Slice.{between_to_end}
use Rattle.cedar_streams.specs.Bytes.{Takes}
use Rattle.cedar_streams.specs.Faults.{HasCause}
use Rattle.cedar_streams.specs.Writes.{Writes, whole, part}
use Rattle.cedar_streams.proofs.Known.{append_known-nil, append_known-append}

-- a front of the text is written, and the rest is left
pub record WritesFront {K : Type 0} (written : K → Option (List ℕ)) (faults : K → ℕ) (old now : K) (text rest : List ℕ) : Type 0 where
  pub front : List ℕ
  pub split : text ≡ front ++ rest
  pub takes : Takes (written old) (written now) front
  pub calm : faults now ≡ faults old

module _ {K : Type 0} (written : K → Option (List ℕ)) (faults : K → ℕ) where
  pub WritesFront-start : (k : K) (text : List ℕ) → WritesFront written faults k k text text
  WritesFront-start k text = record { front = []; split = refl; takes = append_known-nil (written k); calm = refl }

module _ {K : Type 0} {written : K → Option (List ℕ)} {faults : K → ℕ} {old now new : K} {text rest : List ℕ} where
  pub WritesFront-next : (n : ℕ) → WritesFront written faults old now text rest → Takes (written now) (written new) (take n rest) → faults new ≡ faults now → WritesFront written faults old new text (slice_range rest n (length rest))
  WritesFront-next n p t l = record {
    front = p.front ++ take n rest;
    split = rw (between_to_end rest n (length rest) (omega arith), append_assoc, take-append-drop) p.split;
    takes = t ∙ ap (λ k. append_known k (take n rest)) p.takes ∙ append_known-append (written old) p.front (take n rest);
    calm = l ∙ p.calm;
  }

  pub WritesFront-stopped : {T U E F : Type 0} {e : E} (result : Result U F) → IsErr result → WritesFront written faults old now text rest → written new ≡ written now → HasCause {T = T} (faults now) (faults new) (Err e) → Writes written faults old new text result
  WritesFront-stopped (Ok y) i p t h = cc
  WritesFront-stopped (Err d) i p t h = part (record { front = p.front; back = rest; split = p.split; takes = t ∙ p.takes }) (omega (arith, p.calm, h.later)) (omega (arith, p.calm, h.failed))

module _ {K : Type 0} {written : K → Option (List ℕ)} {faults : K → ℕ} {old now : K} {text rest : List ℕ} where
  pub WritesFront-end : {T E : Type 0} (x : T) → rest ≡ [] → WritesFront written faults old now text rest → Writes {T = T} {E = E} written faults old now text (Ok x)
  WritesFront-end x e p = whole (p.takes ∙ ap (λ s. append_known (written old) s) (sym (p.split ∙ ap (λ s. p.front ++ s) e ∙ append-nil p.front))) p.calm

-- for a turn of the loop
pub ruleset next_front = (WritesFront-next)
