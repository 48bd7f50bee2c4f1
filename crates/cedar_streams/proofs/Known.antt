-- SPDX-License-Identifier: Apache-2.0
-- Lemmas on bytes that may be told.
use Rattle.std.proofs.Common.{◌≡◌, List, [], ◌++◌, ℕ, ◌+◌, ◌<◌, ◌≤◌, length, take, Option, None, Some, IfSome, refl, ap, subst, sym, ◌∙◌, append-nil, append_assoc, length-append, arith}
use Rattle.std.proofs.lemmas.List.{length-take}
use Rattle.std.proofs.lemmas.Option.{none-some}
use Rattle.std.specs.Io.KnownBytes.{append_known, prepend_known}
use Rattle.cedar_streams.specs.Bytes.{Gives, GivesAll, GivesAtMost, GivesMoreThan, Takes, TakesFront}

pub append_known-nil : (known : Option (List ℕ)) → known ≡ append_known known []
append_known-nil None = refl
append_known-nil (Some xs) = ap (λ ys. Some ys) (sym (append-nil xs))

pub append_known-append : (known : Option (List ℕ)) (a b : List ℕ) → append_known (append_known known a) b ≡ append_known known (a ++ b)
append_known-append None a b = refl
append_known-append (Some xs) a b = ap (λ ys. Some ys) (append_assoc xs a b)

pub prepend_known-nil : (known : Option (List ℕ)) → known ≡ prepend_known [] known
prepend_known-nil None = refl
prepend_known-nil (Some xs) = refl

pub prepend_known-append : (known : Option (List ℕ)) (a b : List ℕ) → prepend_known a (prepend_known b known) ≡ prepend_known (a ++ b) known
prepend_known-append None a b = refl
prepend_known-append (Some xs) a b = ap (λ ys. Some ys) (sym (append_assoc a b xs))

pub Gives-then : {old mid : Option (List ℕ)} (new : Option (List ℕ)) (first second : List ℕ) → Gives old mid first → Gives mid new second → Gives old new (first ++ second)
Gives-then new first second p q = p ∙ ap (prepend_known first) q ∙ prepend_known-append new first second

-- a text, and then n bytes more

module _ {old mid new : Option (List ℕ)} (limit : ℕ) (text buf : List ℕ) (n : ℕ) where
  pub gives_within : Gives old mid text → Gives mid new (take n buf) → n ≤ length buf → length text + n ≤ limit → GivesAtMost limit old new
  gives_within p q front l = record {
    bytes = text ++ take n buf;
    gives = Gives-then new text (take n buf) p q;
    within = omega (arith, length-append text (take n buf), length-take n buf);
  }

  pub gives_beyond : Gives old mid text → Gives mid new (take n buf) → n ≤ length buf → limit < length text + n → GivesMoreThan limit old new
  gives_beyond p q front l = record {
    bytes = text ++ take n buf;
    gives = Gives-then new text (take n buf) p q;
    beyond = omega (arith, length-append text (take n buf), length-take n buf);
  }

told : (xs ys : List ℕ) → Some xs ≡ Some ys → xs ≡ ys
told xs ys e = subst (λ (known : Option (List ℕ)). IfSome known (λ zs. xs ≡ zs)) e refl

-- a source that tells its bytes had those that it gave

pub GivesAll-is : (limit : ℕ) {old new : Option (List ℕ)} (text input : List ℕ) → old ≡ Some input → GivesAll limit old new text → text ≡ input
GivesAll-is limit {new = None} text input e p = absurd (none-some input (sym p.gives ∙ e))
GivesAll-is limit {new = Some rest} text input e p = sym (told input (text ++ rest) (sym e ∙ p.gives) ∙ ap (λ s. text ++ s) p.end ∙ append-nil text)

pub GivesMoreThan-had : (limit : ℕ) {old new : Option (List ℕ)} (input : List ℕ) → old ≡ Some input → GivesMoreThan limit old new → limit < length input
GivesMoreThan-had limit {new = None} input e p = absurd (none-some input (sym p.gives ∙ e))
GivesMoreThan-had limit {new = Some rest} input e p =
    omega (arith, p.beyond, length-append p.bytes rest, ap length (told input (p.bytes ++ rest) (sym e ∙ p.gives)))

pub TakesFront-before : {old mid new : Option (List ℕ)} (first : List ℕ) {second : List ℕ} → Takes old mid first → TakesFront mid new second → TakesFront old new (first ++ second)
TakesFront-before {old = old} first p q = record {
  front = first ++ q.front;
  back = q.back;
  split = ap (λ s. first ++ s) q.split ∙ sym (append_assoc first q.front q.back);
  takes = q.takes ∙ ap (λ k. append_known k q.front) p ∙ append_known-append old first q.front;
}

pub TakesFront-longer : {old new : Option (List ℕ)} {first : List ℕ} (second : List ℕ) → TakesFront old new first → TakesFront old new (first ++ second)
TakesFront-longer second p = record {
  front = p.front;
  back = p.back ++ second;
  split = ap (λ s. s ++ second) p.split ∙ append_assoc p.front p.back second;
  takes = p.takes;
}
