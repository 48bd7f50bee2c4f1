-- SPDX-License-Identifier: Apache-2.0
-- Data that is right by its schema isn't refused.
use Rattle.std.proofs.Common.{◌≡◌, ℕ, List, [], ◌∷◌, codes, Err}
use Rattle.std.specs.Prelude.{⊤}
use Rattle.cedar_data.specs.Answers.{Accepts, IfRefused}
use Rattle.cedar_data.specs.declared.memory.Failure.{Failure}
use Rattle.cedar_data.specs.declared.memory.Failure.TheVariants.{Refused, NoMemory}
use Rattle.cedar_envelope.proofs.FaultLemmas.{one_envelope}
use Rattle.cedar_envelope.specs.Envelopes.{Contents, HoldsText, HoldsValue, IsEnvelope}
use Rattle.serde_json.specs.Data.{Data}
use Rattle.cedar_reviews.specs.Holding.{TellsEnvelope}
use Rattle.cedar_reviews.specs.Judging.{HoldsRight, IsRightBy, MakesJudgement, Passes, judged_key}
use Rattle.cedar_reviews.specs.declared.judged.Judged.{Judged}
use Rattle.cedar_reviews.proofs.Held.{held-or-told, one_text, one_value}

-- what is held at the keys of one object is right, where it is right that these are held
pub held-by : (judged : Judged) (c : Contents) (extensions : List (List ℕ)) (text : List ℕ) (d : Data) (due : List ℕ) → HoldsText c (codes "schema") text → HoldsValue c (judged_key judged) d → HoldsRight judged c extensions due
    → IsRightBy judged text extensions d due
held-by judged c extensions text d due h i (other, e, t, v, right) =
    let here : IsRightBy judged text extensions e due = rw (one_text c (codes "schema") text other h t) right in
    rw (one_value c (judged_key judged) d e i v) here

-- an input's object holds what is right, where the input makes it so
pub object-holds : (judged : Judged) (input : List ℕ) (extensions : List (List ℕ)) (c : Contents) (due : List ℕ) → IsEnvelope input (codes "schema" ∷ []) (judged_key judged ∷ []) c → MakesJudgement judged input extensions due
    → HoldsRight judged c extensions due
object-holds judged input extensions c due is (text, d, (other, same, t, v), right) =
    let one : c ≡ other = one_envelope input (codes "schema" ∷ []) (judged_key judged ∷ []) c other is same in
    let at_text : HoldsText c (codes "schema") text = rw one t in
    let at_value : HoldsValue c (judged_key judged) d = rw one v in
    (text, d, at_text, at_value, right)

-- an input that passes is an object that has what is wanted
pub object-or-told : (T U : Type 0) {E : Type 0} (bytes : E → List ℕ) (judged : Judged) (input : List ℕ) (extensions : List (List ℕ)) (failure : Failure E)
    → IfRefused {T = T} (Err failure) (λ e. TellsEnvelope (codes "schema" ∷ []) (judged_key judged ∷ []) input (bytes e)) → Passes judged input extensions → Accepts {T = U} (λ _. ⊤) (Err failure)
object-or-told T U bytes judged input extensions (Refused e) told (due, (text, d, (c, is, at_text, at_value), right)) = held-or-told (codes "schema" ∷ []) (judged_key judged ∷ []) input (bytes e) c is told
object-or-told T U bytes judged input extensions NoMemory told passes = tt
