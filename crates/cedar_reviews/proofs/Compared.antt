-- SPDX-License-Identifier: Apache-2.0
-- A new schema that takes what the old one takes isn't told to break with it.
use Rattle.std.proofs.Common.{◌≡◌, ℕ, List, [], inl, inr, codes, Result, Ok, Err, sym}
use Rattle.cedar_compat.specs.BreakChecks.{schema_check}
use Rattle.cedar_compat.specs.Compatible.{Compatible}
use Rattle.cedar_compat.specs.Changes.{type_break}
use Rattle.cedar_compat.specs.FaultTexts.{fault_text}
use Rattle.cedar_compat.specs.declared.fault.CompatFault.{CompatFault}
use Rattle.std.specs.Prelude.{IfOk}
use Rattle.cedar_data.specs.Answers.{IfRefused}
use Rattle.cedar_data.specs.declared.memory.Failure.{Failure}
use Rattle.cedar_data.specs.declared.memory.Failure.TheVariants.{Refused, NoMemory}
use Rattle.cedar_compat.proofs.CompatibleLaws.{pass-schema}
use Rattle.cedar_envelope.proofs.FaultLemmas.{one_envelope}
use Rattle.cedar_envelope.specs.Envelopes.{Contents, HoldsText, IsEnvelope}
use Rattle.cedar_schema.proofs.Refusing.{well_formed_or_refused}
use Rattle.cedar_world.specs.Schemas.{Schema}
use Rattle.cedar_reviews.specs.Comparing.{AreCompatible, HoldsCompatible, HoldsTexts, IsComparable, MakesComparison, TellsBreak, TellsComparison, TellsIncompatible, TellsNew, schema_keys}
use Rattle.cedar_reviews.specs.Holding.{Denotes}
use Rattle.cedar_reviews.specs.Refusal.{error_line}
use Rattle.cedar_reviews.proofs.Held.{held-or-told, one-denoted, one_text}

-- with the old schema: the new one doesn't break with it
new-or-told : (S R : Schema) (new : List ℕ) (extensions : List (List ℕ)) (told : List ℕ) → Denotes new extensions R → Compatible S R → TellsNew S new extensions told → ⊥
new-or-told S R new extensions told denotes compatible (inl (e, cause, is)) = well_formed_or_refused new extensions denotes.1.fragment denotes.0 e denotes.1.well_formed cause
new-or-told S R new extensions told denotes compatible (inr (T, other, (fault, breaks, is))) =
    let same : T ≡ R = one-denoted new extensions T R other denotes in
    let here : schema_check S R ≡ Err (type_break fault) = rw (sym same) breaks in
    let passes : schema_check S R ≡ Ok tt = pass-schema S R compatible in cc

compatible-or-told : (old new : List ℕ) (extensions : List (List ℕ)) (told : List ℕ) → AreCompatible old new extensions → TellsIncompatible old new extensions told → ⊥
compatible-or-told old new extensions told (S, R, first, second, compatible) (inl (e, cause, is)) = well_formed_or_refused old extensions first.1.fragment first.0 e first.1.well_formed cause
compatible-or-told old new extensions told (S, R, first, second, compatible) (inr (T, other, tells)) =
    let same : T ≡ S = one-denoted old extensions T S other first in
    let here : TellsNew S new extensions told = rw (sym same) tells in new-or-told S R new extensions told second compatible here

-- an input holds one text at each key
one-texts : (input s t old new : List ℕ) → HoldsTexts input s t → HoldsTexts input old new → (s ≡ old) × (t ≡ new)
one-texts input s t old new h i =
    let same : h.0 ≡ i.0 = one_envelope input schema_keys [] h.0 i.0 h.1 i.1 in
    let first : HoldsText i.0 (codes "old") s = rw (sym same) h.2 in
    let second : HoldsText i.0 (codes "new") t = rw (sym same) h.3 in
    (one_text i.0 (codes "old") s old first i.2, one_text i.0 (codes "new") t new second i.3)

pub comparable-or-told : (input : List ℕ) (extensions : List (List ℕ)) (told : List ℕ) → IsComparable input extensions → TellsComparison input extensions told → ⊥
comparable-or-told input extensions told (old, new, holds, compatible) (inl fault) = held-or-told schema_keys [] input told holds.0 holds.1 fault
comparable-or-told input extensions told (old, new, holds, compatible) (inr (s, t, held, tells)) =
    let same = one-texts input s t old new held holds in
    let first : TellsIncompatible old t extensions told = rw (sym same.0) tells in
    let here : TellsIncompatible old new extensions told = rw (sym same.1) first in compatible-or-told old new extensions told compatible here

-- the first break is told where the line of it is
pub break-told : {T E : Type 0} (text : E → List ℕ) (S R : Schema) (fault : CompatFault) (r : Result T (Failure E)) → schema_check S R ≡ Err (type_break fault) → IfRefused r (λ e. text e ≡ error_line (fault_text fault)) → IfRefused r (λ e. TellsBreak S R (text e))
break-told text S R fault (Ok t) is h = tt
break-told text S R fault (Err (Refused e)) is h = (fault, is, h)
break-told text S R fault (Err NoMemory) is h = tt

-- both texts denote schemas that are compatible where the old one and the new text do
pub texts-due : {T E : Type 0} (bytes : T → List ℕ) (old new : List ℕ) (extensions : List (List ℕ)) (S : Schema) (r : Result T E) → Denotes old extensions S
    → IfOk r (λ due. ((R : Schema) × Denotes new extensions R × Compatible S R) × (bytes due ≡ codes "compatible\n")) → IfOk r (λ due. AreCompatible old new extensions × (bytes due ≡ codes "compatible\n"))
texts-due bytes old new extensions S (Ok due) denotes h = ((S, h.0.0, denotes, h.0.1, h.0.2), h.1)
texts-due bytes old new extensions S (Err e) denotes h = tt

-- what is written of what an object holds is written of the input
pub held-due : {T E : Type 0} (bytes : T → List ℕ) (input : List ℕ) (extensions : List (List ℕ)) (c : Contents) (r : Result T E) → IsEnvelope input schema_keys [] c
    → IfOk r (λ due. HoldsCompatible c extensions (bytes due)) → IfOk r (λ due. MakesComparison input extensions (bytes due))
held-due bytes input extensions c (Ok due) is ((old, new, at_old, at_new, compatible), text) = ((old, new, (c, is, at_old, at_new), compatible), text)
held-due bytes input extensions c (Err e) is h = tt
