-- SPDX-License-Identifier: Apache-2.0
-- What an input holds is one thing, and what is told of one that is no such object is one text.
use Rattle.std.proofs.Common.{◌≡◌, ℕ, List, [], ◌∷◌, Some, sym, ap, ◌∙◌}
use Rattle.serde_json.specs.Data.{Data, string}
use Rattle.serde_json.specs.Find.{as_str, get}
use Rattle.std.specs.Prelude.{unwrap_or}
use Rattle.cedar_envelope.proofs.FaultLemmas.{no_fault, one_envelope}
use Rattle.cedar_envelope.specs.Envelopes.{Contents, HasEnvelope, HoldsText, HoldsValue}
use Rattle.cedar_envelope.specs.FaultTexts.{fault_text}
use Rattle.cedar_json_laws.proofs.OnceParts.{same_inside}
use Rattle.cedar_reviews.specs.Holding.{HoldsTextAndValue, TellsEnvelope}
use Rattle.cedar_reviews.specs.Refusal.{error_line}
use Rattle.cedar_answer_laws.specs.Single.{AtMostOne}

-- ---- the first fault of an input

pub one_envelope_told : (texts values : List (List ℕ)) (input : List ℕ) → AtMostOne (TellsEnvelope texts values input)
one_envelope_told texts values input due due' (f, fault, is) (f', fault', is') =
    is ∙ ap (λ x. error_line (fault_text x)) (same_inside f f' (sym fault ∙ fault')) ∙ sym is'

pub fault_or_envelope : (texts values : List (List ℕ)) (input due : List ℕ) → TellsEnvelope texts values input due → HasEnvelope input texts values → ⊥
fault_or_envelope texts values input due (f, fault, is) has = let none = no_fault input texts values has in absurd (cc)

-- ---- what is held

-- a text or a value of one object
pub one_text : (c e : Contents) → c ≡ e → (k : List ℕ) (t u : List ℕ) → HoldsText c k t → HoldsText e k u → t ≡ u
one_text c e same k t u p q =
    let texts : Some (string t) ≡ Some (string u) = sym p.1 ∙ ap (λ x. get k x.whole) same ∙ q.1 in
    ap (λ d. unwrap_or (as_str d) []) (same_inside (string t) (string u) texts)

pub one_value : (c e : Contents) → c ≡ e → (k : List ℕ) (d f : Data) → HoldsValue c k d → HoldsValue e k f → d ≡ f
one_value c e same k d f p q = same_inside d f (sym p.1 ∙ ap (λ x. get k x.whole) same ∙ q.1)

-- a text and a value
pub one_held : (text_key value_key input t u : List ℕ) (d f : Data) → HoldsTextAndValue text_key value_key input t d → HoldsTextAndValue text_key value_key input u f → (t ≡ u) × (d ≡ f)
one_held text_key value_key input t u d f (c, is, text, value) (e, is', text', value') =
    let same = one_envelope input (text_key ∷ []) (value_key ∷ []) c e is is' in
    (one_text c e same text_key t u text text', one_value c e same value_key d f value value')

pub held_in : (text_key value_key input t : List ℕ) (d : Data) → HoldsTextAndValue text_key value_key input t d → HasEnvelope input (text_key ∷ []) (value_key ∷ [])
held_in text_key value_key input t d (c, is, text, value) = (c, is)
