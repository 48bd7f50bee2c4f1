-- SPDX-License-Identifier: Apache-2.0
-- What an input holds, it holds once; and it isn't both held and refused.
use Rattle.std.proofs.Common.{◌≡◌, ℕ, List, [], ◌∷◌, Some, None, sym, ◌∙◌}
use Rattle.serde_json.specs.Data.{Data, string}
use Rattle.cedar_envelope.specs.Envelopes.{Contents, HoldsText, HoldsValue, IsEnvelope}
use Rattle.cedar_envelope.specs.Faults.{envelope_fault}
use Rattle.cedar_envelope.proofs.FaultLemmas.{no_fault, one_envelope}
use Rattle.cedar_schema.proofs.Refusing.{one_schema_of_text, well_formed_or_refused}
use Rattle.cedar_world.specs.Schemas.{Schema}
use Rattle.cedar_reviews.specs.Holding.{Denotes, HoldsTextAndValue, TellsEnvelope, TellsNoSchema}

-- a text at a key is one text
pub one_text : (c : Contents) (k s t : List ℕ) → HoldsText c k s → HoldsText c k t → s ≡ t
one_text c k s t h i = let same : Some (string s) ≡ Some (string t) = sym h.1 ∙ i.1 in cc

pub one_value : (c : Contents) (k : List ℕ) (d e : Data) → HoldsValue c k d → HoldsValue c k e → d ≡ e
one_value c k d e h i = let same : Some d ≡ Some e = sym h.1 ∙ i.1 in cc

-- an input that is an envelope has no fault
pub held-or-told : (texts values : List (List ℕ)) (input told : List ℕ) (c : Contents) → IsEnvelope input texts values c → TellsEnvelope texts values input told → ⊥
held-or-told texts values input told c is t =
    let none : envelope_fault input texts values ≡ None = no_fault input texts values (c, is) in cc (none, t.1)

module _ (text_key value_key input : List ℕ) where
  -- the text and the value that an input holds are one text and one value
  pub one-held : (s t : List ℕ) (d e : Data) → HoldsTextAndValue text_key value_key input s d → HoldsTextAndValue text_key value_key input t e → (s ≡ t) × (d ≡ e)
  one-held s t d e h i =
      let same : h.0 ≡ i.0 = one_envelope input (text_key ∷ []) (value_key ∷ []) h.0 i.0 h.1 i.1 in
      let text : HoldsText i.0 text_key s = rw (sym same) h.2 in
      let value : HoldsValue i.0 value_key d = rw (sym same) h.3 in
      (one_text i.0 text_key s t text i.2, one_value i.0 value_key d e value i.3)

-- a text that denotes a schema isn't told to denote none
pub denoted-or-told : (text : List ℕ) (extensions : List (List ℕ)) (S : Schema) (told : List ℕ) → Denotes text extensions S → TellsNoSchema text extensions told → ⊥
denoted-or-told text extensions S told d t = well_formed_or_refused text extensions d.1.fragment d.0 t.0 d.1.well_formed t.1

-- and it denotes one schema
pub one-denoted : (text : List ℕ) (extensions : List (List ℕ)) (S T : Schema) → Denotes text extensions S → Denotes text extensions T → S ≡ T
one-denoted text extensions S T d e = (one_schema_of_text text extensions S T d.0 e.0 d.1 e.1).0
