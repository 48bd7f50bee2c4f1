-- SPDX-License-Identifier: Apache-2.0
-- Envelopes: which of them a text is, and what each holds. Nothing is said of order or of faults.
use Rattle.std.specs.Prelude.{◌≡◌, ◌≤◌, ◌++◌, ℕ, List, true, Some}
use Rattle.std.specs.List.{list_all}
use Rattle.cedar_text.specs.Words.{has_word}
use Rattle.serde_json.specs.Data.{Data, string}
use Rattle.serde_json.specs.Find.{get}
use Rattle.serde_json.specs.Read.{read}
use Rattle.serde_json.specs.View.{view}
use Rattle.cedar_json_counts.specs.Counts.{capped, colons, members_in}
use Rattle.cedar_json_types.specs.Shapes.{Keyed}
use Rattle.cedar_envelope.specs.Members.{has_member, has_text}
use Rattle.cedar_envelope.specs.declared.envelope.Envelope.{Envelope}

-- an object, with the keys of its texts and those of its values
pub record Contents : Type 0 where
  pub whole : Data
  pub text_keys : List (List ℕ)
  pub value_keys : List (List ℕ)

abbrev pub enveloped : Data → List (List ℕ) → List (List ℕ) → Contents
enveloped d texts values = record { whole = d; text_keys = texts; value_keys = values }

-- what the envelope holds
abbrev pub contents : Envelope → Contents
contents e = enveloped (view e.whole) e.texts e.values

-- the key is one of the texts', and the member there is this text
abbrev pub HoldsText : Contents → List ℕ → List ℕ → Type 0
HoldsText c k t = (has_word c.text_keys k ≡ true) × (get k c.whole ≡ Some (string t))

-- the key is one of the values', and the member there is this value
abbrev pub HoldsValue : Contents → List ℕ → Data → Type 0
HoldsValue c k d = (has_word c.value_keys k ≡ true) × (get k c.whole ≡ Some d)

-- no object has a key twice: the text has no more colons outside its strings than the value has members
abbrev pub HasEachKeyOnce : List ℕ → Data → Type 0
HasEachKeyOnce s d = capped (colons s) ≤ capped (members_in d)

-- the text is an object that has a text at each of the keys `texts`, a member at each of the keys `values`, no other key, and no key twice
pub record IsEnvelope (s : List ℕ) (texts values : List (List ℕ)) (c : Contents) : Type 0 where
  pub is : read s ≡ Some c.whole
  pub once : HasEachKeyOnce s c.whole
  pub keyed : Keyed (texts ++ values) c.whole
  pub texts_there : list_all (has_text c.whole) texts ≡ true
  pub values_there : list_all (has_member c.whole) values ≡ true
  pub of_texts : c.text_keys ≡ texts
  pub of_values : c.value_keys ≡ values

abbrev pub HasEnvelope : List ℕ → List (List ℕ) → List (List ℕ) → Type 0
HasEnvelope s texts values = (c : Contents) × IsEnvelope s texts values c
