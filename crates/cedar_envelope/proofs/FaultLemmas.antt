-- SPDX-License-Identifier: Apache-2.0
-- What has an envelope has no fault, and what has no fault has an envelope.
use Rattle.std.proofs.Common.{◌≡◌, ℕ, List, [], ◌∷◌, ◌++◌, Bool, true, false, ◌&&◌, if◌then◌else◌, Option, Some, None, is_some, option_and_then, refl, sym, ap, ◌∙◌}
use Rattle.std.specs.List.{list_all}
use Rattle.std.proofs.lemmas.Bool.{ltb-false, le-ltb}
use Rattle.cedar_text.specs.Words.{has_word}
use Rattle.serde_json.specs.Data.{Data, null, boolean, number, string, array, object, Members, no_members, member}
use Rattle.serde_json.specs.Find.{as_object, as_str, get}
use Rattle.serde_json.specs.Read.{read}
use Rattle.cedar_json_counts.specs.Counts.{capped, colons, members_in}
use Rattle.cedar_json_types.specs.Shapes.{Keyed, KeysWithin}
use Rattle.cedar_envelope.specs.Members.{has_member, has_text}
use Rattle.cedar_envelope.specs.Envelopes.{Contents, HasEachKeyOnce, HasEnvelope, IsEnvelope, enveloped}
use Rattle.cedar_envelope.specs.Faults.{Fault, envelope_fault, fault_in, first, first_at, keys_fault, member_fault, read_fault, repeat_fault, string_fault, text_fault, unknown_fault, value_fault}
use Rattle.cedar_envelope.specs.declared.fault.EnvelopeFault.{EnvelopeFault}
use Rattle.cedar_envelope.specs.declared.fault.EnvelopeFault.TheVariants.{RepeatedKey, UnknownField}
use Rattle.cedar_envelope.proofs.HeldLemmas.{both}

-- ---- the first of two faults

first_none : (a b : Fault) → first a b ≡ None → (a ≡ None) × (b ≡ None)
first_none None b none = (refl, none)
first_none (Some f) b none = absurd (cc)

no_first : (a b : Fault) → a ≡ None → b ≡ None → first a b ≡ None
no_first a b here there = ap (λ o. first o b) here ∙ there

untold : (b : Bool) (f : EnvelopeFault) → (if b then Some f else None) ≡ None → b ≡ false
untold true f none = absurd (cc)
untold false f none = refl

-- ---- keys that stand twice

once_from : (s : List ℕ) (d : Data) → repeat_fault s d ≡ None → HasEachKeyOnce s d
once_from s d none = ltb-false (capped (members_in d)) (capped (colons s)) (untold _ (RepeatedKey (capped (colons s)) (capped (members_in d))) none)

no_repeat : (s : List ℕ) (d : Data) → HasEachKeyOnce s d → repeat_fault s d ≡ None
no_repeat s d once =
    ap (λ b. if b then Some (RepeatedKey (capped (colons s)) (capped (members_in d))) else None) (le-ltb (capped (members_in d)) (capped (colons s)) once)

-- ---- the keys of the object

one_key : (b : Bool) (rest : Fault) (f : EnvelopeFault) → (if b then rest else Some f) ≡ None → (b ≡ true) × (rest ≡ None)
one_key true rest f none = (refl, none)
one_key false rest f none = absurd (cc)

keys_within : (keys : List (List ℕ)) (ms : Members) → unknown_fault keys ms ≡ None → KeysWithin keys ms
keys_within keys no_members none = tt
keys_within keys (member k d ms) none =
    let step = one_key (has_word keys k) (unknown_fault keys ms) (UnknownField k) none in
    (step.0, keys_within keys ms step.1)

none_unknown : (keys : List (List ℕ)) (ms : Members) → KeysWithin keys ms → unknown_fault keys ms ≡ None
none_unknown keys no_members within = refl
none_unknown keys (member k d ms) within = ap (λ b. if b then unknown_fault keys ms else Some (UnknownField k)) within.0 ∙ none_unknown keys ms within.1

keyed_from : (keys : List (List ℕ)) (d : Data) → keys_fault keys d ≡ None → Keyed keys d
keyed_from keys null none = absurd (cc)
keyed_from keys (boolean b) none = absurd (cc)
keyed_from keys (number n) none = absurd (cc)
keyed_from keys (string s) none = absurd (cc)
keyed_from keys (array ds) none = absurd (cc)
keyed_from keys (object ms) none = (ms, refl, keys_within keys ms none)

of_object : (keys : List (List ℕ)) (d : Data) (ms : Members) → as_object d ≡ Some ms → KeysWithin keys ms → keys_fault keys d ≡ None
of_object keys null ms is within = absurd (cc)
of_object keys (boolean b) ms is within = absurd (cc)
of_object keys (number n) ms is within = absurd (cc)
of_object keys (string s) ms is within = absurd (cc)
of_object keys (array ds) ms is within = absurd (cc)
of_object keys (object os) ms is within = let same : os ≡ ms = cc in ap (unknown_fault keys) same ∙ none_unknown keys ms within

no_other : (keys : List (List ℕ)) (d : Data) → Keyed keys d → keys_fault keys d ≡ None
no_other keys d (ms, is, within) = of_object keys d ms is within

-- ---- the members at the keys

module _ (fault : List ℕ → Fault) (p : List ℕ → Bool) where
  all_from : ((k : List ℕ) → fault k ≡ None → p k ≡ true) → (ks : List (List ℕ)) → first_at fault ks ≡ None → list_all p ks ≡ true
  all_from each [] none = refl
  all_from each (k ∷ ks) none =
      let parts = first_none (fault k) (first_at fault ks) none in
      ap (λ b. b && list_all p ks) (each k parts.0) ∙ all_from each ks parts.1

  none_at : ((k : List ℕ) → p k ≡ true → fault k ≡ None) → (ks : List (List ℕ)) → list_all p ks ≡ true → first_at fault ks ≡ None
  none_at each [] all = refl
  none_at each (k ∷ ks) all =
      let parts = both (p k) (list_all p ks) all in
      no_first (fault k) (first_at fault ks) (each k parts.0) (none_at each ks parts.1)

string_from : (k : List ℕ) (o : Option Data) → string_fault k o ≡ None → is_some (option_and_then as_str o) ≡ true
string_from k None none = absurd (cc)
string_from k (Some null) none = absurd (cc)
string_from k (Some (boolean b)) none = absurd (cc)
string_from k (Some (number n)) none = absurd (cc)
string_from k (Some (string s)) none = refl
string_from k (Some (array ds)) none = absurd (cc)
string_from k (Some (object ms)) none = absurd (cc)

no_string_fault : (k : List ℕ) (o : Option Data) → is_some (option_and_then as_str o) ≡ true → string_fault k o ≡ None
no_string_fault k None there = absurd (cc)
no_string_fault k (Some null) there = absurd (cc)
no_string_fault k (Some (boolean b)) there = absurd (cc)
no_string_fault k (Some (number n)) there = absurd (cc)
no_string_fault k (Some (string s)) there = refl
no_string_fault k (Some (array ds)) there = absurd (cc)
no_string_fault k (Some (object ms)) there = absurd (cc)

member_from : (k : List ℕ) (o : Option Data) → member_fault k o ≡ None → is_some o ≡ true
member_from k None none = absurd (cc)
member_from k (Some d) none = refl

no_member_fault : (k : List ℕ) (o : Option Data) → is_some o ≡ true → member_fault k o ≡ None
no_member_fault k None there = absurd (cc)
no_member_fault k (Some d) there = refl

-- ---- envelopes

module _ (s : List ℕ) (texts values : List (List ℕ)) where
  -- a value with no fault has the texts and the values
  pub texts_from : (d : Data) → fault_in s texts values d ≡ None → list_all (has_text d) texts ≡ true
  texts_from d none =
      let repeats = first_none (repeat_fault s d) _ none in
      let keys = first_none (keys_fault (texts ++ values) d) _ repeats.1 in
      let members = first_none (first_at (text_fault d) texts) (first_at (value_fault d) values) keys.1 in
      all_from (text_fault d) (has_text d) (λ k none. string_from k (get k d) none) texts members.0

  pub values_from : (d : Data) → fault_in s texts values d ≡ None → list_all (has_member d) values ≡ true
  values_from d none =
      let repeats = first_none (repeat_fault s d) _ none in
      let keys = first_none (keys_fault (texts ++ values) d) _ repeats.1 in
      let members = first_none (first_at (text_fault d) texts) (first_at (value_fault d) values) keys.1 in
      all_from (value_fault d) (has_member d) (λ k none. member_from k (get k d) none) values members.1

  -- the text of a value with no fault is the envelope of that value
  pub is_enveloped : (d : Data) → read s ≡ Some d → fault_in s texts values d ≡ None → IsEnvelope s texts values (enveloped d texts values)
  is_enveloped d is none =
      let repeats = first_none (repeat_fault s d) _ none in
      let keys = first_none (keys_fault (texts ++ values) d) _ repeats.1 in
      record {
        is = is;
        once = once_from s d repeats.0;
        keyed = keyed_from (texts ++ values) d keys.0;
        texts_there = texts_from d none;
        values_there = values_from d none;
        of_texts = refl;
        of_values = refl;
      }

  no_fault_in : (c : Contents) → IsEnvelope s texts values c → fault_in s texts values c.whole ≡ None
  no_fault_in c e =
      no_first (repeat_fault s c.whole) _ (no_repeat s c.whole e.once)
      (no_first (keys_fault (texts ++ values) c.whole) _ (no_other (texts ++ values) c.whole e.keyed)
      (no_first (first_at (text_fault c.whole) texts) (first_at (value_fault c.whole) values)
      (none_at (text_fault c.whole) (has_text c.whole) (λ k there. no_string_fault k (get k c.whole) there) texts e.texts_there)
      (none_at (value_fault c.whole) (has_member c.whole) (λ k there. no_member_fault k (get k c.whole) there) values e.values_there)))

  pub no_fault : HasEnvelope s texts values → envelope_fault s texts values ≡ None
  no_fault (c, e) = ap (λ o. read_fault o (fault_in s texts values)) e.is ∙ no_fault_in c e

  from_read : (o : Option Data) → read s ≡ o → read_fault o (fault_in s texts values) ≡ None → HasEnvelope s texts values
  from_read None is none = absurd (cc)
  from_read (Some d) is none = (enveloped d texts values, is_enveloped d is none)

  pub has_envelope : envelope_fault s texts values ≡ None → HasEnvelope s texts values
  has_envelope none = from_read (read s) refl none

  pub one_envelope : (c d : Contents) → IsEnvelope s texts values c → IsEnvelope s texts values d → c ≡ d
  one_envelope c d e f =
      let same : Some c.whole ≡ Some d.whole = sym e.is ∙ f.is in
      let whole : c.whole ≡ d.whole = cc in
      ap (λ w. enveloped w c.text_keys c.value_keys) whole ∙ ap (λ ks. enveloped d.whole ks c.value_keys) (e.of_texts ∙ sym f.of_texts)
      ∙ ap (λ ks. enveloped d.whole d.text_keys ks) (e.of_values ∙ sym f.of_values)
