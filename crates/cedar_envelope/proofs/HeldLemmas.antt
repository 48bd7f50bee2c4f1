-- SPDX-License-Identifier: Apache-2.0
-- What an envelope holds at a key.
use Rattle.std.proofs.Common.{◌≡◌, ℕ, List, [], ◌∷◌, Bool, true, false, ◌||◌, ◌&&◌, Option, Some, None, Bor, is_some, option_map, option_and_then, bytes_eq, true≢false, refl, sym, ap, ◌∙◌}
use Rattle.std.specs.List.{list_all}
use Rattle.std.specs.Option.{MatchOption}
use Rattle.std.proofs.lemmas.Slice.Eq.{bytes_eq-Decides}
use Rattle.cedar_text.specs.Words.{has_word}
use Rattle.serde_json.specs.Data.{Data, null, boolean, number, string, array, object}
use Rattle.serde_json.specs.Find.{as_str, get}
use Rattle.serde_json.specs.View.{view}
use Rattle.serde_json.specs.declared.value.Value.{Value}
use Rattle.cedar_envelope.specs.Members.{has_member, has_text}
use Rattle.cedar_envelope.specs.Envelopes.{Contents, HoldsText, HoldsValue}

pub both : (a b : Bool) → (a && b) ≡ true → (a ≡ true) × (b ≡ true)
both true b all = (refl, all)
both false b all = absurd (true≢false (sym all))

neither : (a b : Bool) → a ≡ false → b ≡ false → (a || b) ≡ false
neither a b here there = ap (λ c. c || b) here ∙ there

-- a key that passes the test is no key that fails it
apart : (p : List ℕ → Bool) (k l : List ℕ) (b : Bool) → bytes_eq k l ≡ b → p l ≡ true → p k ≡ false → bytes_eq k l ≡ false
apart p k l true is passes fails = absurd (true≢false (sym passes ∙ ap p (sym ((bytes_eq-Decides k l).0 is)) ∙ fails))
apart p k l false is passes fails = is

-- a key that fails the test is none of those that pass it
none_of : (p : List ℕ → Bool) (ks : List (List ℕ)) (k : List ℕ) → list_all p ks ≡ true → p k ≡ false → has_word ks k ≡ false
none_of p [] k all fails = refl
none_of p (l ∷ ks) k all fails =
    let passes = both (p l) (list_all p ks) all in
    neither (bytes_eq k l) (has_word ks k) (apart p k l (bytes_eq k l) refl passes.0 fails) (none_of p ks k passes.1 fails)

string_of : (d : Data) (t : List ℕ) → as_str d ≡ Some t → d ≡ string t
string_of null t is = absurd (cc)
string_of (boolean b) t is = absurd (cc)
string_of (number n) t is = absurd (cc)
string_of (string s) t is = let same : s ≡ t = cc in ap string same
string_of (array ds) t is = absurd (cc)
string_of (object ms) t is = absurd (cc)

module _ (c : Contents) (k : List ℕ) where
  -- where there is no member, the key is none of the texts'
  pub no_text : list_all (has_text c.whole) c.text_keys ≡ true → get k c.whole ≡ None → has_word c.text_keys k ≡ false
  no_text all none = none_of (has_text c.whole) c.text_keys k all (ap (λ o. is_some (option_and_then as_str o)) none)

  -- the text of the member
  pub text_held : (e : Data) (r : Option (Bor (List ℕ))) → list_all (has_text c.whole) c.text_keys ≡ true → has_word c.text_keys k ≡ true → get k c.whole ≡ Some e → option_map (λ t. t.now) r ≡ as_str e
      → MatchOption r (has_word c.text_keys k ≡ false) (λ t. HoldsText c k t.now)
  text_held e None all has at is = none_of (has_text c.whole) c.text_keys k all (ap (λ o. is_some (option_and_then as_str o)) at ∙ ap is_some (sym is))
  text_held e (Some t) all has at is = (has, at ∙ ap Some (string_of e t.now (sym is)))

  -- the member
  pub value_held : (r : Option (Bor Value)) → list_all (has_member c.whole) c.value_keys ≡ true → has_word c.value_keys k ≡ true → option_map (λ v. view v.now) r ≡ get k c.whole
      → MatchOption r (has_word c.value_keys k ≡ false) (λ v. HoldsValue c k (view v.now))
  value_held None all has is = none_of (has_member c.whole) c.value_keys k all (ap is_some (sym is))
  value_held (Some v) all has is = (has, sym is)
