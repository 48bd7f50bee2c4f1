-- SPDX-License-Identifier: Apache-2.0
use Rattle.std.proofs.Common.{◌≡◌, ◌≢◌, ◌<◌, ◌≤◌, inl, inr, ℕ, suc, false, List, [], ◌∷◌, ◌++◌, length, get_or, encode_utf8, refl, sym, ap, ◌∙◌, arith, append_assoc}
use Rattle.std.proofs.lemmas.Bool.{cases_lt}
use Rattle.std.proofs.lemmas.Bool.Decides.{nat_tests}
use Rattle.std.proofs.lemmas.List.{append-nil}
use Rattle.std.proofs.lemmas.List.Concat.{flat_map-append}
use Rattle.std.proofs.lemmas.Str.{encode_ascii, inside_one}
use Rattle.std.proofs.Output.{has_written_append, has_written_of_eq}
use Rattle.std.specs.Char.{is_ascii_control}
use Rattle.std.specs.Fmt.{HasWritten, IsPlainFormatter}
use Rattle.std.specs.declared.fmt.Formatter.{Formatter}
use Rattle.cedar_text.specs.Escapes.{escaped_byte, escaped, escaped_char}

-- a sign that stands as it is
pub record StandsAlone (b : ℕ) : Type 0 where
  pub nul : b ≢ 0
  pub tab : b ≢ 9
  pub line_feed : b ≢ 10
  pub carriage_return : b ≢ 13
  pub quote : b ≢ 34
  pub apostrophe : b ≢ 39
  pub backslash : b ≢ 92
  pub control : is_ascii_control b ≡ false

escaped_byte-alone : (b : ℕ) → StandsAlone b → escaped_byte b ≡ b ∷ []
escaped_byte-alone b alone = grind (arith, nat_tests, alone.nul, alone.tab, alone.line_feed, alone.carriage_return, alone.quote, alone.apostrophe, alone.backslash, alone.control)

high_alone : (b : ℕ) → 128 ≤ b → StandsAlone b
high_alone b high = record {
  nul = omega arith;
  tab = omega arith;
  line_feed = omega arith;
  carriage_return = omega arith;
  quote = omega arith;
  apostrophe = omega arith;
  backslash = omega arith;
  control = grind (arith, nat_tests);
}

-- bytes past ASCII stand as they are
escaped-high : (bs : List ℕ) → ((k : ℕ) → k < length bs → 128 ≤ get_or bs k 0) → escaped bs ≡ bs
escaped-high [] high = refl
escaped-high (b ∷ bs) high =
    let front : 128 ≤ b = high 0 (omega arith) in
    let rest : escaped bs ≡ bs = escaped-high bs (λ k within. high (suc k) (omega arith)) in
    rw (escaped_byte-alone b (high_alone b front), rest) refl

-- so the bytes of a character past ASCII do
encode-high : (c : ℕ) → 128 ≤ c → (k : ℕ) → k < length (encode_utf8 c) → 128 ≤ get_or (encode_utf8 c) k 0
encode-high c high k within = elim (cases_lt (get_or (encode_utf8 c) k 0) 128) [
  | inl low ↦ absurd (omega (arith, inside_one c [] (encode_utf8 c) k (sym (append-nil (encode_utf8 c))) within low))
  | inr done ↦ done
]

-- a character that is no control character and none of the signs with a backslash stands as it is
pub escaped_char-alone : (c : ℕ) → StandsAlone c → encode_utf8 c ≡ escaped_char c
escaped_char-alone c alone = elim (cases_lt c 128) [
  | inl low ↦ rw (encode_ascii c low, escaped_byte-alone c alone) refl
  | inr high ↦ sym (escaped-high (encode_utf8 c) (encode-high c high))
]

-- the front of a text is written as it stands in quoted text, and this is the rest
pub record WroteFront {W : Type 0} (took : W → List ℕ → W → Type 0) (initial : Formatter W) (whole rest : List ℕ) (f : Formatter W) : Type 0 where
  pub done : List ℕ
  pub split : whole ≡ done ++ rest
  pub wrote : IsPlainFormatter initial → HasWritten took initial (escaped done) f

module _ {W : Type 0} (took : W → List ℕ → W → Type 0) (initial : Formatter W) (whole : List ℕ) where
  -- one more character
  pub WroteFront-next : (f g : Formatter W) (rest after : List ℕ) (c : ℕ) → WroteFront took initial whole rest f → rest ≡ encode_utf8 c ++ after
      → (IsPlainFormatter f → HasWritten took f (escaped_char c) g) → WroteFront took initial whole after g
  WroteFront-next f g rest after c so_far front step = record {
    done = so_far.done ++ encode_utf8 c;
    split = so_far.split ∙ ap (λ (l : List ℕ). so_far.done ++ l) front ∙ sym (append_assoc so_far.done (encode_utf8 c) after);
    wrote = λ plain.
        let before = so_far.wrote plain in
        has_written_of_eq took _ _ _ _ (sym (flat_map-append escaped_byte so_far.done (encode_utf8 c))) (has_written_append took _ _ _ _ _ before (step before.plain));
  }
