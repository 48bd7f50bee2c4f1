-- SPDX-License-Identifier: Apache-2.0
-- Paths that are no word of types.
use Rattle.std.proofs.Common.{◌≡◌, ◌++◌, ◌||◌, ℕ, Bool, true, false, if◌then◌else◌, List, [], ◌∷◌, codes, refl, sym, ap, ◌∙◌, append-nil}
use Rattle.std.specs.Prelude.{nat_eq, flat_map}
use Rattle.std.specs.List.{list_any}
use Rattle.std.specs.Cmp.Lexicographic.{bytes_decides}
use Rattle.std.specs.Str.{bytes_eq}
use Rattle.cedar_text.specs.Joining.{joined}
use Rattle.cedar_written.specs.CommonTypeIds.{is_reserved_basename}
use Rattle.cedar_json_types.specs.Types.{word_of}
use Rattle.cedar_json_types.specs.declared.words.TypeWord.TheVariants as word

-- whether a text has a colon
abbrev colon : List ℕ → Bool
colon w = list_any (λ c. nat_eq c 58) w

colon_behind : (w rest : List ℕ) → colon (w ++ 58 ∷ rest) ≡ true
colon_behind [] rest = refl
colon_behind (c ∷ w) rest = by (nat_eq c 58) (colon_behind w rest)
  where
    by : (b : Bool) → colon (w ++ 58 ∷ rest) ≡ true → (b || colon (w ++ 58 ∷ rest)) ≡ true
    by true later = refl
    by false later = later

-- a text is not this one
differs : (w t : List ℕ) → (w ≡ t → ⊥) → bytes_eq w t ≡ false
differs w t apart = by (bytes_eq w t) refl
  where
    by : (b : Bool) → bytes_eq w t ≡ b → bytes_eq w t ≡ false
    by true is = absurd (apart ((bytes_decides w t).0 is))
    by false is = is

-- a reserved word, which has no colon
abbrev IsReserved : List ℕ → Type 0
IsReserved t = (is_reserved_basename t ≡ true) × (colon t ≡ false)

-- it is none of the words
other_where : (w : List ℕ) → ((t : List ℕ) → IsReserved t → w ≡ t → ⊥) → (w ≡ codes "EntityOrCommon" → ⊥) → word_of w ≡ word.Other
other_where w free apart = λ i.
    if string i then word.String else (if long i then word.Long else (if boolean i then word.Boolean else
    (if set i then word.Set else (if rec i then word.Record else (if entity i then word.Entity else
    (if either i then word.EntityOrCommon else (if extension i then word.Extension else word.Other)))))))
  where
    string : bytes_eq w (codes "String") ≡ false
    string = differs w (codes "String") (free (codes "String") (refl, refl))

    long : bytes_eq w (codes "Long") ≡ false
    long = differs w (codes "Long") (free (codes "Long") (refl, refl))

    boolean : bytes_eq w (codes "Boolean") ≡ false
    boolean = differs w (codes "Boolean") (free (codes "Boolean") (refl, refl))

    set : bytes_eq w (codes "Set") ≡ false
    set = differs w (codes "Set") (free (codes "Set") (refl, refl))

    rec : bytes_eq w (codes "Record") ≡ false
    rec = differs w (codes "Record") (free (codes "Record") (refl, refl))

    entity : bytes_eq w (codes "Entity") ≡ false
    entity = differs w (codes "Entity") (free (codes "Entity") (refl, refl))

    either : bytes_eq w (codes "EntityOrCommon") ≡ false
    either = differs w (codes "EntityOrCommon") apart

    extension : bytes_eq w (codes "Extension") ≡ false
    extension = differs w (codes "Extension") (free (codes "Extension") (refl, refl))

-- the text of a path is no word of types, where the path is neither `EntityOrCommon` nor a reserved word
pub other_path : (words : List (List ℕ)) → (words ≡ codes "EntityOrCommon" ∷ [] → ⊥) → ((w : List ℕ) → words ≡ w ∷ [] → is_reserved_basename w ≡ true → ⊥) → word_of (joined words) ≡ word.Other
other_path [] apart free = refl
other_path (w ∷ []) apart free =
    let same : w ≡ w ++ [] = sym (append-nil w) in
    other_where (w ++ []) (λ t reserved is. free w refl (ap is_reserved_basename (same ∙ is) ∙ reserved.0)) (λ is. apart (ap (λ v. v ∷ []) (same ∙ is)))
other_path (w ∷ v ∷ ws) apart free =
    let rest = (58 ∷ v) ++ flat_map (λ v. codes "::" ++ v) ws in
    let there : colon (w ++ 58 ∷ rest) ≡ true = colon_behind w rest in
    other_where (w ++ 58 ∷ rest) (λ t reserved is. clash (sym there ∙ ap colon is ∙ reserved.1)) (λ is. clash (sym there ∙ ap colon is))
  where
    clash : true ≡ false → ⊥
    clash e = absurd cc
