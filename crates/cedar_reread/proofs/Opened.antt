-- SPDX-License-Identifier: Apache-2.0
-- How many brackets are open at the places of what is printed.
use Rattle.std.proofs.Common.{◌≡◌, ◌≤◌, ◌+◌, ◌-◌, ℕ, zero, suc, max, Bool, true, false, List, [], ◌∷◌, ◌++◌, codes, fold, take, refl, sym, subst, arith, append_assoc}
use Rattle.std.specs.List.{flat_map}
use Rattle.cedar_tokens.specs.Lexemes.{TextToken}
use Rattle.cedar_tree.specs.Nesting.{greatest_nest, nest}
use Rattle.cedar_tree.specs.Trees.{Node, Text, ByKey}
use Rattle.cedar_grammar.specs.Grammar.{OpensAtMost, unclosed_behind}
use Rattle.cedar_convert_fragment.specs.Fragments.{Fields, Form, TypeAt, written, common_type, string, long, boolean, set_of, record_of, entity, entity_or_common, extension, no_fields, field}
use Rattle.cedar_reread.specs.Said.{Tokens, behind_colons, mark_token, said_annotation, said_annotations, said_attribute, said_fields, said_form, said_optional, said_others, said_path, said_type, str_token, word_token}
use Rattle.cedar_reread.specs.TreesRead.{fields_read, form_read, type_read}

-- at no place more than b are open, where n are before
abbrev pub Within : ℕ → ℕ → Tokens → Type 0
Within b n [] = n ≤ b
Within b n (t ∷ ts) = (n ≤ b) × Within b (unclosed_behind n t) ts

within_start : (b n : ℕ) (ts : Tokens) → Within b n ts → n ≤ b
within_start b n [] w = w
within_start b n (t ∷ ts) w = w.0

within_take : (b n : ℕ) (ts : Tokens) → Within b n ts → (k : ℕ) → fold unclosed_behind n (take k ts) ≤ b
within_take b n [] w zero = w
within_take b n [] w (suc k) = w
within_take b n (t ∷ ts) w zero = w.0
within_take b n (t ∷ ts) w (suc k) = within_take b (unclosed_behind n t) ts w.1 k

pub opens : (b : ℕ) (ts : Tokens) → Within b 0 ts → OpensAtMost b ts
opens b ts w k = within_take b 0 ts w k

-- the tokens close what they open, and at most d of it is open at a time
pub record Balanced (d : ℕ) (ts : Tokens) : Type 0 where
  pub keeps : (b n : ℕ) (rest : Tokens) → n + d ≤ b → Within b n rest → Within b n (ts ++ rest)

pub balanced_none : (d : ℕ) → Balanced d []
balanced_none d = record { keeps = λ b n rest le w. w }

pub balanced_then : (d : ℕ) (ts us : Tokens) → Balanced d ts → Balanced d us → Balanced d (ts ++ us)
balanced_then d ts us first second = record { keeps = λ b n rest le w. subst (λ (l : Tokens). Within b n l) (sym (append_assoc ts us rest)) (first.keeps b n (us ++ rest) le (second.keeps b n rest le w)) }

-- less is open where more may be
pub balanced_more : (d e : ℕ) (ts : Tokens) → d ≤ e → Balanced d ts → Balanced e ts
balanced_more d e ts le balanced = record { keeps = λ b n rest room w. balanced.keeps b n rest (omega (arith, le, room)) w }

-- a token that opens and closes nothing
abbrev IsPlain : TextToken → Type 0
IsPlain t = (n : ℕ) → unclosed_behind n t ≡ n

pub plain_then : (d : ℕ) (t : TextToken) (ts : Tokens) → IsPlain t → Balanced d ts → Balanced d (t ∷ ts)
plain_then d t ts plain balanced = record { keeps = λ b n rest le w. (omega (arith, le), subst (λ m. Within b m (ts ++ rest)) (sym (plain n)) (balanced.keeps b n rest le w)) }

pub word_then : (d : ℕ) (w : Text) (ts : Tokens) → Balanced d ts → Balanced d (word_token w ∷ ts)
word_then d w ts balanced = plain_then d (word_token w) ts (λ n. refl) balanced

pub str_then : (d : ℕ) (s : Text) (ts : Tokens) → Balanced d ts → Balanced d (str_token s ∷ ts)
str_then d s ts balanced = plain_then d (str_token s) ts (λ n. refl) balanced

-- between an opening and a closing bracket
pub braced : (d : ℕ) (open_mark close_mark : Text) (ts : Tokens) → ((n : ℕ) → unclosed_behind n (mark_token open_mark) ≡ n + 1) → ((n : ℕ) → unclosed_behind n (mark_token close_mark) ≡ n - 1)
    → Balanced d ts → Balanced (d + 1) (mark_token open_mark ∷ (ts ++ mark_token close_mark ∷ []))
braced d open_mark close_mark ts opened closed balanced = record { keeps = by }
  where
    by : (b n : ℕ) (rest : Tokens) → n + (d + 1) ≤ b → Within b n rest → Within b n ((mark_token open_mark ∷ (ts ++ mark_token close_mark ∷ [])) ++ rest)
    by b n rest le w =
        let back : n + 1 - 1 ≡ n = omega arith in
        let last : Within b (n + 1) (mark_token close_mark ∷ rest) = (omega (arith, le), subst (λ m. Within b m rest) (sym (closed (n + 1))) (subst (λ m. Within b m rest) (sym back) w)) in
        let inside : Within b (n + 1) (ts ++ mark_token close_mark ∷ rest) = balanced.keeps b (n + 1) (mark_token close_mark ∷ rest) (omega (arith, le)) last in
        (omega (arith, le), subst (λ (l : Tokens). Within b (unclosed_behind n (mark_token open_mark)) l) (sym (append_assoc ts (mark_token close_mark ∷ []) rest)) (subst (λ m. Within b m (ts ++ mark_token close_mark ∷ rest)) (sym (opened n)) inside))

pub flat_balanced : {A : Type 0} (d : ℕ) (f : A → Tokens) (xs : List A) → ((x : A) → Balanced d (f x)) → Balanced d (flat_map f xs)
flat_balanced d f [] each = balanced_none d
flat_balanced d f (x ∷ xs) each = balanced_then d (f x) (flat_map f xs) (each x) (flat_balanced d f xs each)

pub path_balanced : (d : ℕ) (ws : List Text) → Balanced d (said_path ws)
path_balanced d [] = balanced_none d
path_balanced d (w ∷ ws) = word_then d w (flat_map behind_colons ws) (flat_balanced d behind_colons ws (λ v. plain_then d (mark_token (codes "::")) (word_token v ∷ []) (λ n. refl) (word_then d v [] (balanced_none d))))

annotation_balanced : (d : ℕ) (a : Text × Node Text) → Balanced d (said_annotation a)
annotation_balanced d a =
    plain_then d (mark_token (codes "@")) _ (λ n. refl) (word_then d a.0 _
    (plain_then d (mark_token (codes "(")) _ (λ n. refl) (str_then d a.1.node _ (plain_then d (mark_token (codes ")")) [] (λ n. refl) (balanced_none d)))))

pub annotations_balanced : (d : ℕ) (annotations : ByKey) → Balanced d (said_annotations annotations)
annotations_balanced d annotations = flat_balanced d said_annotation annotations (annotation_balanced d)

optional_balanced : (d : ℕ) (required : Bool) → Balanced d (said_optional required)
optional_balanced d true = balanced_none d
optional_balanced d false = plain_then d (mark_token (codes "?")) [] (λ n. refl) (balanced_none d)

attribute_balanced : (d : ℕ) (annotations : ByKey) (name : Text) (required : Bool) (behind : Tokens) → Balanced d behind → Balanced d (said_attribute annotations name required behind)
attribute_balanced d annotations name required behind balanced =
    balanced_then d (said_annotations annotations) _ (annotations_balanced d annotations)
    (str_then d name _ (balanced_then d (said_optional required) _ (optional_balanced d required) (plain_then d (mark_token (codes ":")) behind (λ n. refl) balanced)))

mutual
  pub type_balanced : (t : TypeAt) → Balanced (nest (type_read t)) (said_type t)
  type_balanced (written form place) = form_balanced form
  type_balanced (common_type name place) = path_balanced 0 name.words

  pub form_balanced : (f : Form) → Balanced (nest (form_read f)) (said_form f)
  form_balanced string = path_balanced 0 (codes "__cedar" ∷ codes "String" ∷ [])
  form_balanced long = path_balanced 0 (codes "__cedar" ∷ codes "Long" ∷ [])
  form_balanced boolean = path_balanced 0 (codes "__cedar" ∷ codes "Bool" ∷ [])
  form_balanced (set_of element) =
      word_then (nest (type_read element) + 1) (codes "Set") _ (braced (nest (type_read element)) (codes "<") (codes ">") (said_type element) (λ n. refl) (λ n. refl) (type_balanced element))
  form_balanced (record_of attributes others) = braced (greatest_nest (fields_read attributes)) (codes "{") (codes "}") (said_fields attributes) (λ n. refl) (λ n. refl) (fields_balanced attributes)
  form_balanced (entity name) = path_balanced 0 name.words
  form_balanced (entity_or_common name) = path_balanced 0 name.words
  form_balanced (extension name) = path_balanced 0 (codes "__cedar" ∷ name ∷ [])

  fields_balanced : (fs : Fields) → Balanced (greatest_nest (fields_read fs)) (said_fields fs)
  fields_balanced no_fields = balanced_none 0
  fields_balanced (field name ty annotations required others) =
      let d = max (nest (type_read ty)) (greatest_nest (fields_read others)) in
      attribute_balanced d annotations name required (said_type ty ++ said_others others)
      (balanced_then d (said_type ty) (said_others others) (balanced_more (nest (type_read ty)) d (said_type ty) (omega arith) (type_balanced ty))
      (balanced_more (greatest_nest (fields_read others)) d (said_others others) (omega arith) (others_balanced others)))

  others_balanced : (fs : Fields) → Balanced (greatest_nest (fields_read fs)) (said_others fs)
  others_balanced no_fields = balanced_none 0
  others_balanced (field name ty annotations required others) =
      let d = max (nest (type_read ty)) (greatest_nest (fields_read others)) in
      plain_then d (mark_token (codes ",")) _ (λ n. refl) (attribute_balanced d annotations name required (said_type ty ++ said_others others)
      (balanced_then d (said_type ty) (said_others others) (balanced_more (nest (type_read ty)) d (said_type ty) (omega arith) (type_balanced ty))
      (balanced_more (greatest_nest (fields_read others)) d (said_others others) (omega arith) (others_balanced others))))
