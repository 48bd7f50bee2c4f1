-- SPDX-License-Identifier: Apache-2.0
-- How types are read.
use Rattle.std.proofs.Common.{◌≡◌, ◌≤◌, ℕ, zero, suc, Bool, true, false, not, List, [], ◌∷◌, ◌++◌, codes, refl, sym, ap, ◌∙◌, arith, subst, inl, inr, append_assoc}
use Rattle.std.specs.Prelude.{⊤}
use Rattle.cedar_text.specs.Words.{is_id}
use Rattle.cedar_tokens.specs.Lexemes.{TextToken}
use Rattle.cedar_tree.specs.Nesting.{nest, greatest_nest}
use Rattle.cedar_tree.specs.Trees.{Node, Text, ByKey, TypeTree, Set, Ident, Attrs, no_attrs, attr, AttrDecl, Annotated, attrs_of}
use Rattle.cedar_tree.specs.Unplaced.{annotations_unplaced}
use Rattle.cedar_grammar.specs.Grammar.{attr_decl, is_keyword, keyword, mark, name, record_type, text_where, type_upto}
use Rattle.cedar_grammar.specs.Productions.{Production, ReadsMany, none, more, gives, trailing, optional, ◌>>=◌, ◌>>◌, ◌∣◌}
use Rattle.cedar_convert_fragment.specs.Fragments.{Fields, Form, TypeAt, written, common_type, string, long, boolean, set_of, record_of, entity, entity_or_common, extension, no_fields, field}
use Rattle.cedar_reread.specs.Said.{Tokens, word_token, mark_token, str_token, said_annotations, said_attribute, said_optional, said_path, said_builtin, said_type, said_form, said_fields, said_others}
use Rattle.cedar_reread.specs.TreesRead.{bare, builtin_read, type_read, form_read, fields_read}
use Rattle.cedar_reread.proofs.Annotated.{AreKeys, annotations_read, mark_read}
use Rattle.cedar_reread.proofs.Classes.{one, str_read}
use Rattle.cedar_reread.proofs.Paths.{AreIds, path_read}

-- names are paths of identifiers, and annotations are in order
abbrev mutual
  pub TypeWorded : TypeAt → Type 0
  TypeWorded (written form place) = FormWorded form
  TypeWorded (common_type name place) = AreIds name.words

  pub FormWorded : Form → Type 0
  FormWorded (set_of element) = TypeWorded element
  FormWorded (record_of attributes others) = FieldsWorded attributes
  FormWorded (entity name) = AreIds name.words
  FormWorded (entity_or_common name) = AreIds name.words
  FormWorded (extension name) = is_id name ≡ true
  FormWorded _ = ⊤

  pub FieldsWorded : Fields → Type 0
  FieldsWorded no_fields = ⊤
  FieldsWorded (field name ty annotations required others) = AreKeys annotations × TypeWorded ty × FieldsWorded others

pub keyword_read : (s : Text) (rest : Tokens) → is_keyword s (word_token s) ≡ true → (keyword s).reads (word_token s ∷ rest) (bare s) rest
keyword_read s rest e = one (text_where (is_keyword s)) (word_token s) (bare s) rest (rw e refl)

-- the tokens are read as a type
abbrev pub ReadsType : ℕ → Tokens → TypeTree → Tokens → Type 0
ReadsType n ts tree rest = (type_upto n).reads ts (bare tree) rest

path_type : (n : ℕ) (ws : List Text) (rest : Tokens) → AreIds ws → ReadsType n (said_path ws ++ rest) (Ident (bare ws)) rest
path_type zero ws rest ids = (bare ws, rest, path_read ws rest ids, (refl, refl))
path_type (suc n) ws rest ids = inr (bare ws, rest, path_read ws rest ids, (refl, refl))

builtin_type : (n : ℕ) (w : Text) (rest : Tokens) → is_id w ≡ true → ReadsType n (said_builtin w ++ rest) (builtin_read w) rest
builtin_type n w rest id = path_type n (codes "__cedar" ∷ w ∷ []) rest (rw id refl)

set_type_read : (n : ℕ) (element : Tokens) (tree : TypeTree) (rest : Tokens) → ReadsType n (element ++ mark_token (codes ">") ∷ rest) tree (mark_token (codes ">") ∷ rest)
    → ReadsType (suc n) (word_token (codes "Set") ∷ mark_token (codes "<") ∷ (element ++ mark_token (codes ">") ∷ rest)) (Set tree (bare tree).loc) rest
set_type_read n element tree rest read =
    let behind = element ++ mark_token (codes ">") ∷ rest in
    inl (inl (
      bare (codes "Set"),
      mark_token (codes "<") ∷ behind,
      keyword_read (codes "Set") (mark_token (codes "<") ∷ behind) refl,
      (
        bare (bare tree),
        rest,
        (bare (codes "<"), behind, mark_read (codes "<") behind refl, (bare tree, mark_token (codes ">") ∷ rest, read, (bare (codes ">"), rest, mark_read (codes ">") rest refl, (refl, refl)))),
        (refl, refl),
      ),
    ))

-- ---- attributes

-- the declaration of an attribute
abbrev declared : ByKey → Text → Bool → TypeTree → Annotated (Node AttrDecl)
declared annotations name required tree = record { item = bare (record { name = bare name; required = required; ty = bare tree }); annotations = annotations_unplaced annotations }

module _ (n : ℕ) where
  abbrev Decl : Production TextToken (Annotated (Node AttrDecl))
  Decl = attr_decl (type_upto n)

  optional_read : (required : Bool) (rest : Tokens) → (optional (mark (codes "?"))).reads (said_optional required ++ mark_token (codes ":") ∷ rest) (not required) (mark_token (codes ":") ∷ rest)
  optional_read true rest = inr (refl, refl)
  optional_read false rest = inl (bare (codes "?"), mark_token (codes ":") ∷ rest, mark_read (codes "?") (mark_token (codes ":") ∷ rest) refl, (refl, refl))

  twice : (b : Bool) → not (not b) ≡ b
  twice true = refl
  twice false = refl

  attribute_read : (annotations : ByKey) (name : Text) (required : Bool) (tree : TypeTree) (behind rest : Tokens) → AreKeys annotations → ReadsType n behind tree rest
      → Decl.reads (said_attribute annotations name required behind) (declared annotations name required tree) rest
  attribute_read annotations name required tree behind rest keys read =
      let said = str_token name ∷ (said_optional required ++ mark_token (codes ":") ∷ behind) in (
        annotations_unplaced annotations,
        said,
        annotations_read annotations said keys,
        (
          bare (record { name = bare name; required = required; ty = bare tree }),
          rest,
          (
            bare name,
            said_optional required ++ mark_token (codes ":") ∷ behind,
            inr (str_read name (said_optional required ++ mark_token (codes ":") ∷ behind)),
            (
              not required,
              mark_token (codes ":") ∷ behind,
              optional_read required behind,
              (
                bare (codes ":"),
                behind,
                mark_read (codes ":") behind refl,
                (bare tree, rest, read, (ap (λ (b : Bool). bare (record { name = bare name; required = b; ty = bare tree })) (sym (twice required)), refl)),
              ),
            ),
          ),
          (refl, refl),
        ),
      )

-- the declarations of attributes
abbrev declarations : Fields → List (Annotated (Node AttrDecl))
declarations no_fields = []
declarations (field name ty annotations required others) = declared annotations name required (type_read ty) ∷ declarations others

attrs_are : (fs : Fields) → attrs_of (declarations fs) ≡ fields_read fs
attrs_are no_fields = refl
attrs_are (field name ty annotations required others) = ap (λ (l : Attrs). attr (annotations_unplaced annotations) (bare name) required (type_read ty) (bare name).loc (bare name).loc l) (attrs_are others)

-- what stands behind an attribute
attribute_behind : (annotations : ByKey) (name : Text) (required : Bool) (ty others rest : Tokens) → said_attribute annotations name required (ty ++ others) ++ rest ≡ said_attribute annotations name required (ty ++ (others ++ rest))
attribute_behind annotations name required ty others rest =
    append_assoc (said_annotations annotations) (str_token name ∷ (said_optional required ++ mark_token (codes ":") ∷ (ty ++ others))) rest
    ∙ ap (λ (l : Tokens). said_annotations annotations ++ str_token name ∷ l) (append_assoc (said_optional required) (mark_token (codes ":") ∷ (ty ++ others)) rest)
    ∙ ap (λ (l : Tokens). said_attribute annotations name required l) (append_assoc ty others rest)

-- attributes, or none
abbrev Inner : ℕ → Production TextToken Attrs
Inner n = (trailing (mark (codes ",")) (attr_decl (type_upto n)) >>= λ xs. gives (attrs_of xs)) ∣ gives no_attrs

-- the same between braces
braced_read : (n : ℕ) (fs : Fields) (rest : Tokens) → (Inner n).reads (said_fields fs ++ mark_token (codes "}") ∷ rest) (fields_read fs) (mark_token (codes "}") ∷ rest)
    → (record_type (type_upto n)).reads (mark_token (codes "{") ∷ ((said_fields fs ++ mark_token (codes "}") ∷ []) ++ rest)) (bare (fields_read fs)) rest
braced_read n fs rest read =
    subst (λ (ts : Tokens). (record_type (type_upto n)).reads (mark_token (codes "{") ∷ ts) (bare (fields_read fs)) rest) (sym (append_assoc (said_fields fs) (mark_token (codes "}") ∷ []) rest)) (
      bare (codes "{"),
      said_fields fs ++ mark_token (codes "}") ∷ rest,
      mark_read (codes "{") (said_fields fs ++ mark_token (codes "}") ∷ rest) refl,
      (fields_read fs, mark_token (codes "}") ∷ rest, read, (bare (codes "}"), rest, mark_read (codes "}") rest refl, (refl, refl))),
    )

mutual
  pub type_reads : (n : ℕ) (t : TypeAt) (rest : Tokens) → nest (type_read t) ≤ n → TypeWorded t → ReadsType n (said_type t ++ rest) (type_read t) rest
  type_reads n (written form place) rest deep worded = form_reads n form rest deep worded
  type_reads n (common_type name place) rest deep worded = path_type n name.words rest worded

  form_reads : (n : ℕ) (f : Form) (rest : Tokens) → nest (form_read f) ≤ n → FormWorded f → ReadsType n (said_form f ++ rest) (form_read f) rest
  form_reads n string rest deep worded = builtin_type n (codes "String") rest refl
  form_reads n long rest deep worded = builtin_type n (codes "Long") rest refl
  form_reads n boolean rest deep worded = builtin_type n (codes "Bool") rest refl
  form_reads n (entity name) rest deep worded = path_type n name.words rest worded
  form_reads n (entity_or_common name) rest deep worded = path_type n name.words rest worded
  form_reads n (extension name) rest deep worded = builtin_type n name rest worded
  form_reads zero (set_of element) rest deep worded = absurd (omega (arith, deep))
  form_reads (suc n) (set_of element) rest deep worded =
      subst (λ (ts : Tokens). ReadsType (suc n) (word_token (codes "Set") ∷ mark_token (codes "<") ∷ ts) (Set (type_read element) (bare (type_read element)).loc) rest) (sym (append_assoc (said_type element) (mark_token (codes ">") ∷ []) rest))
      (set_type_read n (said_type element) (type_read element) rest (type_reads n element (mark_token (codes ">") ∷ rest) (omega (arith, deep)) worded))
  form_reads zero (record_of attributes others) rest deep worded = absurd (omega (arith, deep))
  form_reads (suc n) (record_of attributes others) rest deep worded =
      inl (inr (bare (fields_read attributes), rest, braced_read n attributes rest (fields_reads n attributes (mark_token (codes "}") ∷ rest) (omega (arith, deep)) worded), (refl, refl)))

  fields_reads : (n : ℕ) (fs : Fields) (rest : Tokens) → greatest_nest (fields_read fs) ≤ n → FieldsWorded fs
      → (Inner n).reads (said_fields fs ++ rest) (fields_read fs) rest
  fields_reads n no_fields rest deep worded = inr (refl, refl)
  fields_reads n (field name ty annotations required others) rest deep worded =
      let first = type_reads n ty (said_others others ++ rest) (omega (arith, deep)) worded.1 in
      let x = declared annotations name required (type_read ty) in
      let xs = declarations others in
      let read = attribute_read n annotations name required (type_read ty) (said_type ty ++ (said_others others ++ rest)) (said_others others ++ rest) worded.0 first in
      let behind = others_read n others rest (omega (arith, deep)) worded.2 in
      inl (
        x ∷ xs,
        rest,
        (
          x ∷ xs,
          rest,
          (
            x,
            said_others others ++ rest,
            subst (λ (ts : Tokens). (attr_decl (type_upto n)).reads ts x (said_others others ++ rest)) (sym (attribute_behind annotations name required (said_type ty) (said_others others) rest)) read,
            (xs, rest, behind, (refl, refl)),
          ),
          (false, rest, inr (refl, refl), (refl, refl)),
        ),
        (sym (attrs_are (field name ty annotations required others)), refl),
      )

  others_read : (n : ℕ) (fs : Fields) (rest : Tokens) → greatest_nest (fields_read fs) ≤ n → FieldsWorded fs
      → ReadsMany (mark (codes ",") >> attr_decl (type_upto n)).reads (said_others fs ++ rest) (declarations fs) rest
  others_read n no_fields rest deep worded = none
  others_read n (field name ty annotations required others) rest deep worded =
      let first = type_reads n ty (said_others others ++ rest) (omega (arith, deep)) worded.1 in
      let x = declared annotations name required (type_read ty) in
      let read = attribute_read n annotations name required (type_read ty) (said_type ty ++ (said_others others ++ rest)) (said_others others ++ rest) worded.0 first in
      let start = said_attribute annotations name required (said_type ty ++ said_others others) ++ rest in
      more (bare (codes ","), start, mark_read (codes ",") start refl, subst (λ (ts : Tokens). (attr_decl (type_upto n)).reads ts x (said_others others ++ rest)) (sym (attribute_behind annotations name required (said_type ty) (said_others others) rest)) read)
      (others_read n others rest (omega (arith, deep)) worded.2)

-- a record between its braces
pub record_reads : (n : ℕ) (fs : Fields) (rest : Tokens) → greatest_nest (fields_read fs) ≤ n → FieldsWorded fs
    → (record_type (type_upto n)).reads (mark_token (codes "{") ∷ ((said_fields fs ++ mark_token (codes "}") ∷ []) ++ rest)) (bare (fields_read fs)) rest
record_reads n fs rest deep worded = braced_read n fs rest (fields_reads n fs (mark_token (codes "}") ∷ rest) deep worded)
