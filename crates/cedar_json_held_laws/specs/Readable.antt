-- SPDX-License-Identifier: Apache-2.0
-- Which sound fragments JSON has the words to say. Nothing is asked of the order of maps: that of each fragment that is held
-- is known (`maps_in_order`).
use Rattle.std.specs.Prelude.{◌≡◌, ⊤, false}
use Rattle.std.specs.List.{AllByRecursion}
use Rattle.cedar_text.specs.Joining.{joined}
use Rattle.cedar_written.specs.CommonTypeIds.{is_reserved_basename}
use Rattle.cedar_convert_fragment.specs.Fragments.{Fields, Form, Fragment, TypeAt, written, common_type, set_of, record_of, no_fields, field}
use Rattle.cedar_json_types.specs.Types.{word_of}
use Rattle.cedar_json_types.specs.declared.words.TypeWord.TheVariants as word
use Rattle.cedar_json_schema_laws.specs.Bare.{IsBare}
use Rattle.cedar_reread.specs.EachType.{EachType}

-- where a type is the name of a common type, at every depth, that name is none of the words of types
abbrev mutual
  pub NamesNoType : TypeAt → Type 0
  NamesNoType (written form place) = FormNamesNoType form
  NamesNoType (common_type name place) = word_of (joined name.words) ≡ word.Other

  pub FormNamesNoType : Form → Type 0
  FormNamesNoType (set_of element) = NamesNoType element
  FormNamesNoType (record_of attributes others) = FieldsNameNoType attributes
  FormNamesNoType _ = ⊤

  pub FieldsNameNoType : Fields → Type 0
  FieldsNameNoType no_fields = ⊤
  FieldsNameNoType (field name ty annotations required others) = NamesNoType ty × FieldsNameNoType others

pub record IsReadable (F : Fragment) : Type 0 where
  -- no type is a word of types that is meant as the name of a common type
  pub no_words : EachType NamesNoType F
  -- no common type has a reserved name
  pub no_reserved : AllByRecursion (λ n. AllByRecursion (λ e. is_reserved_basename e.0 ≡ false) n.1.common_types) F
  -- the unnamed namespace has no annotations
  pub bare : AllByRecursion (λ n. IsBare n.0 n.1.annotations) F
