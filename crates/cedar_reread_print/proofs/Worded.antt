-- SPDX-License-Identifier: Apache-2.0
-- The types that code holds are worded: their names are paths of identifiers, and the keys of annotations are words.
use Rattle.std.proofs.Common.{◌≡◌, ℕ, true, List, [], ◌∷◌, sym, subst}
use Rattle.std.specs.List.{AllByRecursion}
use Rattle.cedar_data.specs.Maps.{map_values}
use Rattle.cedar_text.specs.Words.{is_word}
use Rattle.cedar_tree.specs.Trees.{Node, Text}
use Rattle.cedar_written.proofs.TypeFolds.{fold-Boolean, fold-CommonTypeRef, fold-Entity, fold-EntityOrCommon, fold-Extension, fold-Long, fold-Record, fold-Set, fold-String, fold-Variant, fold-attribute_of, fold-record_of}
use Rattle.cedar_written.proofs.TypeInduction.{by_cases}
use Rattle.cedar_written.specs.Possibilities.{written as name_written}
use Rattle.cedar_written.specs.declared.raw_name.RawName.{RawName}
use Rattle.cedar_written.specs.declared.ty.RecordType.{RecordType}
use Rattle.cedar_written.specs.declared.ty.SchemaType.{SchemaType}
use Rattle.cedar_written.specs.declared.ty.TypeOfAttribute.{TypeOfAttribute}
use Rattle.cedar_written.specs.declared.ty.TypeVariant.{TypeVariant}
use Rattle.cedar_convert_fragment.specs.Fragments.{FieldAt, Form, TypeAt, fields}
use Rattle.cedar_convert_fragment.specs.Views.{attribute_seen, form_seen, record_seen, see_attribute, see_form, see_record, see_type, type_seen}
use Rattle.cedar_reread_print.specs.Fits.{FieldsSorted, FormSorted, KeysSorted}
use Rattle.cedar_reread_print.proofs.Names.{components_are_ids, keys_are_words, unreserved_identifier}
use Rattle.cedar_reread.proofs.Types.{FieldsWorded, FormWorded, TypeWorded}

-- where the keys are in order, a type is worded
abbrev pub SortedIsWorded : TypeAt → Type 0
SortedIsWorded t = KeysSorted t → TypeWorded t

abbrev FormOfSorted : Form → Type 0
FormOfSorted f = FormSorted f → FormWorded f

abbrev FieldOfSorted : FieldAt → Type 0
FieldOfSorted a = AllByRecursion {X = Text × Node Text} (λ k. is_word k.0 ≡ true) a.annotations × SortedIsWorded a.ty

abbrev P1 : SchemaType RawName → Type 0
P1 t = SortedIsWorded (type_seen t)

abbrev P2 : TypeVariant RawName → Type 0
P2 v = FormOfSorted (form_seen v)

abbrev P3 : RecordType RawName → Type 0
P3 r = FormOfSorted (record_seen r)

abbrev P4 : TypeOfAttribute RawName → Type 0
P4 a = FieldOfSorted (attribute_seen a)

abbrev All : List (List ℕ × TypeOfAttribute RawName) → Type 0
All es = AllByRecursion {X = List ℕ × TypeOfAttribute RawName} (λ e. P4 e.1) es

each_worded : (es : List (List ℕ × TypeOfAttribute RawName)) → All es → FieldsSorted (fields (map_values attribute_seen es)) → FieldsWorded (fields (map_values attribute_seen es))
each_worded [] all sorted = tt
each_worded (e ∷ es) all sorted = ((sorted.0, all.0.0), all.0.1 sorted.1, each_worded es all.1 sorted.2)

-- a type
pub type_worded : (t : SchemaType RawName) → KeysSorted (type_seen t) → TypeWorded (type_seen t)
type_worded = by_cases P1 P2 P3 P4 (record {
  of_variant = λ v loc is. subst SortedIsWorded (sym (fold-Variant see_type see_form see_record see_attribute v loc)) is;
  of_common = λ n loc. subst SortedIsWorded (sym (fold-CommonTypeRef see_type see_form see_record see_attribute n loc)) (λ sorted. components_are_ids (name_written n));
  of_string = subst FormOfSorted (sym (fold-String see_type see_form see_record see_attribute)) (λ sorted. tt);
  of_long = subst FormOfSorted (sym (fold-Long see_type see_form see_record see_attribute)) (λ sorted. tt);
  of_boolean = subst FormOfSorted (sym (fold-Boolean see_type see_form see_record see_attribute)) (λ sorted. tt);
  of_set = λ t is. subst FormOfSorted (sym (fold-Set see_type see_form see_record see_attribute t)) is;
  of_record = λ r is. subst FormOfSorted (sym (fold-Record see_type see_form see_record see_attribute r)) is;
  of_entity = λ n. subst FormOfSorted (sym (fold-Entity see_type see_form see_record see_attribute n)) (λ sorted. components_are_ids (name_written n));
  of_entity_or_common = λ n. subst FormOfSorted (sym (fold-EntityOrCommon see_type see_form see_record see_attribute n)) (λ sorted. components_are_ids (name_written n));
  of_extension = λ id. subst FormOfSorted (sym (fold-Extension see_type see_form see_record see_attribute id)) (λ sorted. unreserved_identifier id);
  of_attributes = λ es additional all. subst FormOfSorted (sym (fold-record_of see_type see_form see_record see_attribute es additional)) (each_worded es all);
  of_attribute = λ t annotations required is. subst FieldOfSorted (sym (fold-attribute_of see_type see_form see_record see_attribute t annotations required)) (keys_are_words annotations, is);
})
