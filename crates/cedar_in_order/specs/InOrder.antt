-- SPDX-License-Identifier: Apache-2.0
-- Fragments whose maps ascend at every depth. Each map that is held does, which is its private invariant; but here it is seen
-- as a list of entries, of which that isn't known.
use Rattle.std.specs.Prelude.{⊤}
use Rattle.std.specs.List.{AllByRecursion}
use Rattle.std.specs.List.Sorted.{IsStrictlySortedBy}
use Rattle.cedar_data.specs.Maps.{IsSortedMap}
use Rattle.cedar_names.specs.Order.{word_cmp}
use Rattle.cedar_tree.specs.Trees.{ByKey}
use Rattle.cedar_convert_fragment.specs.of_convert_faults.Gathering.{namespace_cmp}
use Rattle.cedar_convert_fragment.specs.Fragments.{ByName, Definition, Fields, Form, Fragment, TypeAt, written, common_type, set_of, record_of, no_fields, field}
use Rattle.cedar_reread.specs.EachType.{EachType}
use Rattle.cedar_reread_declares.specs.Rereadable.{field_names}

abbrev pub InOrder : ByKey → Type 0
InOrder annotations = IsSortedMap word_cmp annotations

-- the attributes of each record, at every depth, and their annotations
abbrev mutual
  pub TypeInOrder : TypeAt → Type 0
  TypeInOrder (written form place) = FormInOrder form
  TypeInOrder (common_type name place) = ⊤

  pub FormInOrder : Form → Type 0
  FormInOrder (set_of element) = TypeInOrder element
  FormInOrder (record_of attributes others) = IsStrictlySortedBy word_cmp (field_names attributes) × FieldsInOrder attributes
  FormInOrder _ = ⊤

  pub FieldsInOrder : Fields → Type 0
  FieldsInOrder no_fields = ⊤
  FieldsInOrder (field name ty annotations required others) = InOrder annotations × TypeInOrder ty × FieldsInOrder others

-- declarations by name, and the annotations of each
abbrev pub ByNameInOrder : {A : Type 0} → ByName A → Type 0
ByNameInOrder entries = IsSortedMap word_cmp entries × AllByRecursion (λ e. InOrder e.1.annotations) entries

abbrev pub DefinitionInOrder : Definition → Type 0
DefinitionInOrder d = ByNameInOrder d.common_types × ByNameInOrder d.entity_types × ByNameInOrder d.actions × InOrder d.annotations

-- the namespaces of a fragment, and all within
pub record FragmentInOrder (F : Fragment) : Type 0 where
  pub namespaces : IsSortedMap namespace_cmp F
  pub definitions : AllByRecursion (λ n. DefinitionInOrder n.1) F
  pub types : EachType TypeInOrder F
