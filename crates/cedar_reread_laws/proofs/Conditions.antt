-- SPDX-License-Identifier: Apache-2.0
-- A printable fragment whose parts are sound is read back.
use Rattle.std.proofs.Common.{Option, arith}
use Rattle.cedar_tree.specs.Trees.{Place}
use Rattle.cedar_convert_fragment.specs.Fragments.{Fields, Form, TypeAt, written, common_type, string, long, boolean, set_of, record_of, entity, entity_or_common, extension, no_fields, field}
use Rattle.cedar_reread.specs.EachType.{Nests}
use Rattle.cedar_reread_declares.specs.Rereadable.{RereadableFields, RereadableForm, RereadableShape, RereadableShapeForm, RereadableType}
use Rattle.cedar_reread_print.specs.Fits.{FieldsSorted, FormFits, FormSorted, KeysSorted, ShapeFits, TypeFits}
use Rattle.cedar_in_order.specs.InOrder.{FieldsInOrder, FormInOrder, TypeInOrder}
use Rattle.cedar_reread_laws.proofs.SoundParts.{ShapeIsSound, TypeIsSound}
use Rattle.cedar_reread_laws.proofs.SoundTypes.{AreClosed, FormIsClosed, FormIsNamedOrRecord, IsClosed}

-- ---- types

mutual
  pub type_rereadable : (t : TypeAt) → TypeInOrder t → IsClosed t → RereadableType t
  type_rereadable (written form place) ordered closed = form_rereadable form ordered closed
  type_rereadable (common_type name place) ordered closed = tt

  form_rereadable : (f : Form) → FormInOrder f → FormIsClosed f → RereadableForm f
  form_rereadable (set_of element) ordered closed = type_rereadable element ordered closed
  form_rereadable (record_of attributes others) ordered closed = (closed.0, ordered.0, fields_rereadable attributes ordered.1 closed.1)
  form_rereadable string ordered closed = tt
  form_rereadable long ordered closed = tt
  form_rereadable boolean ordered closed = tt
  form_rereadable (entity name) ordered closed = tt
  form_rereadable (entity_or_common name) ordered closed = tt
  form_rereadable (extension name) ordered closed = tt

  fields_rereadable : (fs : Fields) → FieldsInOrder fs → AreClosed fs → RereadableFields fs
  fields_rereadable no_fields ordered closed = tt
  fields_rereadable (field name ty annotations required others) ordered closed = (type_rereadable ty ordered.1 closed.0, fields_rereadable others ordered.2 closed.1)

mutual
  type_sorted : (t : TypeAt) → TypeInOrder t → KeysSorted t
  type_sorted (written form place) ordered = form_sorted form ordered
  type_sorted (common_type name place) ordered = tt

  form_sorted : (f : Form) → FormInOrder f → FormSorted f
  form_sorted (set_of element) ordered = type_sorted element ordered
  form_sorted (record_of attributes others) ordered = fields_sorted attributes ordered.1
  form_sorted string ordered = tt
  form_sorted long ordered = tt
  form_sorted boolean ordered = tt
  form_sorted (entity name) ordered = tt
  form_sorted (entity_or_common name) ordered = tt
  form_sorted (extension name) ordered = tt

  fields_sorted : (fs : Fields) → FieldsInOrder fs → FieldsSorted fs
  fields_sorted no_fields ordered = tt
  fields_sorted (field name ty annotations required others) ordered = (ordered.0, type_sorted ty ordered.1, fields_sorted others ordered.2)

shape_form_rereadable : (f : Form) → FormInOrder f → FormIsNamedOrRecord f → FormIsClosed f → RereadableShapeForm f
shape_form_rereadable (record_of attributes others) ordered is closed = form_rereadable (record_of attributes others) ordered closed
shape_form_rereadable (entity_or_common name) ordered is closed = tt
shape_form_rereadable string ordered is closed = absurd is
shape_form_rereadable long ordered is closed = absurd is
shape_form_rereadable boolean ordered is closed = absurd is
shape_form_rereadable (set_of element) ordered is closed = absurd is
shape_form_rereadable (entity name) ordered is closed = absurd is
shape_form_rereadable (extension name) ordered is closed = absurd is

pub shape_rereadable : (t : TypeAt) → TypeInOrder t → ShapeIsSound t → RereadableShape t
shape_rereadable (written form place) ordered is = shape_form_rereadable form ordered is.0 is.1.0
shape_rereadable (common_type name place) ordered is = tt

shape_form_fits : (f : Form) (place : Option Place) → FormInOrder f → FormIsNamedOrRecord f → Nests 128 (written f place) → FormFits 128 f
shape_form_fits (record_of attributes others) place ordered is le = (omega (arith, le), fields_sorted attributes ordered.1)
shape_form_fits (entity_or_common name) place ordered is le = tt
shape_form_fits string place ordered is le = absurd is
shape_form_fits long place ordered is le = absurd is
shape_form_fits boolean place ordered is le = absurd is
shape_form_fits (set_of element) place ordered is le = absurd is
shape_form_fits (entity name) place ordered is le = absurd is
shape_form_fits (extension name) place ordered is le = absurd is

pub shape_fits : (t : TypeAt) → TypeInOrder t → ShapeIsSound t → ShapeFits 128 t
shape_fits (written form place) ordered is = shape_form_fits form place ordered is.0 is.1.1
shape_fits (common_type name place) ordered is = tt

pub type_fits : (t : TypeAt) → TypeInOrder t → TypeIsSound t → TypeFits 128 t
type_fits t ordered is = (is.1, type_sorted t ordered)
