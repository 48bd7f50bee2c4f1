-- SPDX-License-Identifier: Apache-2.0
-- What a schema may be refused for, places aside.
use Rattle.std.specs.Prelude.{ℕ, List}
use Rattle.cedar_schema_error.specs.FullNames.{FullName, Uid}
use Rattle.cedar_schema_error.specs.NameReferences.{NameReference, ActionReference}
use Rattle.cedar_schema_error.specs.declared.schema_error.SchemaError.{SchemaError}

-- where a type is used
pub data UsePlace : Type 0 where
  Shape : FullName → UsePlace
  Tags : FullName → UsePlace
  Context : Uid → UsePlace

-- where a type is deep: in the definition of a common type, or where it is used
pub data DeepPlace : Type 0 where
  CommonType : FullName → DeepPlace
  Place : UsePlace → DeepPlace

-- a refusal; a list that isn't empty is told by its first and the others
pub data Refusal : Type 0 where
  ActionEntityTypeDeclared : Refusal
  ActionAttributes : List (List ℕ) → Refusal
  ActionAttributesContainEmptySet : Uid → Refusal
  UnsupportedActionAttribute : Uid → List ℕ → Refusal
  TypeShadowing : FullName → FullName → Refusal
  ActionShadowing : Uid → Uid → Refusal
  TypeNotDefined : NameReference → List NameReference → Refusal
  ActionNotDefined : ActionReference → List ActionReference → Refusal
  ReservedName : FullName → Refusal
  DuplicateCommonType : FullName → Refusal
  DuplicateEntityType : FullName → Refusal
  DuplicateAction : Uid → Refusal
  CycleInCommonTypeReferences : FullName → Refusal
  OpenRecord : Refusal
  UnknownExtensionType : FullName → Refusal
  CommonTypeInvariantViolation : FullName → Refusal
  TooDeep : DeepPlace → Refusal
  ContextOrShapeNotRecord : UsePlace → Refusal
  CycleInActionHierarchy : Uid → Refusal
  UndeclaredEntityTypes : FullName → List FullName → Refusal
  -- an error that no rule of schemas gives: a fault of JSON, or one that a caller handed in
  HandedIn : SchemaError → Refusal
