-- SPDX-License-Identifier: Apache-2.0
-- Kinds of entity types.
use Rattle.std.specs.Prelude.{List, Option, None, ℕ}
use Rattle.cedar_resolved.specs.declared.kind.StandardValidatorEntityType.{StandardValidatorEntityType}
use Rattle.cedar_resolved.specs.declared.kind.ValidatorEntityTypeKind.{ValidatorEntityTypeKind}
use Rattle.cedar_resolved.specs.declared.kind.ValidatorEntityTypeKind.TheVariants.{Enum, Standard}
use Rattle.cedar_names.specs.of_text.declared.non_empty.NonEmpty.{NonEmpty}
use Rattle.cedar_types.specs.declared.ty.OpenTag.{OpenTag}
use Rattle.cedar_types.specs.declared.ty.OpenTag.TheVariants.{ClosedAttributes}
use Rattle.cedar_types.specs.declared.ty.ResolvedType.{ResolvedType}

-- whether entities may have attributes beyond those listed
abbrev pub standard_open : StandardValidatorEntityType → OpenTag
standard_open s = s.open_attributes

-- the type of the tags
abbrev pub standard_tags : StandardValidatorEntityType → Option ResolvedType
standard_tags s = s.tags

-- the kind of entity types with closed or open attributes, and with tags of this type
abbrev pub standard_kind : OpenTag → Option ResolvedType → ValidatorEntityTypeKind
standard_kind tag tags = Standard (record { open_attributes = tag; tags = tags })

-- the kind of entity types whose entities are listed
abbrev pub enum_kind : NonEmpty (List ℕ) → ValidatorEntityTypeKind
enum_kind ids = Enum ids

-- whether entities of a type of this kind may have attributes beyond those listed
abbrev pub kind_open : ValidatorEntityTypeKind → OpenTag
kind_open (Standard s) = standard_open s
kind_open (Enum ids) = ClosedAttributes

-- the type of the tags of entities of a type of this kind
abbrev pub kind_tags : ValidatorEntityTypeKind → Option ResolvedType
kind_tags (Standard s) = standard_tags s
kind_tags (Enum ids) = None
