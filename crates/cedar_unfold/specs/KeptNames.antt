-- SPDX-License-Identifier: Apache-2.0
-- Which declarations the errors of a function keep: one name of a type, or none.
use Rattle.std.specs.Prelude.{◌≡◌, [], ◌∷◌}
use Rattle.cedar_names.specs.declared.internal_name.InternalName.{InternalName}
use Rattle.cedar_schema_error.specs.KeptDeclarations.{kept_actions, kept_types}
use Rattle.cedar_schema_error.specs.declared.schema_error.SchemaError.{SchemaError}

-- the error keeps neither a type nor an action
abbrev pub KeepsNone : SchemaError → Type 0
KeepsNone e = (kept_types e ≡ []) × (kept_actions e ≡ [])

-- it keeps this name of a type, with its place, and no action
abbrev pub KeepsName : InternalName → SchemaError → Type 0
KeepsName name e = (kept_types e ≡ name ∷ []) × (kept_actions e ≡ [])
