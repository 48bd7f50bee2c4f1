-- SPDX-License-Identifier: Apache-2.0
-- The texts of errors and of their help.
use Rattle.std.specs.Prelude.{◌++◌, ℕ, List, [], ◌∷◌, Option, Some, None, codes, map}
use Rattle.std.specs.Option.{option_map}
use Rattle.cedar_names.specs.of_text.Joining.{joined}
use Rattle.cedar_names.specs.Components.{components}
use Rattle.cedar_names.specs.EntityUids.{uid_text}
use Rattle.cedar_names.specs.Names.{name_words}
use Rattle.cedar_names.specs.declared.internal_name.InternalName.{InternalName}
use Rattle.cedar_fragment.specs.JsonErrors.{advice_of, fault_of}
use Rattle.cedar_fragment.specs.JsonTexts.{advice_text, fault_text}
use Rattle.cedar_written.specs.Possibilities.{kind_of, possibilities_of}
use Rattle.cedar_written.specs.declared.conditional_name.ConditionalName.{ConditionalName}
use Rattle.cedar_schema_error.specs.ListTexts.{behind_commas, behind_first, noun}
use Rattle.cedar_schema_error.specs.NameTexts.{deep_text, entity_text, kind_text, last_possibility, parent_text, written_text}
use Rattle.cedar_schema_error.specs.declared.kept_errors.ActionInvariantViolationError.{ActionInvariantViolationError}
use Rattle.cedar_schema_error.specs.declared.name_errors.ActionNotDefinedError.{ActionNotDefinedError}
use Rattle.cedar_schema_error.specs.declared.name_errors.TypeNotDefinedError.{TypeNotDefinedError}
use Rattle.cedar_schema_error.specs.declared.name_errors.UndeclaredEntityTypesError.{UndeclaredEntityTypesError}
use Rattle.cedar_schema_error.specs.declared.schema_error.SchemaError.{SchemaError}
use Rattle.cedar_schema_error.specs.declared.schema_error.SchemaError.TheVariants as error
use Rattle.cedar_schema_error.specs.declared.type_errors.ContextOrShape.{ContextOrShape}
use Rattle.cedar_schema_error.specs.declared.type_errors.ContextOrShape.TheVariants.{ActionContext, EntityTypeShape}

-- references that mean nothing
abbrev pub undefined_text : TypeNotDefinedError → List ℕ
undefined_text e = codes "failed to resolve " ++ noun (codes "type") (codes "types") e.undefined_types.tail ++ codes ": "
    ++ written_text e.undefined_types.head ++ behind_commas (map written_text e.undefined_types.tail)

-- actions that aren't declared
abbrev pub undeclared_actions_text : ActionNotDefinedError → List ℕ
undeclared_actions_text e = codes "undeclared " ++ noun (codes "action") (codes "actions") e.uids.tail ++ codes ": "
    ++ parent_text e.uids.head ++ behind_first (map parent_text e.uids.tail)

-- entity types that aren't declared
abbrev pub undeclared_types_text : UndeclaredEntityTypesError → List ℕ
undeclared_types_text e = codes "undeclared entity " ++ noun (codes "type") (codes "types") e.types.tail ++ codes ": "
    ++ entity_text e.types.head ++ behind_first (map entity_text e.types.tail)

-- a definition that shadows another
abbrev pub shadowing_text : List ℕ → List ℕ → List ℕ
shadowing_text shadowing shadowed = codes "definition of `" ++ (shadowing ++ (codes "` illegally shadows the existing definition of `" ++ (shadowed ++ codes "`")))

-- a context or a shape that is no record
abbrev pub no_record_text : ContextOrShape → List ℕ
no_record_text (ActionContext uid) = codes "Context for action " ++ uid_text uid ++ codes " is declared with a type other than `Record`"
no_record_text (EntityTypeShape ty) = codes "Shape for entity type " ++ entity_text ty ++ codes " is declared with a type other than `Record`"

-- actions without definition, one or several
abbrev pub unfound_words : {T : Type 0} → List T → List ℕ
unfound_words [] = codes "internal invariant violated: failed to find an action definition for "
unfound_words (other ∷ others) = codes "internal invariant violated: failed to find action definitions for "

abbrev pub unfound_actions_text : ActionInvariantViolationError → List ℕ
unfound_actions_text e = unfound_words e.euids.tail ++ (uid_text e.euids.head ++ behind_commas (map uid_text e.euids.tail))

-- a name in a text, between backquotes
abbrev pub quoting : List ℕ → List ℕ → List ℕ
quoting before name = before ++ codes "`" ++ name ++ codes "`"

-- the text of an error
abbrev pub error_text : SchemaError → List ℕ
error_text (error.JsonDeserialization e) = fault_text (fault_of e)
error_text (error.JsonSerialization e) = codes "JSON serialization error"
error_text (error.UnsupportedFeature e) = codes "unsupported feature used in schema"
error_text (error.UndeclaredEntityTypes e) = undeclared_types_text e
error_text (error.TypeNotDefined e) = undefined_text e
error_text (error.ActionNotDefined e) = undeclared_actions_text e
error_text (error.TypeShadowing e) = shadowing_text (joined (components e.shadowing_def)) (joined (components e.shadowed_def))
error_text (error.ActionShadowing e) = shadowing_text (uid_text e.shadowing_def) (uid_text e.shadowed_def)
error_text (error.DuplicateEntityType e) = quoting (codes "duplicate entity type ") (entity_text e.ty)
error_text (error.DuplicateCommonType e) = quoting (codes "duplicate common type ") (joined (components e.ty))
error_text (error.DuplicateAction e) = quoting (codes "duplicate action ") (uid_text e.uid)
error_text (error.CycleInCommonTypeReferences e) = quoting (codes "cycle in common type references containing ") (joined (components e.ty))
error_text (error.CycleInActionHierarchy e) = quoting (codes "cycle in action hierarchy containing ") (uid_text e.uid)
error_text (error.ActionEntityTypeDeclared e) = codes "entity type `Action` declared in `entityTypes` list"
error_text (error.ContextOrShapeNotRecord e) = no_record_text e.ctx_or_shape
error_text (error.ActionAttributesContainEmptySet e) = codes "action `" ++ uid_text e.uid ++ codes "` has an attribute that is an empty set"
error_text (error.UnsupportedActionAttribute e) = codes "action `" ++ uid_text e.uid ++ codes "` has an attribute with unsupported JSON representation: " ++ e.attr
error_text (error.ActionAttrEval e) = codes "action attribute evaluation error"
error_text (error.ExprEscapeUsed e) = codes "the `__expr` escape is no longer supported"
error_text (error.UnknownExtensionType e) = quoting (codes "unknown extension type ") (joined (name_words e.actual))
error_text (error.CommonTypeInvariantViolation e) = codes "internal invariant violated: failed to find a common-type definition for " ++ joined (components e.name)
error_text (error.ActionInvariantViolation e) = unfound_actions_text e
error_text (error.ActionTransitiveClosure e) = codes "transitive closure computation/enforcement error on action hierarchy"
error_text (error.EntityTypeTransitiveClosure e) = codes "transitive closure computation/enforcement error on entity type hierarchy"
error_text (error.ReservedName e) = codes "the name `" ++ joined (components e.name) ++ codes "` contains `__cedar`, which is reserved"
error_text (error.TooDeep e) = codes "the type of `" ++ deep_text e.place ++ codes "` nests more than 128 sets and records"

-- the help on a reference that means nothing: the only name that it may stand for, or the first and the last
abbrev pub alone_help : List ℕ → List ℕ → List ℕ
alone_help name kind = codes "`" ++ (name ++ (codes "` has not been declared " ++ kind))

abbrev pub neither_help : List ℕ → List ℕ → List ℕ → List ℕ
neither_help first last kind = codes "neither `" ++ first ++ codes "` nor `" ++ last ++ codes "` refers to anything that has been declared " ++ kind

abbrev pub meant_help : List ℕ → List InternalName → List ℕ → List ℕ → List ℕ
meant_help first [] last kind = alone_help first kind
meant_help first (second ∷ others) last kind = neither_help first last kind

abbrev pub undefined_help : ConditionalName → List ℕ
undefined_help n = meant_help (joined (components (possibilities_of n).head)) (possibilities_of n).tail (joined (components (last_possibility n))) (kind_text (kind_of n))

-- the help on a definition that shadows another
abbrev pub shadowing_help : List ℕ → List ℕ → List ℕ
shadowing_help what shadowed = codes "try renaming one of the " ++ what ++ codes ", or moving `" ++ shadowed ++ codes "` to a different namespace"

-- the help on a context or a shape that is no record
abbrev pub no_record_help : ContextOrShape → List ℕ
no_record_help (ActionContext uid) = codes "action contexts must have type `Record`"
no_record_help (EntityTypeShape ty) = codes "entity type shapes must have type `Record`"

-- where to report what should never come
abbrev pub report_help : List ℕ
report_help = codes "please file an issue at <https://github.com/cedar-policy/cedar/issues> including the schema that caused this error"

-- the help of an error that doesn't depend on what the error keeps
abbrev pub fixed_help : SchemaError → Option (List ℕ)
fixed_help (error.ActionNotDefined e) = Some (codes "any actions appearing as parents need to be declared as actions")
fixed_help (error.UndeclaredEntityTypes e) = Some (codes "any entity types appearing anywhere in a schema need to be declared in `entityTypes`")
fixed_help (error.ContextOrShapeNotRecord e) = Some (no_record_help e.ctx_or_shape)
fixed_help (error.ActionAttributesContainEmptySet e) = Some (codes "actions are not currently allowed to have attributes whose value is an empty set")
fixed_help (error.CommonTypeInvariantViolation e) = Some report_help
fixed_help (error.ActionInvariantViolation e) = Some report_help
fixed_help (error.ExprEscapeUsed e) = Some (codes "to create an entity reference, use `__entity`; to create an extension value, use `__extn`; and for all other values, use JSON directly")
fixed_help _ = None

-- the help of an error, where it has one
abbrev pub help_text : SchemaError → Option (List ℕ)
help_text (error.JsonDeserialization e) = option_map advice_text (advice_of e)
help_text (error.TypeNotDefined e) = Some (undefined_help e.undefined_types.head)
help_text (error.TypeShadowing e) = Some (shadowing_help (codes "definitions") (joined (components e.shadowed_def)))
help_text (error.ActionShadowing e) = Some (shadowing_help (codes "actions") (uid_text e.shadowed_def))
help_text e = fixed_help e
