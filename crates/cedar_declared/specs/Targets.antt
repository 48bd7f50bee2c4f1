-- SPDX-License-Identifier: Apache-2.0
-- What comes of a reference: its target, or the error that holds it alone.
use Rattle.std.specs.Prelude.{ℕ, List, [], Option, Some, None, unwrap_or}
use Rattle.std.specs.List.{find}
use Rattle.std.specs.declared.result.Result.{Result}
use Rattle.std.specs.declared.result.Result.TheVariants.{Ok, Err}
use Rattle.cedar_names.specs.of_text.Lists.{elements}
use Rattle.cedar_names.specs.Components.{components}
use Rattle.cedar_names.specs.declared.internal_name.InternalName.{InternalName}
use Rattle.cedar_definitions.specs.ActionUids.{over_conditional, uid_of}
use Rattle.cedar_written.specs.Possibilities.{kind_of, leading, possibilities_of, unconditional, written}
use Rattle.cedar_written.specs.Qualifying.{action_name}
use Rattle.cedar_written.specs.Reference.{Reference, named, parent}
use Rattle.cedar_written.specs.declared.conditional_name.ConditionalName.{ConditionalName}
use Rattle.cedar_written.specs.declared.reference_type.ReferenceType.TheVariants as kind
use Rattle.cedar_schema_error.specs.declared.name_errors.TypeNotDefinedError.{TypeNotDefinedError}
use Rattle.cedar_schema_error.specs.declared.schema_error.SchemaError.{SchemaError}
use Rattle.cedar_schema_error.specs.declared.schema_error.SchemaError.TheVariants.{ActionNotDefined, TypeNotDefined}
use Rattle.cedar_schema_error.specs.FullNames.{Uid}
use Rattle.cedar_declared.specs.Names.{Names, is_action, is_declared}

-- a name, where there is one, else a refusal
abbrev pub or_refused : {E : Type 0} → E → Option InternalName → Result InternalName E
or_refused e None = Err e
or_refused e (Some name) = Ok name

-- the error that this parent is no declared action
abbrev pub undeclared_action : List ℕ → ConditionalName → SchemaError
undeclared_action id ty = ActionNotDefined (record { uids = leading (uid_of over_conditional id ty) [] })

-- the type of a parent, which is `Action` where none is given
abbrev pub parent_type : Option ConditionalName → ConditionalName
parent_type ty = unwrap_or ty (unconditional (written action_name) kind.Entity)

-- the action of this id and this type
abbrev pub action_at : List ℕ → InternalName → Uid
action_at id ty = record { ty = components ty; id = id }

module _ (names : Names) where
  -- the first name that a reference may stand for and that is declared as what it may be
  abbrev pub found : ConditionalName → Option InternalName
  found n = find (λ p. is_declared names (kind_of n) (components p)) (elements (possibilities_of n))

  -- the first type that the parent of an action may have and that is, with its id, a declared action
  abbrev pub found_action : List ℕ → ConditionalName → Option InternalName
  found_action id n = find (λ p. is_action names (action_at id p)) (elements (possibilities_of n))

  -- a reference that has a target becomes it
  abbrev pub resolved : ConditionalName → Result InternalName TypeNotDefinedError
  resolved n = or_refused (record { undefined_types = leading n [] }) (found n)

  -- what comes of a reference at a place
  abbrev pub resolving : Reference ConditionalName → Result InternalName SchemaError
  resolving (named kind n) = or_refused (TypeNotDefined (record { undefined_types = leading n [] })) (found n)
  resolving (parent id ty) = or_refused (undeclared_action id (parent_type ty)) (found_action id (parent_type ty))
