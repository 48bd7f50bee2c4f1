-- SPDX-License-Identifier: Apache-2.0
-- References with the full names that they may stand for in a namespace.
use Rattle.std.specs.Prelude.{[], Option, None, refl, unwrap_or, codes}
use Rattle.std.specs.declared.result.Result.{Result}
use Rattle.std.specs.declared.result.Result.TheVariants.{Ok}
use Rattle.cedar_print.specs.of_names.Components.{internal_name}
use Rattle.cedar_print.specs.of_names.declared.id.Id.{Id}
use Rattle.cedar_print.specs.of_names.declared.internal_name.InternalName.{InternalName}
use Rattle.cedar_written.specs.Possibilities.{conditional, raw_name}
use Rattle.cedar_written.specs.Reference.{Reference, named, parent}
use Rattle.cedar_written.specs.declared.conditional_name.ConditionalName.{ConditionalName}
use Rattle.cedar_written.specs.declared.qualifying.Never.{Never}
use Rattle.cedar_written.specs.declared.raw_name.RawName.{RawName}
use Rattle.cedar_written.specs.declared.reference_type.ReferenceType.TheVariants as kind

-- the identifier `Action`
abbrev pub action_id : Id
action_id = record { word = codes "Action"; form = refl }

-- the name `Action`, with no place
abbrev pub action_name : RawName
action_name = raw_name (internal_name action_id [] None)

-- a name at its place; the type of an action parent may name entity types, and no type stands for `Action`
abbrev pub qualifying : Option InternalName → Reference RawName → Result ConditionalName Never
qualifying ns (named kind name) = Ok (conditional ns kind name)
qualifying ns (parent id ty) = Ok (conditional ns kind.Entity (unwrap_or ty action_name))
