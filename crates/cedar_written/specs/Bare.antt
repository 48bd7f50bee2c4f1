-- SPDX-License-Identifier: Apache-2.0
-- What is left of a type where its names are taken away: all but them, places too.
use Rattle.std.specs.declared.result.Result.{Result}
use Rattle.std.specs.declared.result.Result.TheVariants.{Ok}
use Rattle.cedar_written.specs.Reference.{Reference}
use Rattle.cedar_written.specs.Through.{through_type}
use Rattle.cedar_written.specs.declared.ty.SchemaType.{SchemaType}

-- in place of a name, nothing
abbrev pub nameless : {N : Type 0} → Reference N → Result (Unit {0}) (Unit {0})
nameless r = Ok tt

-- a type with nothing in place of each name
abbrev pub bare_type : {N : Type 0} → SchemaType N → Result (SchemaType (Unit {0})) (Unit {0})
bare_type ty = through_type nameless ty
