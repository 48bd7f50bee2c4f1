-- SPDX-License-Identifier: Apache-2.0
-- What is said where a schema can't be written in the human syntax.
use Rattle.std.specs.Prelude.{ℕ, List, [], ◌∷◌, ◌++◌, codes}
use Rattle.std.specs.List.{flat_map}
use Rattle.cedar_text.specs.Joining.{joined}
use Rattle.cedar_text.specs.Lists.{elements}
use Rattle.cedar_text.specs.declared.location.Span.{Span}
use Rattle.cedar_names.specs.Components.{components, loc_of}
use Rattle.cedar_names.specs.declared.internal_name.InternalName.{InternalName}
use Rattle.cedar_places.specs.Places.{range}
use Rattle.cedar_fmt.specs.declared.errors.NameCollisionsError.{NameCollisionsError}
use Rattle.cedar_fmt.specs.declared.errors.ToCedarSchemaSyntaxError.{ToCedarSchemaSyntaxError}
use Rattle.cedar_fmt.specs.declared.errors.ToCedarSchemaSyntaxError.TheVariants.{NameCollisions}

-- the names that collide
abbrev pub colliding : NameCollisionsError → List InternalName
colliding e = elements e.names

abbrev pub name_text : InternalName → List ℕ
name_text n = joined (components n)

-- names with `, ` between them
abbrev pub names_text : List InternalName → List ℕ
names_text [] = []
names_text (n ∷ ns) = name_text n ++ flat_map (λ m. codes ", " ++ name_text m) ns

abbrev pub collisions_text : NameCollisionsError → List ℕ
collisions_text e = codes "There are name collisions: [" ++ (names_text (colliding e) ++ codes "]")

abbrev pub error_text : ToCedarSchemaSyntaxError → List ℕ
error_text (NameCollisions e) = collisions_text e

-- the ranges of the names that have a place, in order
abbrev pub collisions_spans : NameCollisionsError → List Span
collisions_spans e = flat_map (λ n. range (loc_of n)) (colliding e)

abbrev pub error_spans : ToCedarSchemaSyntaxError → List Span
error_spans (NameCollisions e) = collisions_spans e

-- the names that an error keeps
abbrev pub kept_names : ToCedarSchemaSyntaxError → List InternalName
kept_names (NameCollisions e) = colliding e
