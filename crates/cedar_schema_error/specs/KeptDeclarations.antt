-- SPDX-License-Identifier: Apache-2.0
-- Which declarations an error keeps: their names, with the places that it keeps of them.
use Rattle.std.specs.Prelude.{◌≡◌, List, [], ◌∷◌, Option}
use Rattle.cedar_data.specs.Firsts.{AllPass, SomePasses}
use Rattle.cedar_names.specs.Components.{components, loc_of}
use Rattle.cedar_names.specs.EntityUids.{place_of}
use Rattle.cedar_names.specs.Names.{internal_of, name_of}
use Rattle.cedar_names.specs.declared.entity_uid.EntityUID.{EntityUID}
use Rattle.cedar_names.specs.declared.internal_name.InternalName.{InternalName}
use Rattle.cedar_names.specs.of_text.declared.location.Loc.{Loc}
use Rattle.cedar_schema_error.specs.FullNames.{FullName, Uid, uid_in}
use Rattle.cedar_schema_error.specs.declared.schema_error.SchemaError.{SchemaError}
use Rattle.cedar_schema_error.specs.declared.schema_error.SchemaError.TheVariants as error

-- a name with its place, and an action with its
abbrev pub placed : InternalName → FullName × Option Loc
placed name = (components name, loc_of name)

abbrev pub placed_action : EntityUID → Uid × Option Loc
placed_action uid = (uid_in uid, place_of uid)

-- the types that an error keeps since they are declared as they are
abbrev pub kept_types : SchemaError → List InternalName
kept_types (error.TypeShadowing e) = e.shadowed_def ∷ e.shadowing_def ∷ []
kept_types (error.DuplicateEntityType e) = internal_of (name_of e.ty) ∷ []
kept_types (error.DuplicateCommonType e) = e.ty ∷ []
kept_types (error.CycleInCommonTypeReferences e) = e.ty ∷ []
kept_types _ = []

-- and the actions
abbrev pub kept_actions : SchemaError → List EntityUID
kept_actions (error.ActionShadowing e) = e.shadowed_def ∷ e.shadowing_def ∷ []
kept_actions (error.DuplicateAction e) = e.uid ∷ []
kept_actions (error.CycleInActionHierarchy e) = e.uid ∷ []
kept_actions _ = []

-- x is one of the list
abbrev pub IsAmong : {A : Type 0} → List A → A → Type 0
IsAmong xs x = SomePasses (λ y. y ≡ x) xs

-- each type and each action that an error keeps is one of these, under the same name and at the same place
pub record KeepsAmong (declared_types : List (FullName × Option Loc)) (declared_actions : List (Uid × Option Loc)) (e : SchemaError) : Type 0 where
  pub types : AllPass (λ name. IsAmong declared_types (placed name)) (kept_types e)
  pub actions : AllPass (λ uid. IsAmong declared_actions (placed_action uid)) (kept_actions e)
