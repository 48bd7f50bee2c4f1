-- SPDX-License-Identifier: Apache-2.0
-- A loop that checks the entity types of a schema in the order of their names, over the names and the types side by side.
use Rattle.std.proofs.Common.{◌≡◌, ◌⊎◌, inl, inr, List, [], ◌∷◌, map, refl, sym, ap, ◌∙◌, subst}
use Rattle.std.specs.Map.{keys_of, values_of}
use Rattle.std.specs.declared.result.Result.TheVariants.{Ok, Err}
use Rattle.cedar_data.specs.Answers.{and_then}
use Rattle.cedar_data.specs.declared.memory.Failure.{Failure}
use Rattle.cedar_names.specs.Names.{entity_words}
use Rattle.cedar_names.specs.declared.name.EntityType.{EntityType}
use Rattle.cedar_checks.specs.SchemaViews.{entity_in, entity_of, schema_in}
use Rattle.cedar_resolved.specs.Schemas.{types}
use Rattle.cedar_resolved.specs.declared.entity_type.ValidatorEntityType.{ValidatorEntityType}
use Rattle.cedar_resolved.specs.declared.schema.ValidatorSchema.{ValidatorSchema}
use Rattle.cedar_schema_error.specs.FullNames.{FullName}
use Rattle.cedar_checks.specs.of_world.Schemas.{Schema, SchemaEntity}
use Rattle.cedar_compat.specs.BreakChecks.{each, schema_check, type_stays_check}
use Rattle.cedar_compat.specs.Changes.{TypeBreak, type_break}
use Rattle.cedar_compat.specs.Checks.{CheckOf, Tells, of_type}
use Rattle.cedar_compat.specs.declared.fault.CompatFault.{CompatFault}
use Rattle.cedar_compat.specs.KeptNames.{KeepsDescendant, KeepsNames}
use Rattle.cedar_compat.proofs.Standing.{StandsIn, StandsIn-here, StandsIn-next, StandsIn-start, some-weaker}
use Rattle.cedar_compat.proofs.Told.{Tells-at, Tells-refused}

abbrev pub Entry : Type 0
Entry = EntityType × ValidatorEntityType

-- ---- lists

module _ {A : Type 0} where
  same-first : {x y : A} {xs ys : List A} → x ∷ xs ≡ y ∷ ys → x ≡ y
  same-first is = cc

  same-others : {x y : A} {xs ys : List A} → x ∷ xs ≡ y ∷ ys → xs ≡ ys
  same-others is = cc

  not-more : {x : A} {xs : List A} → x ∷ xs ≡ [] → ⊥
  not-more is = absurd (cc)

-- ---- entity types

module _ (R : Schema) where
  abbrev plain_check : FullName × SchemaEntity → CheckOf TypeBreak
  plain_check e = of_type e.0 (type_stays_check R e.0 e.1)

  -- the check of an entity type under its name
  abbrev pub entry_check : EntityType → ValidatorEntityType → CheckOf TypeBreak
  entry_check name ty = of_type (entity_words name) (type_stays_check R (entity_words name) (entity_of ty))

  abbrev all_check : List Entry → CheckOf TypeBreak
  all_check es = each plain_check (map entity_in es)

  -- a loop over the schema S that has these names and types before it has passed each entity type before
  pub record PassesTypes (S : ValidatorSchema) (names : List EntityType) (tys : List ValidatorEntityType) : Type 0 where
    pub left : List Entry
    pub names_left : keys_of left ≡ names
    pub types_left : values_of left ≡ tys
    pub is : schema_check (schema_in S) R ≡ all_check left
    pub stays : StandsIn (types S) left

  pub PassesTypes-start : (S : ValidatorSchema) (names : List EntityType) (tys : List ValidatorEntityType) → names ≡ keys_of (types S) → tys ≡ values_of (types S) → PassesTypes S names tys
  unfolding schema_check
  PassesTypes-start S names tys keys values = record { left = types S; names_left = sym keys; types_left = sym values; is = refl; stays = StandsIn-start (types S) (types S) refl }

  -- the names and the types that are left are those of one entry and the others
  abbrev Split : List Entry → EntityType → ValidatorEntityType → List EntityType → List ValidatorEntityType → Type 0
  Split left name ty names tys = (others : List Entry) × (left ≡ (name, ty) ∷ others) × (keys_of others ≡ names) × (values_of others ≡ tys)

  split : (left : List Entry) {name : EntityType} {ty : ValidatorEntityType} {names : List EntityType} {tys : List ValidatorEntityType} → keys_of left ≡ name ∷ names → values_of left ≡ ty ∷ tys → Split left name ty names tys
  split [] keys values = absurd (not-more (sym keys))
  split (e ∷ es) keys values = (es, λ i. (same-first keys i, same-first values i) ∷ es, same-others keys, same-others values)

  no-names : (left : List Entry) → keys_of left ≡ [] → left ≡ []
  no-names [] none = refl
  no-names (e ∷ es) none = absurd (not-more none)

  no-types : (left : List Entry) → values_of left ≡ [] → left ≡ []
  no-types [] none = refl
  no-types (e ∷ es) none = absurd (not-more none)

  pub PassesTypes-next : {S : ValidatorSchema} {names rest : List EntityType} {tys others : List ValidatorEntityType} {name : EntityType} {ty : ValidatorEntityType} → PassesTypes S names tys → names ≡ name ∷ rest → tys ≡ ty ∷ others → entry_check name ty ≡ Ok tt → PassesTypes S rest others
  PassesTypes-next sofar keys values passes =
      let at = split sofar.left (sofar.names_left ∙ keys) (sofar.types_left ∙ values) in
      record { left = at.0; names_left = at.2; types_left = at.3; is = sofar.is ∙ ap all_check at.1 ∙ ap (λ c. and_then c (λ _. all_check at.0)) passes; stays = StandsIn-next sofar.stays at.1 }

  -- where either side has nothing left
  pub PassesTypes-end : {S : ValidatorSchema} {names : List EntityType} {tys : List ValidatorEntityType} → PassesTypes S names tys → ((u : List EntityType) × ((names ≡ []) × (u ≡ []))) ⊎ ((u : List ValidatorEntityType) × ((tys ≡ []) × (u ≡ []))) → schema_check (schema_in S) R ≡ Ok tt
  PassesTypes-end sofar (inl none) = sofar.is ∙ ap all_check (no-names sofar.left (sofar.names_left ∙ none.1.0))
  PassesTypes-end sofar (inr none) = sofar.is ∙ ap all_check (no-types sofar.left (sofar.types_left ∙ none.1.0))

  pub PassesTypes-refused : {S : ValidatorSchema} {names rest : List EntityType} {tys others : List ValidatorEntityType} {name : EntityType} {ty : ValidatorEntityType} (x : Failure CompatFault) → PassesTypes S names tys → names ≡ name ∷ rest → tys ≡ ty ∷ others → Tells type_break (Err x) (entry_check name ty) → Tells type_break (Err x) (schema_check (schema_in S) R)
  PassesTypes-refused {name = name} {ty = ty} x sofar keys values told =
      let at = split sofar.left (sofar.names_left ∙ keys) (sofar.types_left ∙ values) in
      Tells-at type_break (Err x) (sofar.is ∙ ap all_check at.1) (Tells-refused type_break x (entry_check name ty) (λ _. all_check at.0) told)

  -- a fault of the entity type that comes next keeps names of the schema
  pub PassesTypes-kept : {S : ValidatorSchema} {names rest : List EntityType} {tys others : List ValidatorEntityType} {name : EntityType} {ty : ValidatorEntityType} (fault : CompatFault) → PassesTypes S names tys → names ≡ name ∷ rest → tys ≡ ty ∷ others → fault.ty ≡ name → KeepsDescendant ty fault.kind → KeepsNames S fault
  PassesTypes-kept {S = S} {name = name} {ty = ty} fault sofar keys values same keeps =
      let at = split sofar.left (sofar.names_left ∙ keys) (sofar.types_left ∙ values) in
      some-weaker (types S) (λ e is. (same ∙ ap (λ x. x.0) is, subst (λ x. KeepsDescendant x.1 fault.kind) is keeps)) (StandsIn-here sofar.stays at.1)

pub ruleset each_type_stays = (PassesTypes-start, PassesTypes-next, PassesTypes-end, PassesTypes-refused)
