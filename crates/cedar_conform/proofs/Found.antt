-- SPDX-License-Identifier: Apache-2.0
-- What a schema has under the name of an entity's type, by names alone.
use Rattle.std.proofs.Common.{◌≡◌, Some, None, ap, ◌∙◌}
use Rattle.std.specs.Option.{option_map}
use Rattle.cedar_names.specs.EntityUids.{entity_type_of}
use Rattle.cedar_names.specs.declared.entity_uid.EntityUID.{EntityUID}
use Rattle.cedar_checks.specs.SchemaViews.{entity_of, schema_in}
use Rattle.cedar_resolved.specs.Schemas.{type_at}
use Rattle.cedar_resolved.specs.declared.entity_type.ValidatorEntityType.{ValidatorEntityType}
use Rattle.cedar_resolved.specs.declared.schema.ValidatorSchema.{ValidatorSchema}
use Rattle.cedar_schema_error.specs.FullNames.{uid_in}
use Rattle.cedar_checks.proofs.Lookups.{above-seen, declared-seen}
use Rattle.cedar_conform_fault.specs.Flaws.{unknown_type}
use Rattle.cedar_conform.specs.Checks.{here}
use Rattle.cedar_conform.specs.ValueChecks.{choice_check, known_as, known_check}

pub type-found : (S : ValidatorSchema) (uid : EntityUID) (ty : ValidatorEntityType) → type_at S (entity_type_of uid) ≡ Some ty → known_check (schema_in S) (uid_in uid) ≡ choice_check (uid_in uid) (entity_of ty)
unfolding known_check
type-found S uid ty is = ap (known_as (uid_in uid)) (declared-seen S (entity_type_of uid) ∙ ap (option_map entity_of) is)

pub type-missing : (S : ValidatorSchema) (uid : EntityUID) → type_at S (entity_type_of uid) ≡ None → known_check (schema_in S) (uid_in uid) ≡ here (unknown_type (uid_in uid).ty)
unfolding known_check
type-missing S uid is = ap (known_as (uid_in uid)) (declared-seen S (entity_type_of uid) ∙ ap (option_map entity_of) is)

pub ruleset found = (type-found, type-missing, above-seen)
