-- SPDX-License-Identifier: Apache-2.0
-- What a schema has under the name of an entity type, by names alone.
use Rattle.std.proofs.Common.{◌≡◌, Some, None, ap, ◌∙◌}
use Rattle.std.specs.Option.{option_map}
use Rattle.cedar_names.specs.Names.{entity_words}
use Rattle.cedar_names.specs.declared.name.EntityType.{EntityType}
use Rattle.cedar_checks.specs.SchemaViews.{entity_of, schema_in}
use Rattle.cedar_resolved.specs.Schemas.{type_at}
use Rattle.cedar_resolved.specs.declared.entity_type.ValidatorEntityType.{ValidatorEntityType}
use Rattle.cedar_resolved.specs.declared.schema.ValidatorSchema.{ValidatorSchema}
use Rattle.cedar_checks.specs.of_world.Schemas.{SchemaEntity}
use Rattle.cedar_checks.proofs.Lookups.{above-seen, declared-seen}
use Rattle.cedar_compat.specs.BreakChecks.{found_check, type_stays_check}

pub type-found : (S : ValidatorSchema) (name : EntityType) (old : SchemaEntity) (found : ValidatorEntityType) → type_at S name ≡ Some found → type_stays_check (schema_in S) (entity_words name) old ≡ found_check old (Some (entity_of found))
unfolding type_stays_check
type-found S name old found is = ap (found_check old) (declared-seen S name ∙ ap (option_map entity_of) is)

pub type-missing : (S : ValidatorSchema) (name : EntityType) (old : SchemaEntity) → type_at S name ≡ None → type_stays_check (schema_in S) (entity_words name) old ≡ found_check old None
unfolding type_stays_check
type-missing S name old is = ap (found_check old) (declared-seen S name ∙ ap (option_map entity_of) is)

pub ruleset found = (type-found, type-missing, above-seen)
