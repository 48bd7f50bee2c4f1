-- SPDX-License-Identifier: Apache-2.0
-- What a schema has under the name of an entity type, and what descends from it, by names alone.
use Rattle.std.proofs.Common.{◌≡◌, Bool, true, false, ◌||◌, if◌then◌else◌, List, [], ◌∷◌, Option, Some, map, refl, ap, ◌∙◌}
use Rattle.std.specs.BTreeMap.{is_at}
use Rattle.std.specs.List.{list_any}
use Rattle.std.specs.Map.{lookup}
use Rattle.std.specs.Option.{option_map}
use Rattle.cedar_data.specs.Maps.{get}
use Rattle.cedar_data.specs.Sets.{contains}
use Rattle.cedar_names.specs.Names.{entity_cmp, entity_words}
use Rattle.cedar_names.specs.Order.{words_cmp}
use Rattle.cedar_names.specs.declared.name.EntityType.{EntityType}
use Rattle.cedar_checks.specs.SchemaViews.{entity_in, entity_of, schema_in}
use Rattle.cedar_resolved.specs.Schemas.{type_at, types}
use Rattle.cedar_resolved.specs.declared.entity_type.ValidatorEntityType.{ValidatorEntityType}
use Rattle.cedar_resolved.specs.declared.schema.ValidatorSchema.{ValidatorSchema}
use Rattle.cedar_checks.specs.Lookups.{declared_type, is_above}

-- ---- types by name

one_more : (b : Bool) (e : EntityType × ValidatorEntityType) (found : Option ValidatorEntityType) → (if b then Some (entity_of e.1) else option_map entity_of found) ≡ option_map entity_of (if b then Some e.1 else found)
one_more true e found = refl
one_more false e found = refl

seen : (name : EntityType) (es : List (EntityType × ValidatorEntityType)) → lookup (is_at (words_cmp (entity_words name))) (map entity_in es) ≡ option_map entity_of (get entity_cmp es name)
seen name [] = refl
seen name (e ∷ es) = ap (λ rest. if is_at (entity_cmp name) e.0 then Some (entity_of e.1) else rest) (seen name es) ∙ one_more (is_at (entity_cmp name) e.0) e (get entity_cmp es name)

pub declared-seen : (S : ValidatorSchema) (name : EntityType) → declared_type (schema_in S) (entity_words name) ≡ option_map entity_of (type_at S name)
declared-seen S name = seen name (types S)

-- ---- descendants

among : (name : EntityType) (es : List EntityType) → list_any (is_at (words_cmp (entity_words name))) (map entity_words es) ≡ contains entity_cmp es name
among name [] = refl
among name (e ∷ es) = ap (λ rest. is_at (entity_cmp name) e || rest) (among name es)

pub above-seen : (above : ValidatorEntityType) (name : EntityType) → is_above (entity_of above) (entity_words name) ≡ contains entity_cmp above.descendants name
above-seen above name = among name above.descendants
