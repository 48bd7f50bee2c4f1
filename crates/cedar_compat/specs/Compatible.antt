-- SPDX-License-Identifier: Apache-2.0
-- Which schemas take nothing away from data of others. Nothing is said of order or of faults.
use Rattle.std.specs.Prelude.{◌≡◌, ⊤, true, Option, Some, None}
use Rattle.cedar_data.specs.Firsts.{AllPass}
use Rattle.cedar_text.specs.Words.{has_word}
use Rattle.cedar_schema_error.specs.FullNames.{FullName}
use Rattle.cedar_unfold.specs.Resolved.{Resolved, no_attributes}
use Rattle.cedar_checks.specs.of_world.Schemas.{EntityKind, EnumeratedKind, Schema, SchemaEntity, StandardKind}
use Rattle.cedar_checks.specs.Lookups.{declared_type, is_above}
use Rattle.cedar_compat.specs.Widening.{HasWidened, NeedsNoMore, Widens}

-- tags of the old type are tags of the new one
abbrev pub TagsStay : Option Resolved → Option Resolved → Type 0
TagsStay None new = ⊤
TagsStay (Some tags) None = ⊥
TagsStay (Some tags) (Some wider) = Widens tags wider

-- what entities of the old kind are and have, those of the new one may be and have
abbrev pub KindStays : EntityKind → EntityKind → Type 0
KindStays (StandardKind fields is_open tags) (StandardKind wider tag new) = HasWidened fields wider × NeedsNoMore fields wider × TagsStay tags new
KindStays (StandardKind fields is_open tags) (EnumeratedKind ids) = ⊥
KindStays (EnumeratedKind ids) (StandardKind wider tag new) = NeedsNoMore no_attributes wider
KindStays (EnumeratedKind ids) (EnumeratedKind choices) = AllPass (λ id. has_word choices id ≡ true) ids

-- the schema has the entity type of this name with a kind that stays, and with all its descendants
abbrev pub TypeStays : Schema → FullName → SchemaEntity → Type 0
TypeStays R name old = (new : SchemaEntity) × (declared_type R name ≡ Some new) × KindStays old.kind new.kind × AllPass (λ below. is_above new below ≡ true) old.descendants

-- each entity type of the old schema S stays in the new schema R
abbrev pub Compatible : Schema → Schema → Type 0
Compatible S R = AllPass (λ e. TypeStays R e.0 e.1) S.entity_types
