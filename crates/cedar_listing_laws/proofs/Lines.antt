-- SPDX-License-Identifier: Apache-2.0
-- The lines of a consistent schema, and its counts, are those of the plain schema that it is.
use Rattle.std.proofs.Common.{◌≡◌, ℕ, ◌+◌, ◌*◌, List, [], ◌∷◌, ◌++◌, Option, None, Some, map, fold, length, refl, sym, ap, ◌∙◌, codes}
use Rattle.std.proofs.lemmas.List.{length-map}
use Rattle.std.proofs.lemmas.Simd.{map-map}
use Rattle.std.specs.List.{flat_map}
use Rattle.std.specs.Map.{values_of}
use Rattle.std.specs.Option.{option_map}
use Rattle.cedar_data.specs.Firsts.{AllPass}
use Rattle.cedar_names.specs.Names.{entity_words}
use Rattle.cedar_names.specs.declared.entity_uid.EntityUID.{EntityUID}
use Rattle.cedar_names.specs.declared.name.EntityType.{EntityType}
use Rattle.cedar_streams.specs.Texts.{◌+++◌}
use Rattle.cedar_types.specs.declared.ty.Attributes.{Attributes}
use Rattle.cedar_types.specs.declared.ty.ResolvedType.{ResolvedType}
use Rattle.cedar_unfold.specs.ResolvedViews.{resolved}
use Rattle.cedar_convert_warnings.specs.declared.warnings.SchemaWarning.{SchemaWarning}
use Rattle.cedar_resolved.specs.Kinds.{standard_tags}
use Rattle.cedar_resolved.specs.Schemas.{action_context, action_descendants, action_name, action_principals, action_resources, action_types, type_attributes, type_name, types}
use Rattle.cedar_resolved.specs.declared.action.ValidatorActionId.{ValidatorActionId}
use Rattle.cedar_resolved.specs.declared.entity_type.ValidatorEntityType.{ValidatorEntityType}
use Rattle.cedar_resolved.specs.declared.kind.ValidatorEntityTypeKind.{ValidatorEntityTypeKind}
use Rattle.cedar_resolved.specs.declared.kind.ValidatorEntityTypeKind.TheVariants.{Enum, Standard}
use Rattle.cedar_resolved.specs.declared.schema.ValidatorSchema.{ValidatorSchema}
use Rattle.cedar_schema_error.specs.FullNames.{uid_in}
use Rattle.cedar_checks.specs.SchemaViews.{IsConsistent, action_in, entity_in, kind_of, schema_in}
use Rattle.cedar_listing.specs.Counts.{below_action, below_type, counted, counts, environments_of, line_of}
use Rattle.cedar_listing.specs.Listing.{action_line, entity_line, entity_text, kind_text, list_text, listing, name_text, tags_text, uid_line_text, warning_line}
use Rattle.cedar_listing_laws.specs.PlainListing.{plain_action_line, plain_below_action, plain_below_type, plain_counts, plain_entity_line, plain_environments_of, plain_kind_text, plain_listing, plain_tags_text, plain_uid_text}
use Rattle.cedar_listing_laws.proofs.Types.{attributes_plain, types_plain}

-- ---- lines

tags_plain : (tags : Option ResolvedType) → tags_text tags ≡ plain_tags_text (option_map resolved tags)
tags_plain None = refl
tags_plain (Some tags) = ap (λ t. codes " tags " +++ t) (types_plain tags)

kind_plain : (attributes : Attributes) (kind : ValidatorEntityTypeKind) → kind_text attributes kind ≡ plain_kind_text (kind_of attributes kind)
kind_plain attributes (Standard kind) = λ i. codes " attributes " +++ attributes_plain attributes i +++ tags_plain (standard_tags kind) i
kind_plain attributes (Enum ids) = refl

names_plain : (names : List EntityType) → map entity_text names ≡ map name_text (map entity_words names)
names_plain names = sym (map-map name_text entity_words names)

ids_plain : (ids : List EntityUID) → map uid_line_text ids ≡ map plain_uid_text (map uid_in ids)
ids_plain ids = sym (map-map plain_uid_text uid_in ids)

entity_plain : (e : EntityType × ValidatorEntityType) → type_name e.1 ≡ e.0 → entity_line e.1 ≡ plain_entity_line (entity_in e)
entity_plain e named = λ i.
    codes "entity " +++ entity_text (named i)
    +++ codes " descendants " +++ list_text (names_plain e.1.descendants i)
    +++ kind_plain (type_attributes e.1) e.1.kind i +++ codes "\n"

action_plain : (a : EntityUID × ValidatorActionId) → action_name a.1 ≡ a.0 → action_line a.1 ≡ plain_action_line (action_in a)
action_plain a named = λ i.
    codes "action " +++ uid_line_text (named i)
    +++ codes " descendants " +++ list_text (ids_plain (action_descendants a.1) i)
    +++ codes " principals " +++ list_text (names_plain (action_principals a.1) i)
    +++ codes " resources " +++ list_text (names_plain (action_resources a.1) i)
    +++ codes " context " +++ types_plain (action_context a.1) i +++ codes "\n"

-- the lines of values whose own lines are those of what they are seen as
lines_plain : {K V W : Type 0} (line : V → List ℕ) (plain : W → List ℕ) (seen : K × V → W) (Named : K × V → Type 0)
    → ((e : K × V) → Named e → line e.1 ≡ plain (seen e))
    → (es : List (K × V)) → AllPass Named es → flat_map line (values_of es) ≡ flat_map plain (map seen es)
lines_plain line plain seen Named same [] named = refl
lines_plain line plain seen Named same (e ∷ es) named = λ i. same e named.0 i ++ lines_plain line plain seen Named same es named.1 i

pub listing_plain : (S : ValidatorSchema) → IsConsistent S → (ws : List SchemaWarning) → listing S ws ≡ plain_listing (schema_in S) ws
listing_plain S consistent ws = λ i.
    lines_plain entity_line plain_entity_line entity_in (λ e. type_name e.1 ≡ e.0) entity_plain (types S) consistent.entity_types i
    +++ lines_plain action_line plain_action_line action_in (λ a. action_name a.1 ≡ a.0) action_plain (action_types S) consistent.actions i
    +++ flat_map warning_line ws

-- ---- counts

sums_same : {X A B : Type 0} (f : A → ℕ) (g : B → ℕ) (left : X → A) (right : X → B)
    → ((x : X) → f (left x) ≡ g (right x)) → (n : ℕ) (xs : List X)
    → fold (λ a y. a + f y) n (map left xs) ≡ fold (λ a y. a + g y) n (map right xs)
sums_same f g left right same n [] = refl
sums_same f g left right same n (x ∷ xs) = ap (λ k. fold (λ a y. a + f y) (n + k) (map left xs)) (same x) ∙ sums_same f g left right same (n + g (right x)) xs

below_type_plain : (e : EntityType × ValidatorEntityType) → below_type e.1 ≡ plain_below_type (entity_in e)
below_type_plain e = sym (length-map e.1.descendants entity_words)

below_action_plain : (a : EntityUID × ValidatorActionId) → below_action a.1 ≡ plain_below_action (action_in a)
below_action_plain a = sym (length-map (action_descendants a.1) uid_in)

environments_plain : (a : EntityUID × ValidatorActionId) → environments_of a.1 ≡ plain_environments_of (action_in a)
environments_plain a = λ i. sym (length-map (action_principals a.1) entity_words) i * sym (length-map (action_resources a.1) entity_words) i

pub counts_plain : (S : ValidatorSchema) (ws : List SchemaWarning) → counts S ws ≡ plain_counts (schema_in S) ws
counts_plain S ws =
    let types_same = sums_same below_type plain_below_type (λ e. e.1) entity_in below_type_plain 0 (types S) in
    let actions_same = sums_same below_action plain_below_action (λ a. a.1) action_in below_action_plain 0 (action_types S) in
    let environments_same = sums_same environments_of plain_environments_of (λ a. a.1) action_in environments_plain 0 (action_types S) in
    λ i. line_of (counted (sym (length-map (types S) entity_in) i)) (counted (sym (length-map (action_types S) action_in) i)) (counted (length ws))
    (counted (types_same i + actions_same i)) (counted (environments_same i))

-- ---- schemas that are the same as plain data

pub one_listing : (S T : ValidatorSchema) → IsConsistent S → IsConsistent T → schema_in S ≡ schema_in T → (ws : List SchemaWarning) → listing S ws ≡ listing T ws
one_listing S T p q same ws = listing_plain S p ws ∙ ap (λ plain. plain_listing plain ws) same ∙ sym (listing_plain T q ws)

pub one_counts : (S T : ValidatorSchema) → schema_in S ≡ schema_in T → (ws : List SchemaWarning) → counts S ws ≡ counts T ws
one_counts S T same ws = counts_plain S ws ∙ ap (λ plain. plain_counts plain ws) same ∙ sym (counts_plain T ws)
