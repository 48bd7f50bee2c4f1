-- SPDX-License-Identifier: Apache-2.0
-- The plain tree that a resolved type is, for each way to make one.
use Rattle.std.proofs.Common.{◌≡◌, ℕ, Bool, List, sym, ap, ◌∙◌}
use Rattle.cedar_data.specs.Maps.{map_values}
use Rattle.cedar_names.specs.Names.{entity_words, name_words}
use Rattle.cedar_names.specs.declared.name.EntityType.{EntityType}
use Rattle.cedar_names.specs.declared.name.Name.{Name}
use Rattle.cedar_types.proofs.Entries.{entries-attributes_of}
use Rattle.cedar_types.proofs.Folds.{fold_type-layer, fold_attribute-parts, fold_attributes-entries}
use Rattle.cedar_types.specs.declared.ty.AttributeType.{AttributeType}
use Rattle.cedar_types.specs.declared.ty.OpenTag.{OpenTag}
use Rattle.cedar_types.specs.declared.ty.ResolvedType.{ResolvedType}
use Rattle.cedar_types.specs.declared.ty.TypeNode.{out-TypeNode, out-roll-TypeNode}
use Rattle.cedar_types.specs.declared.ty.TypeNode.TheOpen as layers
use Rattle.cedar_types.specs.declared.ty.TypeNode.TheVariants as made
use Rattle.cedar_types.specs.Types.{bool_type, long_type, string_type, set_type, record_type, entity_type, extension_type, attributes_of}
use Rattle.cedar_unfolding.specs.Resolved.{Resolved, Boolean, Long, String, Extension, Set, Record, Entity}
use Rattle.cedar_unfold.specs.ResolvedViews.{is_open, layer_view, resolved, resolved_attribute, resolved_attributes, resolved_map}

abbrev marked : Resolved → Bool → Bool × Resolved
marked ty required = (required, ty)

pub resolved-bool : resolved bool_type ≡ Boolean
resolved-bool = fold_type-layer layer_view marked bool_type layers.Bool (ap out-TypeNode (sym made.rolls-Bool) ∙ out-roll-TypeNode layers.Bool)

pub resolved-long : resolved long_type ≡ Long
resolved-long = fold_type-layer layer_view marked long_type layers.Long (ap out-TypeNode (sym made.rolls-Long) ∙ out-roll-TypeNode layers.Long)

pub resolved-string : resolved string_type ≡ String
resolved-string = fold_type-layer layer_view marked string_type layers.String (ap out-TypeNode (sym made.rolls-String) ∙ out-roll-TypeNode layers.String)

pub resolved-set : (t : ResolvedType) → resolved (set_type t) ≡ Set (resolved t)
resolved-set t = fold_type-layer layer_view marked (set_type t) (layers.Set t) (ap out-TypeNode (sym (made.rolls-Set t)) ∙ out-roll-TypeNode (layers.Set t))

pub resolved-entity : (e : EntityType) → resolved (entity_type e) ≡ Entity (entity_words e)
resolved-entity e = fold_type-layer layer_view marked (entity_type e) (layers.Entity e) (ap out-TypeNode (sym (made.rolls-Entity e)) ∙ out-roll-TypeNode (layers.Entity e))

pub resolved-extension : (n : Name) → resolved (extension_type n) ≡ Extension (name_words n)
resolved-extension n = fold_type-layer layer_view marked (extension_type n) (layers.Extension n) (ap out-TypeNode (sym (made.rolls-Extension n)) ∙ out-roll-TypeNode (layers.Extension n))

pub resolved-record : (es : List (List ℕ × AttributeType)) (tag : OpenTag) → resolved (record_type (attributes_of es) tag) ≡ Record (resolved_map es) (is_open tag)
resolved-record es tag =
    fold_type-layer layer_view marked (record_type (attributes_of es) tag) (layers.Record (attributes_of es) tag) (ap out-TypeNode (sym (made.rolls-Record (attributes_of es) tag)) ∙ out-roll-TypeNode (layers.Record (attributes_of es) tag))
    ∙ ap (λ m. Record (resolved_attributes m) (is_open tag)) (fold_attributes-entries layer_view marked (attributes_of es) ∙ ap (map_values resolved_attribute) (entries-attributes_of es))

-- an attribute
pub resolved-attribute : (a : AttributeType) → resolved_attribute a ≡ (a.is_required, resolved a.attr_type)
resolved-attribute a = fold_attribute-parts layer_view marked a

pub ruleset resolved_types = (resolved-bool, resolved-long, resolved-string, resolved-set, resolved-entity, resolved-extension, resolved-record)
