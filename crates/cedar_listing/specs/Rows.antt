-- SPDX-License-Identifier: Apache-2.0
-- The texts of the parts of a line.
use Rattle.std.specs.Prelude.{ℕ, Bool, List, [], map, if◌then◌else◌, codes}
use Rattle.cedar_names.specs.EntityUids.{eid_text}
use Rattle.cedar_names.specs.declared.entity_uid.Eid.{Eid}
use Rattle.cedar_names.specs.declared.entity_uid.EntityUID.{EntityUID}
use Rattle.cedar_names.specs.declared.name.EntityType.{EntityType}
use Rattle.cedar_streams.specs.Texts.{◌+++◌}
use Rattle.cedar_types.specs.Types.{fold_attribute}
use Rattle.cedar_types.specs.declared.ty.AttributeType.{AttributeType}
use Rattle.cedar_types.specs.declared.ty.Attributes.{Attributes}
use Rattle.cedar_types.specs.declared.ty.ResolvedType.{ResolvedType}
use Rattle.cedar_resolved.specs.declared.kind.ValidatorEntityTypeKind.{ValidatorEntityTypeKind}
use Rattle.cedar_listing.specs.Listing.{entity_text, uid_line_text, quoted_text, list_text, kind_text, layer_text, behind_name, type_text}

-- an id behind its type
abbrev pub typed_id_text : EntityType → Eid → List ℕ
typed_id_text ty eid = entity_text ty +++ codes "::" +++ quoted_text (eid_text eid)

-- the line of an entity type of this name with these descendants, attributes and kind
abbrev pub entity_line_of : EntityType → List EntityType → Attributes → ValidatorEntityTypeKind → List ℕ
entity_line_of name descendants attributes kind =
    codes "entity " +++ entity_text name +++ codes " descendants " +++ list_text (map entity_text descendants) +++ kind_text attributes kind +++ codes "\n"

-- what an action applies to, up to the end of its line
abbrev pub applies_text : List EntityType → List EntityType → ResolvedType → List ℕ
applies_text principals resources context =
    codes " principals " +++ list_text (map entity_text principals)
    +++ codes " resources " +++ list_text (map entity_text resources)
    +++ codes " context " +++ type_text context +++ codes "\n"

-- the line of an action of this name with these descendants, which applies to these
abbrev pub action_line_of : EntityUID → List EntityUID → List EntityType → List EntityType → ResolvedType → List ℕ
action_line_of name descendants principals resources context =
    codes "action " +++ uid_line_text name +++ codes " descendants " +++ list_text (map uid_line_text descendants) +++ applies_text principals resources context

-- what stands behind the name of an attribute
abbrev pub attribute_text : AttributeType → List ℕ
attribute_text = fold_attribute layer_text behind_name

-- an attribute with its name
abbrev pub row_text : List ℕ × AttributeType → List ℕ
row_text row = quoted_text row.0 +++ attribute_text row.1

-- the mark of an attribute that isn't required
abbrev pub mark_text : Bool → List ℕ
mark_text is_required = if is_required then [] else codes "?"
