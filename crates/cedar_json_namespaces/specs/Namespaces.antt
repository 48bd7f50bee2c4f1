-- SPDX-License-Identifier: Apache-2.0
-- Namespaces and fragments: what is first wrong with a value that has to be one, and which one a value has the shape of.
use Rattle.std.specs.Prelude.{◌≡◌, ℕ, Bool, true, false, ◌&&◌, bytes_eq, if◌then◌else◌, List, [], ◌∷◌, codes, Option, Some, None, option_and_then}
use Rattle.std.specs.Cmp.Lexicographic.{slice_cmp}
use Rattle.std.specs.Option.{option_cmp}
use Rattle.std.specs.Ordering.{nat_cmp}
use Rattle.std.specs.declared.cmp.Ordering.{Ordering}
use Rattle.serde_json.specs.Data.{Data, Members, no_members, member}
use Rattle.serde_json.specs.Find.{get, as_object}
use Rattle.cedar_text.specs.Faults.{no_unreserved_id}
use Rattle.cedar_text.specs.NormalNames as names
use Rattle.cedar_text.specs.NormalNames.{parts}
use Rattle.cedar_names.specs.Components.{loc_of}
use Rattle.cedar_names.specs.Identifiers.{unreserved_word}
use Rattle.cedar_names.specs.Names.{internal_of, name_cmp, name_words}
use Rattle.cedar_names.specs.Order.{word_cmp}
use Rattle.cedar_names.specs.declared.id.UnreservedId.{UnreservedId}
use Rattle.cedar_names.specs.declared.name.Name.{Name}
use Rattle.cedar_written.specs.CommonTypeIds.{unreserved_of}
use Rattle.cedar_written.specs.declared.common_type_id.CommonTypeId.{CommonTypeId}
use Rattle.cedar_written.specs.declared.raw_name.RawName.{RawName}
use Rattle.cedar_fragment.specs.ActionUids.{over_raw}
use Rattle.cedar_fragment.specs.declared.definitions.Fragment.{Fragment}
use Rattle.cedar_fragment.specs.declared.definitions.NamespaceDefinition.{NamespaceDefinition}
use Rattle.cedar_json_fault.specs.declared.json_fault.JsonFault.TheVariants as fault
use Rattle.cedar_json_fault.specs.declared.json_fault.JsonShape.TheVariants as shape
use Rattle.cedar_json_fault.specs.declared.json_fault.NameKind.TheVariants as what
use Rattle.cedar_json_types.specs.CommonIds.{IdentifiesCommon, common_id_fault}
use Rattle.cedar_json_types.specs.Faults.{Fault, here, first, under, any_text, needs, allows, keys_fault, map_fault, entry_fault}
use Rattle.cedar_json_types.specs.Keys.{namespace_keys}
use Rattle.cedar_json_types.specs.Parts.{named, id_fault, Identifies}
use Rattle.cedar_json_types.specs.Shapes.{Keyed, At, MayHave, MapOf, Entry}
use Rattle.cedar_json_read.specs.Declarations.{IsAction, IsCommonType, IsEntityType, Noted, action_fault, common_type_fault, entity_fault, notes_fault}

-- the orders of identifiers: those of their words
abbrev pub id_cmp : UnreservedId → UnreservedId → Ordering
id_cmp a b = word_cmp (unreserved_word a) (unreserved_word b)

abbrev pub common_cmp : CommonTypeId → CommonTypeId → Ordering
common_cmp a b = id_cmp (unreserved_of a) (unreserved_of b)

-- ---- namespaces

abbrev pub namespace_fault : Data → Fault
namespace_fault d =
    first (keys_fault shape.Namespace namespace_keys d)
    (first (allows (codes "commonTypes") (map_fault (entry_fault common_id_fault common_type_fault)) d)
    (first (needs (codes "entityTypes") (map_fault (entry_fault (id_fault what.Id) entity_fault)) d)
    (first (needs (codes "actions") (map_fault (entry_fault any_text action_fault)) d) (notes_fault d))))

abbrev pub IsNamespace : Data → NamespaceDefinition RawName over_raw → Type 0
IsNamespace d n =
    Keyed namespace_keys d × MayHave (codes "commonTypes") (λ m. m ≡ []) (MapOf common_cmp (Entry IdentifiesCommon IsCommonType)) d n.common_types
    × At (codes "entityTypes") (MapOf id_cmp (Entry Identifies IsEntityType)) d n.entity_types
    × At (codes "actions") (MapOf (slice_cmp nat_cmp) (Entry (λ k t. t ≡ k) IsAction)) d n.actions × Noted d n.annotations

-- ---- fragments

-- what is wrong with a text as the name of a namespace; the empty text names the unnamed one
abbrev pub namespace_name_fault : List ℕ → Fault
namespace_name_fault [] = None
namespace_name_fault (b ∷ bs) = named what.Namespace (b ∷ bs) (names.name_fault no_unreserved_id (b ∷ bs))

-- the text names the namespace
abbrev pub NamesNamespace : List ℕ → Option Name → Type 0
NamesNamespace s None = s ≡ []
NamesNamespace s (Some n) = (names.name_fault no_unreserved_id s ≡ None) × (name_words n ≡ parts s) × (loc_of (internal_of n) ≡ None)

abbrev pub has_members : Option Members → Bool
has_members None = false
has_members (Some no_members) = false
has_members (Some (member k d ms)) = true

-- the value of a namespace has annotations
abbrev pub is_noted : Data → Bool
is_noted d = has_members (option_and_then as_object (get (codes "annotations") d))

-- the unnamed namespace may have none
abbrev pub noted_fault : List ℕ → Data → Fault
noted_fault [] d = if is_noted d then Some (here fault.AnnotationsOnEmptyNamespace) else None
noted_fault (b ∷ bs) d = None

abbrev pub definition_fault : List ℕ → Data → Fault
definition_fault k d = first (namespace_fault d) (noted_fault k d)

abbrev pub namespace_entry_fault : List ℕ → Data → Fault
namespace_entry_fault k d = first (namespace_name_fault k) (under k (definition_fault k d))

abbrev pub fragment_fault : Data → Fault
fragment_fault = map_fault namespace_entry_fault

abbrev pub NamespaceEntry : List ℕ → Data → Option Name → NamespaceDefinition RawName over_raw → Type 0
NamespaceEntry k d name n = NamesNamespace k name × IsNamespace d n × (noted_fault k d ≡ None)

abbrev pub IsFragment : Data → Fragment RawName over_raw → Type 0
IsFragment d f = MapOf (option_cmp name_cmp) NamespaceEntry d f.0
