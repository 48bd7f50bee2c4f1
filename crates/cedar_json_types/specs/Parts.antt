-- SPDX-License-Identifier: Apache-2.0
-- Texts, names and annotations: their faults, and their shapes.
use Rattle.std.specs.Prelude.{◌≡◌, ℕ, Bool, true, false, if◌then◌else◌, List, [], ◌∷◌, codes, Option, Some, None}
use Rattle.cedar_text.specs.Faults as words
use Rattle.cedar_text.specs.Faults.{no_id, no_unreserved_id, no_any_id}
use Rattle.cedar_text.specs.NormalNames as names
use Rattle.cedar_text.specs.NormalNames.{parts}
use Rattle.cedar_text.specs.declared.fault.NameFault.{NameFault}
use Rattle.cedar_names.specs.Annotating.{annotation_entries, any_cmp}
use Rattle.cedar_names.specs.Components.{components, loc_of}
use Rattle.cedar_names.specs.Identifiers.{any_word, unreserved_word}
use Rattle.cedar_names.specs.declared.annotation.Annotation.{Annotation}
use Rattle.cedar_names.specs.declared.annotation.Annotations.{Annotations}
use Rattle.cedar_names.specs.declared.any_id.AnyId.{AnyId}
use Rattle.cedar_names.specs.declared.id.UnreservedId.{UnreservedId}
use Rattle.cedar_written.specs.Possibilities.{written}
use Rattle.cedar_written.specs.declared.raw_name.RawName.{RawName}
use Rattle.serde_json.specs.Data.{Data, null, string}
use Rattle.cedar_json_fault.specs.declared.json_fault.NameKind.{NameKind}
use Rattle.cedar_json_fault.specs.declared.json_fault.NameKind.TheVariants as what
use Rattle.cedar_json_types.specs.Faults.{Fault, bad_name, in_text, any_text, unless_null, map_fault, entry_fault}
use Rattle.cedar_json_types.specs.Shapes.{IsText, MapOf, Entry}

-- ---- names

-- a name's fault, as one of the value
abbrev pub named : NameKind → List ℕ → Option NameFault → Fault
named what s None = None
named what s (Some f) = Some (bad_name what s f)

-- what is wrong with a text as a reference of this kind
abbrev pub reference_fault : NameKind → List ℕ → Fault
reference_fault what s = named what s (names.name_fault no_id s)

-- what is wrong with a text as an unreserved identifier
unfoldable pub id_fault : NameKind → List ℕ → Fault
id_fault what s = named what s (words.word_fault no_unreserved_id s)

-- what is wrong with a text as the key of an annotation
abbrev pub any_id_fault : List ℕ → Fault
any_id_fault s = named what.Id s (words.word_fault no_any_id s)

-- the text is the name, which has no place
abbrev pub Names : List ℕ → RawName → Type 0
Names s n = (names.name_fault no_id s ≡ None) × (components (written n) ≡ parts s) × (loc_of (written n) ≡ None)

-- the text is the identifier
abbrev pub Identifies : List ℕ → UnreservedId → Type 0
Identifies s id = (words.word_fault no_unreserved_id s ≡ None) × (unreserved_word id ≡ s)

-- the text is the key of an annotation
abbrev pub IdentifiesAny : List ℕ → AnyId → Type 0
IdentifiesAny s id = (words.word_fault no_any_id s ≡ None) × (any_word id ≡ s)

-- the value is a text that is the name
abbrev pub IsName : Data → RawName → Type 0
IsName d n = (s : List ℕ) × (d ≡ string s) × Names s n

-- the value is a text that is the identifier
abbrev pub IsId : Data → UnreservedId → Type 0
IsId d id = (s : List ℕ) × (d ≡ string s) × Identifies s id

-- ---- annotations

-- the text of an annotation; `null` has the empty one
abbrev pub IsNote : Data → List ℕ → Type 0
IsNote null t = t ≡ []
IsNote d t = IsText d t

abbrev pub IsAnnotation : Data → Annotation → Type 0
IsAnnotation d a = IsNote d a.val × (a.loc ≡ None)

abbrev pub annotation_fault : Data → Fault
annotation_fault = unless_null (in_text any_text)

abbrev pub annotations_fault : Data → Fault
annotations_fault = map_fault (entry_fault any_id_fault annotation_fault)

abbrev pub AreAnnotations : Data → Annotations → Type 0
AreAnnotations d a = MapOf any_cmp (Entry IdentifiesAny IsAnnotation) d (annotation_entries a)

abbrev pub NoAnnotations : Annotations → Type 0
NoAnnotations a = annotation_entries a ≡ []
