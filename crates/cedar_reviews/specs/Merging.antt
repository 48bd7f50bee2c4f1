-- SPDX-License-Identifier: Apache-2.0
-- What the schemas that an input lists declare together, and what is told of it.
use Rattle.std.specs.Prelude.{◌≡◌, ◌⊎◌, ⊤, ℕ, ◌+◌, List, [], ◌∷◌, codes, Option, Some, None, option_map, unwrap_or}
use Rattle.serde_json.specs.Data.{Data, array, Items, no_items, item}
use Rattle.serde_json.specs.Find.{as_str}
use Rattle.cedar_convert_fragment.specs.Views.{fragment_seen}
use Rattle.cedar_convert_text.specs.Texts.{DeclaresText}
use Rattle.cedar_convert_warnings.specs.declared.warnings.SchemaWarning.{SchemaWarning}
use Rattle.cedar_envelope.specs.Envelopes.{Contents, HoldsValue, IsEnvelope}
use Rattle.cedar_fmt.specs.Collisions.{collisions}
use Rattle.cedar_fragment.specs.ActionUids.{over_raw}
use Rattle.cedar_fragment.specs.declared.definitions.Fragment.{Fragment}
use Rattle.cedar_merge.specs.Merged.{Merged, NoClash, NoConflict}
use Rattle.cedar_merge.specs.Texts.{TellsClash, TellsConflict, error_text}
use Rattle.cedar_merge.specs.declared.errors.MergeError.{MergeError}
use Rattle.cedar_written.specs.declared.raw_name.RawName.{RawName}
use Rattle.cedar_reviews.specs.Holding.{TellsEnvelope, TellsNoDeclaration}
use Rattle.cedar_reviews.specs.Printing.{IsPrintedAs, TellsCollisionsOf}
use Rattle.cedar_reviews.specs.Refusal.{error_line}
use Rattle.cedar_reviews.specs.declared.schemas_not_texts.SchemasNotTexts.{SchemasNotTexts}

-- a fragment as the code has it
abbrev pub Held : Type 0
Held = Fragment RawName over_raw

-- ---- a list of texts

-- the text that a value is; of any other the empty one
abbrev pub text_in : Data → List ℕ
text_in d = unwrap_or (as_str d) []

-- the texts that items are
abbrev pub texts_in : Items → List (List ℕ)
texts_in no_items = []
texts_in (item d ds) = text_in d ∷ texts_in ds

-- this place, where there is no text; else a further one
abbrev pub unless_text : ℕ → Option ℕ → Option (List ℕ) → Option ℕ
unless_text place further None = Some place
unless_text place further (Some text) = further

-- the place of the first item that is no text, counted from this one on
abbrev pub other_item : ℕ → Items → Option ℕ
other_item place no_items = None
other_item place (item d ds) = unless_text place (other_item (place + 1) ds) (as_str d)

-- the value is a list of these texts
abbrev pub AreTexts : Data → List (List ℕ) → Type 0
AreTexts d ts = (ds : Items) × (d ≡ array ds) × (other_item 0 ds ≡ None) × (ts ≡ texts_in ds)

-- what is wrong with a value that is no list of texts: that it is no list, or the place of the first item that is no text
abbrev pub other_value : Data → Option (Option ℕ)
other_value (array ds) = option_map Some (other_item 0 ds)
other_value other = Some None

-- ---- what texts declare

-- the text declares the fragment
abbrev pub Declares : List (List ℕ) → List ℕ → Held → Type 0
Declares extensions text F = (warned : List SchemaWarning) × DeclaresText text extensions (fragment_seen F) warned

-- the texts declare these fragments, in order
abbrev pub EachDeclares : List (List ℕ) → List (List ℕ) → List Held → Type 0
EachDeclares extensions [] [] = ⊤
EachDeclares extensions [] (F ∷ Fs) = ⊥
EachDeclares extensions (t ∷ ts) [] = ⊥
EachDeclares extensions (t ∷ ts) (F ∷ Fs) = Declares extensions t F × EachDeclares extensions ts Fs

-- a text declares nothing, and those before it do: what is told of it
abbrev pub TellsUndeclared : List (List ℕ) → List (List ℕ) → List ℕ → Type 0
TellsUndeclared extensions [] told = ⊥
TellsUndeclared extensions (t ∷ ts) told =
    TellsNoDeclaration t told ⊎ (((F : Held) × Declares extensions t F) × TellsUndeclared extensions ts told)

-- ---- merging

-- fragments have nothing against each other
abbrev pub Agree : List Held → Type 0
Agree Fs = NoClash Fs × NoConflict Fs

-- the fragments declare together what is written in this text
abbrev pub AreMergedAs : List Held → List ℕ → Type 0
AreMergedAs Fs due = Agree Fs × ((F : Held) × Merged Fs F × IsPrintedAs F due)

-- why fragments can't be merged
abbrev pub TellsMerge : List Held → List ℕ → Type 0
TellsMerge Fs told = (e : MergeError) × TellsClash Fs e × TellsConflict Fs e × (told ≡ error_line (error_text e))

-- why what fragments declare together can't be written
abbrev pub TellsCollided : List Held → List ℕ → Type 0
TellsCollided Fs told = Agree Fs × ((F : Held) × Merged Fs F × TellsCollisionsOf F told)

-- why fragments can't be merged, or what they declare can't be written
abbrev pub TellsUnmerged : List Held → List ℕ → Type 0
TellsUnmerged Fs told = TellsMerge Fs told ⊎ TellsCollided Fs told

-- ---- of a value

-- what is written of a list of texts
abbrev pub IsMergedAs : List (List ℕ) → Data → List ℕ → Type 0
IsMergedAs extensions d due = (ts : List (List ℕ)) × AreTexts d ts × ((Fs : List Held) × EachDeclares extensions ts Fs × AreMergedAs Fs due)

-- the value is no list of texts, and this is told of it
abbrev pub TellsOther : Data → List ℕ → Type 0
TellsOther d told = (e : SchemasNotTexts) × (other_value d ≡ Some e.at) × (told ≡ error_line (codes "schemas is not a list of texts"))

-- what is told of any other value
abbrev pub TellsUnlisted : List (List ℕ) → Data → List ℕ → Type 0
TellsUnlisted extensions d told =
    TellsOther d told
    ⊎ ((ts : List (List ℕ)) × AreTexts d ts × (TellsUndeclared extensions ts told ⊎ ((Fs : List Held) × EachDeclares extensions ts Fs × TellsUnmerged Fs told)))

-- ---- of an input

-- the input is an object with a value at `schemas`, and this is it
abbrev pub HoldsSchemas : List ℕ → Data → Type 0
HoldsSchemas input d = (c : Contents) × IsEnvelope input [] (codes "schemas" ∷ []) c × HoldsValue c (codes "schemas") d

-- what is written of an input
abbrev pub MakesMerge : List ℕ → List (List ℕ) → List ℕ → Type 0
MakesMerge input extensions due = (d : Data) × HoldsSchemas input d × IsMergedAs extensions d due

-- the same of what an object holds
abbrev pub HoldsMerged : Contents → List (List ℕ) → List ℕ → Type 0
HoldsMerged c extensions due = (d : Data) × HoldsValue c (codes "schemas") d × IsMergedAs extensions d due

abbrev pub HoldsUnmerged : Contents → List (List ℕ) → List ℕ → Type 0
HoldsUnmerged c extensions told = (d : Data) × HoldsValue c (codes "schemas") d × TellsUnlisted extensions d told

-- what is told of any other input
abbrev pub TellsMerging : List ℕ → List (List ℕ) → List ℕ → Type 0
TellsMerging input extensions told = TellsEnvelope [] (codes "schemas" ∷ []) input told ⊎ ((d : Data) × HoldsSchemas input d × TellsUnlisted extensions d told)

-- the schemas that the input lists declare fragments; these, whatever their places, have nothing against each other, and what they declare together can be written
abbrev pub IsMergeable : List ℕ → List (List ℕ) → Type 0
IsMergeable input extensions =
    (d : Data) × HoldsSchemas input d
    × ((ts : List (List ℕ)) × AreTexts d ts
    × (((Fs : List Held) × EachDeclares extensions ts Fs)
    × ((Fs : List Held) → EachDeclares extensions ts Fs → Agree Fs × ((F : Held) → Merged Fs F → collisions F ≡ []))))
