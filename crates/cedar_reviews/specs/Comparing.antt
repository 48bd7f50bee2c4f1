-- SPDX-License-Identifier: Apache-2.0
-- Whether the new schema that an input holds takes what the old one takes, and what is told of it.
use Rattle.std.specs.Prelude.{◌≡◌, ◌⊎◌, ℕ, List, [], ◌∷◌, codes, Err}
use Rattle.cedar_compat.specs.BreakChecks.{schema_check}
use Rattle.cedar_compat.specs.Changes.{type_break}
use Rattle.cedar_compat.specs.Compatible.{Compatible}
use Rattle.cedar_compat.specs.FaultTexts.{fault_text}
use Rattle.cedar_compat.specs.declared.fault.CompatFault.{CompatFault}
use Rattle.cedar_envelope.specs.Envelopes.{Contents, HoldsText, IsEnvelope}
use Rattle.cedar_world.specs.Schemas.{Schema}
use Rattle.cedar_reviews.specs.Holding.{Denotes, TellsEnvelope, TellsLabelled}
use Rattle.cedar_reviews.specs.Refusal.{error_line}

-- the keys of the two schemas
abbrev pub schema_keys : List (List ℕ)
schema_keys = codes "old" ∷ codes "new" ∷ []

-- the input holds these texts of an old schema and of a new one
abbrev pub HoldsTexts : List ℕ → List ℕ → List ℕ → Type 0
HoldsTexts input old new = (c : Contents) × IsEnvelope input schema_keys [] c × HoldsText c (codes "old") old × HoldsText c (codes "new") new

-- both texts denote schemas, and the new one takes what the old one takes
abbrev pub AreCompatible : List ℕ → List ℕ → List (List ℕ) → Type 0
AreCompatible old new extensions = (S R : Schema) × Denotes old extensions S × Denotes new extensions R × Compatible S R

-- the first break is told
abbrev pub TellsBreak : Schema → Schema → List ℕ → Type 0
TellsBreak S R told = (fault : CompatFault) × (schema_check S R ≡ Err (type_break fault)) × (told ≡ error_line (fault_text fault))

-- with the old schema, the new text denotes none, or the first break is told
abbrev pub TellsNew : Schema → List ℕ → List (List ℕ) → List ℕ → Type 0
TellsNew S new extensions told = TellsLabelled (codes "new: ") new extensions told ⊎ ((R : Schema) × Denotes new extensions R × TellsBreak S R told)

-- the old text denotes no schema, or else what is told of the new one
abbrev pub TellsIncompatible : List ℕ → List ℕ → List (List ℕ) → List ℕ → Type 0
TellsIncompatible old new extensions told = TellsLabelled (codes "old: ") old extensions told ⊎ ((S : Schema) × Denotes old extensions S × TellsNew S new extensions told)

-- the new schema that the input holds takes what the old one takes
abbrev pub IsComparable : List ℕ → List (List ℕ) → Type 0
IsComparable input extensions = (old new : List ℕ) × HoldsTexts input old new × AreCompatible old new extensions

-- what is written of an input whose new schema takes what the old one takes
abbrev pub MakesComparison : List ℕ → List (List ℕ) → List ℕ → Type 0
MakesComparison input extensions due = IsComparable input extensions × (due ≡ codes "compatible\n")

-- what is told of any other
abbrev pub TellsComparison : List ℕ → List (List ℕ) → List ℕ → Type 0
TellsComparison input extensions told =
    TellsEnvelope schema_keys [] input told ⊎ ((old new : List ℕ) × HoldsTexts input old new × TellsIncompatible old new extensions told)

-- ---- the same of what is held

abbrev pub HoldsCompatible : Contents → List (List ℕ) → List ℕ → Type 0
HoldsCompatible c extensions due =
    ((old new : List ℕ) × HoldsText c (codes "old") old × HoldsText c (codes "new") new × AreCompatible old new extensions) × (due ≡ codes "compatible\n")

abbrev pub HoldsIncompatible : Contents → List (List ℕ) → List ℕ → Type 0
HoldsIncompatible c extensions told =
    (old new : List ℕ) × HoldsText c (codes "old") old × HoldsText c (codes "new") new × TellsIncompatible old new extensions told
