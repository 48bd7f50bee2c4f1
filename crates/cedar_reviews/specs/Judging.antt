-- SPDX-License-Identifier: Apache-2.0
-- Whether the data that an input holds is right by the schema that it holds, and what is written or told of it.
use Rattle.std.specs.Prelude.{◌≡◌, ◌⊎◌, ℕ, List, [], ◌∷◌, ◌++◌, codes, decimal, flat_map, Err}
use Rattle.serde_json.specs.Data.{Data}
use Rattle.cedar_conform.specs.Entities.{AreEntities}
use Rattle.cedar_conform.specs.EntityChecks.{entities_check}
use Rattle.cedar_conform_fault.specs.FaultTexts.{fault_text}
use Rattle.cedar_conform_fault.specs.Flaws.{misfit}
use Rattle.cedar_conform_fault.specs.declared.fault.Fault.{Fault}
use Rattle.cedar_envelope.specs.Envelopes.{Contents, HoldsText, HoldsValue}
use Rattle.cedar_request.specs.FaultTexts.{request_fault_text}
use Rattle.cedar_request.specs.RequestChecks.{requests_check}
use Rattle.cedar_request.specs.RequestFlaws.{request_flaw}
use Rattle.cedar_request.specs.Requests.{AreRequests}
use Rattle.cedar_request.specs.declared.fault.RequestFault.{RequestFault}
use Rattle.cedar_world.specs.Schemas.{Schema}
use Rattle.cedar_reviews.specs.Holding.{Denotes, HoldsTextAndValue, TellsEnvelope, TellsNoSchema}
use Rattle.cedar_reviews.specs.Refusal.{error_line}
use Rattle.cedar_reviews.specs.declared.judged.Judged.{Judged}
use Rattle.cedar_reviews.specs.declared.judged.Judged.TheVariants.{Entities, Requests}

-- ---- what is judged

-- the key at which it stands
abbrev pub judged_key : Judged → List ℕ
judged_key Entities = codes "entities"
judged_key Requests = codes "requests"

-- the line of a request: the number of its environment
abbrev pub environment_line : ℕ → List ℕ
environment_line n = codes "env " ++ decimal n ++ codes "\n"

abbrev pub environment_lines : List ℕ → List ℕ
environment_lines ns = flat_map environment_line ns

-- the value is right by the schema, and this is written of it
abbrev pub IsRight : Judged → Schema → Data → List ℕ → Type 0
IsRight Entities S d due = AreEntities S d × (due ≡ codes "conforms\n")
IsRight Requests S d due = (ns : List ℕ) × AreRequests S d ns × (due ≡ environment_lines ns)

-- the first fault of the value is told
abbrev pub TellsFault : Judged → Schema → Data → List ℕ → Type 0
TellsFault Entities S d told = (fault : Fault) × (entities_check S d ≡ Err (misfit fault)) × (told ≡ error_line (fault_text fault))
TellsFault Requests S d told = (fault : RequestFault) × (requests_check S d ≡ Err (request_flaw fault)) × (told ≡ error_line (request_fault_text fault))

-- ---- with a schema

-- the text denotes a schema by which the value is right, and this is written of it
abbrev pub IsRightBy : Judged → List ℕ → List (List ℕ) → Data → List ℕ → Type 0
IsRightBy judged text extensions d due = (S : Schema) × Denotes text extensions S × IsRight judged S d due

-- the text denotes no schema, or the first fault is told
abbrev pub TellsWrong : Judged → List ℕ → List (List ℕ) → Data → List ℕ → Type 0
TellsWrong judged text extensions d told = TellsNoSchema text extensions told ⊎ ((S : Schema) × Denotes text extensions S × TellsFault judged S d told)

-- the same of what an object holds
abbrev pub HoldsRight : Judged → Contents → List (List ℕ) → List ℕ → Type 0
HoldsRight judged c extensions due =
    (text : List ℕ) × (d : Data) × HoldsText c (codes "schema") text × HoldsValue c (judged_key judged) d × IsRightBy judged text extensions d due

abbrev pub HoldsWrong : Judged → Contents → List (List ℕ) → List ℕ → Type 0
HoldsWrong judged c extensions told =
    (text : List ℕ) × (d : Data) × HoldsText c (codes "schema") text × HoldsValue c (judged_key judged) d × TellsWrong judged text extensions d told

-- ---- of an input

-- what is written of an input whose data is right by its schema
abbrev pub MakesJudgement : Judged → List ℕ → List (List ℕ) → List ℕ → Type 0
MakesJudgement judged input extensions due =
    (text : List ℕ) × (d : Data) × HoldsTextAndValue (codes "schema") (judged_key judged) input text d × IsRightBy judged text extensions d due

-- what is told of one that is no such object, or whose schema or data has a fault
abbrev pub TellsJudgement : Judged → List ℕ → List (List ℕ) → List ℕ → Type 0
TellsJudgement judged input extensions told =
    TellsEnvelope (codes "schema" ∷ []) (judged_key judged ∷ []) input told
    ⊎ ((text : List ℕ) × (d : Data) × HoldsTextAndValue (codes "schema") (judged_key judged) input text d × TellsWrong judged text extensions d told)

-- the input's data is right by its schema
abbrev pub Passes : Judged → List ℕ → List (List ℕ) → Type 0
Passes judged input extensions = (due : List ℕ) × MakesJudgement judged input extensions due
