-- SPDX-License-Identifier: Apache-2.0
-- The request environments of a schema, and which values in JSON are requests in them. Nothing is said of order of checks or of faults.
use Rattle.std.specs.Prelude.{◌≡◌, ⊤, ℕ, ◌-◌, ◌^◌, min, List, [], ◌∷◌, codes, map, slice_get, Some}
use Rattle.std.specs.List.{flat_map}
use Rattle.serde_json.specs.Data.{Data, array, Items, no_items, item}
use Rattle.cedar_json_types.specs.Shapes.{Keyed}
use Rattle.cedar_schema_error.specs.FullNames.{FullName, Uid}
use Rattle.cedar_unfold.specs.Resolved.{Resolved}
use Rattle.cedar_conform.specs.of_world.Schemas.{Schema, SchemaAction}
use Rattle.cedar_conform.specs.Fits.{Fits, RefersTo}
use Rattle.cedar_conform.specs.References.{At, IsReference}

-- ---- environments

-- what a request may be of: which principals take which action on which resources, in which context
pub record Environment : Type 0 where
  pub principal : FullName
  pub action : Uid
  pub resource : FullName
  pub context : Resolved

-- the environment of an action with a principal and a resource
abbrev pub environment : Uid × SchemaAction → FullName → FullName → Environment
environment a principal resource = record { principal = principal; action = a.0; resource = resource; context = a.1.context }

-- the environments of an action with a principal: each of its resources in order
abbrev pub environments_with : Uid × SchemaAction → FullName → List Environment
environments_with a principal = map (environment a principal) a.1.resources

-- the environments of an action: for each of its principals in order, each of its resources in order
abbrev pub environments_of : Uid × SchemaAction → List Environment
environments_of a = flat_map (environments_with a) a.1.principals

-- the environments of a schema, action by action
abbrev pub environments : Schema → List Environment
environments S = flat_map environments_of S.actions

-- ---- requests

-- the keys of a request
abbrev pub request_keys : List (List ℕ)
request_keys = codes "principal" ∷ codes "action" ∷ codes "resource" ∷ codes "context" ∷ []

-- a number, or the greatest of 64 bits where it is greater
abbrev pub in_64_bits : ℕ → ℕ
in_64_bits i = min i (2 ^ 64 - 1)

module _ (S : Schema) where
  -- the value is a request in the environment: its principal and its resource are entities of these types that the schema knows, its action is this one, and its context fits this type
  abbrev pub IsIn : Environment → Data → Type 0
  IsIn env d =
      Keyed request_keys d
      × At (codes "principal") (RefersTo S env.principal) d
      × At (codes "action") (λ e. IsReference e env.action) d
      × At (codes "resource") (RefersTo S env.resource) d
      × At (codes "context") (Fits S env.context) d

  -- the value is a request in the environment of this number, counted from 0
  abbrev pub IsRequest : Data → ℕ → Type 0
  IsRequest d i = (env : Environment) × (slice_get (environments S) i ≡ Some env) × IsIn env d

  -- the value is a request in an environment of which this is the number in 64 bits
  abbrev pub IsNumbered : Data → ℕ → Type 0
  IsNumbered d n = (i : ℕ) × IsRequest d i × (n ≡ in_64_bits i)

  -- the items are requests in the environments of these numbers, in order
  abbrev pub EachRequest : Items → List ℕ → Type 0
  EachRequest no_items [] = ⊤
  EachRequest no_items (n ∷ ns) = ⊥
  EachRequest (item d ds) [] = ⊥
  EachRequest (item d ds) (n ∷ ns) = IsNumbered d n × EachRequest ds ns

-- the value is a list of requests in the environments of these numbers
abbrev pub AreRequests : Schema → Data → List ℕ → Type 0
AreRequests S d ns = (ds : Items) × (d ≡ array ds) × EachRequest S ds ns
