-- SPDX-License-Identifier: Apache-2.0
-- What is wrong with requests, by the words of names.
use Rattle.std.specs.Prelude.{ℕ}
use Rattle.cedar_names.specs.Names.{entity_words}
use Rattle.cedar_schema_error.specs.FullNames.{FullName, Uid, uid_in}
use Rattle.cedar_conform_fault.specs.Flaws.{Misfit, misfit}
use Rattle.cedar_request.specs.declared.fault.RequestFault.{RequestFault}
use Rattle.cedar_request.specs.declared.fault.RequestFault.TheVariants as fault

-- what is wrong with requests
pub data RequestFlaw : Type 0 where
  -- a value doesn't fit
  value : Misfit → RequestFlaw
  -- the request's place, and its action
  unknown_action : ℕ → Uid → RequestFlaw
  -- the request's place, its action, and the type of its principal
  no_principal : ℕ → Uid → FullName → RequestFlaw
  -- the request's place, its action, and the type of its resource
  no_resource : ℕ → Uid → FullName → RequestFlaw

-- the flaw that a fault tells
abbrev pub request_flaw : RequestFault → RequestFlaw
request_flaw (fault.Value f) = value (misfit f)
request_flaw (fault.UnknownAction place uid) = unknown_action place (uid_in uid)
request_flaw (fault.PrincipalNotAllowed place action ty) = no_principal place (uid_in action) (entity_words ty)
request_flaw (fault.ResourceNotAllowed place action ty) = no_resource place (uid_in action) (entity_words ty)
