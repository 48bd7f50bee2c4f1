-- SPDX-License-Identifier: Apache-2.0
-- What is said of requests that are none.
use Rattle.std.specs.Prelude.{ℕ, List, ◌++◌, codes, decimal}
use Rattle.cedar_names.specs.EntityUids.{uid_text}
use Rattle.cedar_names.specs.declared.entity_uid.EntityUID.{EntityUID}
use Rattle.cedar_names.specs.declared.name.EntityType.{EntityType}
use Rattle.cedar_conform_fault.specs.FaultTexts.{fault_text, type_text}
use Rattle.cedar_request.specs.declared.fault.RequestFault.{RequestFault}
use Rattle.cedar_request.specs.declared.fault.RequestFault.TheVariants as fault

-- the type is none of those of the action that this word names
abbrev pub not_allowed_text : ℕ → EntityType → List ℕ → EntityUID → List ℕ
not_allowed_text place ty word action = codes "at " ++ decimal place ++ codes ": `" ++ type_text ty ++ codes "`" ++ (codes " is not a " ++ word ++ codes " type of " ++ uid_text action)

abbrev pub request_fault_text : RequestFault → List ℕ
request_fault_text (fault.Value f) = fault_text f
request_fault_text (fault.UnknownAction place uid) = codes "at " ++ decimal place ++ (codes ": unknown action " ++ uid_text uid)
request_fault_text (fault.PrincipalNotAllowed place action ty) = not_allowed_text place ty (codes "principal") action
request_fault_text (fault.ResourceNotAllowed place action ty) = not_allowed_text place ty (codes "resource") action
