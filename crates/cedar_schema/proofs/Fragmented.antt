-- SPDX-License-Identifier: Apache-2.0
-- The definitions of a fragment, as it is held, are of the namespaces that it declares, and their faults are its faults.
use Rattle.std.proofs.Common.{◌≡◌, [], map, Result, Ok, Err, IfOk, subst}
use Rattle.cedar_fragment_world.specs.of_convert_fragment.Views.{fragment_seen}
use Rattle.cedar_data.specs.Answers.{IfRefused}
use Rattle.cedar_data.specs.Firsts.{IsFirst}
use Rattle.cedar_data.specs.declared.memory.Failure.{Failure}
use Rattle.cedar_fragment_world.specs.of_definitions.Structures.{definitions_of}
use Rattle.cedar_fragment.specs.ActionUids.{over_raw}
use Rattle.cedar_fragment.specs.declared.definitions.Fragment as held
use Rattle.cedar_fragment_world.proofs.FaultsSeen.{faults_alike}
use Rattle.cedar_fragment_world.proofs.NamespacesSeen.{namespaces_are}
use Rattle.cedar_fragment_world.specs.FragmentFaults.{fragment_faults}
use Rattle.cedar_fragment_world.specs.FragmentWorlds.{namespaces_of}
use Rattle.cedar_fragment_world.specs.of_namespace_definitions.Definitions.{AreDefinitionsOf}
use Rattle.cedar_fragment_world.specs.of_namespace_definitions.Faults as defined
use Rattle.cedar_phases.specs.Holding as phases
use Rattle.cedar_schema_error.specs.Told.{told}
use Rattle.cedar_schema_error.specs.declared.action_behavior.ActionBehavior.TheVariants.{ProhibitAttributes}
use Rattle.cedar_schema_error.specs.declared.schema_error.SchemaError.{SchemaError}
use Rattle.cedar_fragment_world.specs.of_world.DefinitionViews.{namespace_in}
use Rattle.cedar_written.specs.declared.raw_name.RawName.{RawName}

-- the faults of a fragment, as it is held and as it is declared
module _ (f : held.Fragment RawName over_raw) where
  same_faults : defined.fragment_faults ProhibitAttributes f ≡ fragment_faults ProhibitAttributes (fragment_seen f)
  same_faults = faults_alike ProhibitAttributes f.0

  -- the definitions are of its namespaces
  pub namespaces_made : (r : Result phases.Definitions (Failure SchemaError)) → IfOk r (λ made. AreDefinitionsOf f.0 (definitions_of made)) → IfOk r (λ made. map namespace_in (definitions_of made) ≡ namespaces_of (fragment_seen f))
  namespaces_made (Ok made) are = namespaces_are f.0 (definitions_of made) are
  namespaces_made (Err e) are = are

  pub no_fault_seen : (r : Result phases.Definitions (Failure SchemaError)) → IfOk r (λ _. defined.fragment_faults ProhibitAttributes f ≡ []) → IfOk r (λ _. fragment_faults ProhibitAttributes (fragment_seen f) ≡ [])
  no_fault_seen r none = subst (λ faults. IfOk r (λ _. faults ≡ [])) same_faults none

  pub first_fault_seen : (r : Result phases.Definitions (Failure SchemaError)) → IfRefused r (λ e. IsFirst (defined.fragment_faults ProhibitAttributes f) (told e)) → IfRefused r (λ e. IsFirst (fragment_faults ProhibitAttributes (fragment_seen f)) (told e))
  first_fault_seen r first = subst (λ faults. IfRefused r (λ e. IsFirst faults (told e))) same_faults first
