-- SPDX-License-Identifier: Apache-2.0
-- A step changes the names of declarations, and nothing else.
use Rattle.std.proofs.Common.{◌≡◌, IfOk}
use Rattle.std.specs.declared.result.Result.{Result}
use Rattle.std.specs.declared.result.Result.TheVariants.{Ok, Err}
use Rattle.cedar_written.specs.Answers.{Answers, Makes}
use Rattle.cedar_written.specs.Bare.{nameless}
use Rattle.cedar_written.specs.Reference.{Reference}
use Rattle.cedar_written.specs.declared.ref_name.RefName as ref_name
use Rattle.cedar_written.proofs.Same.{at_ok, nothing}
use Rattle.cedar_types.specs.of_data.declared.memory.Failure.{Failure}
use Rattle.cedar_fragment.specs.Definitions.{bare_namespace, over_nothing, through_namespace}
use Rattle.cedar_fragment.specs.declared.definitions.NamespaceDefinition.{NamespaceDefinition}
use Rattle.cedar_fragment.proofs.Keeps.{namespace_kept}

module _ {N M E : Type 0} (R : ref_name.Ghosts N) (R' : ref_name.Ghosts M) (s : Reference N → Result M E) where
  pub namespace_same : (n : NamespaceDefinition N R) (n' : NamespaceDefinition M R') → through_namespace R R' s n ≡ Ok n' → bare_namespace n' ≡ bare_namespace n
  namespace_same n n' is = at_ok (through_namespace R R' s n) n' (λ n'. bare_namespace n' ≡ bare_namespace n) is (namespace_kept R R' over_nothing s nameless nameless (nothing s) n)

  -- all else is equal, where the step never refuses
  pub namespace_same_made : {X : Type 0} (n : NamespaceDefinition N R) (r : Result (NamespaceDefinition M R') X) → Makes r (through_namespace R R' s n) → IfOk r (λ n'. bare_namespace n' ≡ bare_namespace n)
  namespace_same_made n (Ok n') is = namespace_same n n' is
  namespace_same_made n (Err e) is = tt

  -- the same where it may refuse
  pub namespace_same_if : (n : NamespaceDefinition N R) (r : Result (NamespaceDefinition M R') (Failure E)) → Answers r (through_namespace R R' s n) → IfOk r (λ n'. bare_namespace n' ≡ bare_namespace n)
  namespace_same_if n (Ok n') is = namespace_same n n' is
  namespace_same_if n (Err e) is = tt

pub ruleset same = (namespace_same_made, namespace_same_if)
