-- SPDX-License-Identifier: Apache-2.0
use Rattle.std.specs.Option.{option_map}
use Rattle.cedar_data.proofs.Progress.{Aligned}
use Rattle.cedar_names.specs.Names.{internal_of}
use Rattle.cedar_namespace_definitions.specs.Definitions.{IsDefinitionOf}
use Rattle.cedar_namespace_definitions.specs.Faults.{definition_faults}
use Rattle.cedar_namespace_definitions.proofs.Faultless.{Faultless}
use Rattle.cedar_namespace_definitions.proofs.fragments.definitions_in.Given as goal

-- the namespaces so far have no faults, and are defined
abbrev pub invariant-loop-name : goal.invariant-loop-name
invariant-loop-name l =
    Faultless (λ n. definition_faults l.fn.action_behavior (option_map internal_of n.0) n.1) l.fn.fragment.0 l.name-iterator
    × Aligned (λ n d. IsDefinitionOf (option_map internal_of n.0) n.1 d) l.fn.fragment.0 l.name-iterator l.definitions.items
