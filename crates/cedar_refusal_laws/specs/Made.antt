-- SPDX-License-Identifier: Apache-2.0
-- Definitions that come of declarations.
use Rattle.std.specs.Prelude.{Option}
use Rattle.cedar_names.specs.declared.internal_name.InternalName.{InternalName}
use Rattle.cedar_written.specs.declared.raw_name.RawName.{RawName}
use Rattle.cedar_fragment.specs.ActionUids.{over_raw}
use Rattle.cedar_fragment.specs.declared.definitions.NamespaceDefinition.{NamespaceDefinition}
use Rattle.cedar_fragment_world.specs.of_namespace_definitions.Definitions.{IsDefinitionOf}
use Rattle.cedar_phases.specs.Holding.{Definition}

-- the definition is that of some declarations, in some namespace
pub record IsMade (d : Definition) : Type 0 where
  pub namespace : Option InternalName
  pub declarations : NamespaceDefinition RawName over_raw
  pub is : IsDefinitionOf namespace declarations d
