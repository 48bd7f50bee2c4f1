-- SPDX-License-Identifier: Apache-2.0
-- Definitions of namespaces, as lists.
use Rattle.std.specs.Prelude.{List}
use Rattle.cedar_written.specs.declared.ref_name.RefName as ref_name
use Rattle.cedar_definitions.specs.declared.structures.ValidatorNamespaceDef.{ValidatorNamespaceDef}
use Rattle.cedar_definitions.specs.declared.structures.ValidatorSchemaFragment.{ValidatorSchemaFragment}

module _ {N A : Type 0} {R : ref_name.Ghosts N} where
  -- the definitions of a fragment
  abbrev pub definitions_of : ValidatorSchemaFragment N A R → List (ValidatorNamespaceDef N A R)
  definitions_of f = f.0
