-- SPDX-License-Identifier: Apache-2.0
-- Names that are declared alike.
use Rattle.std.specs.Prelude.{◌≡◌}
use Rattle.cedar_missing.specs.of_declared.Names.{Names, is_action, is_common, is_entity}
use Rattle.cedar_schema_error.specs.FullNames.{FullName, Uid}

-- the same names are declared, of each kind
pub record AgreeingNames (a b : Names) : Type 0 where
  pub entity : (name : FullName) → is_entity a name ≡ is_entity b name
  pub common : (name : FullName) → is_common a name ≡ is_common b name
  pub action : (uid : Uid) → is_action a uid ≡ is_action b uid
