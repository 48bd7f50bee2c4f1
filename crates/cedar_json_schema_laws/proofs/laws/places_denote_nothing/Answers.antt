-- SPDX-License-Identifier: Apache-2.0
use Rattle.cedar_json_schema_laws.proofs.WorldsUnplaced.{world_alike}
use Rattle.cedar_json_schema_laws.proofs.laws.places_denote_nothing.Goals as goal

pub returns-clause-world : goal.returns-clause-world
returns-clause-world c = world_alike
