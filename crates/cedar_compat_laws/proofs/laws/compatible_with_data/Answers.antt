-- SPDX-License-Identifier: Apache-2.0
use Rattle.cedar_compat.specs.of_checks.SchemaViews.{schema_in}
use Rattle.cedar_compat_laws.proofs.EntitiesStay.{accepted-stay}
use Rattle.cedar_compat_laws.proofs.laws.compatible_with_data.Goals as goal

pub returns-clause-data : goal.returns-clause-data
returns-clause-data c = accepted-stay (schema_in c.args.old.now) (schema_in c.args.new.now) c.compatible.result c.compatible.ensures.fits c.names_differ.ensures.entity_types
