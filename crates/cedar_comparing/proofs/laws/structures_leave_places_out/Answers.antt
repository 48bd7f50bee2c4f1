-- SPDX-License-Identifier: Apache-2.0
use Rattle.cedar_comparing.proofs.Declarations.{actions_go, applies_go, commons_go, entities_go, fragments_go, kinds_go, namespaces_go, shapes_go, standards_go, uids_go}
use Rattle.cedar_comparing.proofs.Types.{attributes_go, records_go, types_go, variants_go}
use Rattle.cedar_comparing.proofs.laws.structures_leave_places_out.Goals as goal

pub returns-clause-ty : goal.returns-clause-ty
returns-clause-ty g c = types_go g.row.N g.N.PartialEq g.N.PartialEq-dict (record { laws = g.met.N.PartialEq.laws })

pub returns-clause-variant : goal.returns-clause-variant
returns-clause-variant g c = variants_go g.row.N g.N.PartialEq g.N.PartialEq-dict (record { laws = g.met.N.PartialEq.laws })

pub returns-clause-record_type : goal.returns-clause-record_type
returns-clause-record_type g c = records_go g.row.N g.N.PartialEq g.N.PartialEq-dict (record { laws = g.met.N.PartialEq.laws })

pub returns-clause-attribute : goal.returns-clause-attribute
returns-clause-attribute g c = attributes_go g.row.N g.N.PartialEq g.N.PartialEq-dict (record { laws = g.met.N.PartialEq.laws })

pub returns-clause-shape : goal.returns-clause-shape
returns-clause-shape g c = shapes_go g.row.N g.N.PartialEq g.N.PartialEq-dict (record { laws = g.met.N.PartialEq.laws })

pub returns-clause-common_type : goal.returns-clause-common_type
returns-clause-common_type g c = commons_go g.row.N g.N.PartialEq g.N.PartialEq-dict (record { laws = g.met.N.PartialEq.laws })

pub returns-clause-standard : goal.returns-clause-standard
returns-clause-standard g c = standards_go g.row.N g.N.PartialEq g.N.PartialEq-dict (record { laws = g.met.N.PartialEq.laws })

pub returns-clause-kind : goal.returns-clause-kind
returns-clause-kind g c = kinds_go g.row.N g.N.PartialEq g.N.PartialEq-dict (record { laws = g.met.N.PartialEq.laws })

pub returns-clause-entity_type : goal.returns-clause-entity_type
returns-clause-entity_type g c = entities_go g.row.N g.N.PartialEq g.N.PartialEq-dict (record { laws = g.met.N.PartialEq.laws })

pub returns-clause-applies_to : goal.returns-clause-applies_to
returns-clause-applies_to g c = applies_go g.row.N g.N.PartialEq g.N.PartialEq-dict (record { laws = g.met.N.PartialEq.laws })

pub returns-clause-parent : goal.returns-clause-parent
returns-clause-parent g c bare names = uids_go g.row.N g.N.PartialEq g.N.PartialEq-dict (record { laws = g.met.N.PartialEq.laws }) bare names g.N.RefName g.N.RefName-dict

pub returns-clause-action : goal.returns-clause-action
returns-clause-action g c bare names = actions_go g.row.N g.N.PartialEq g.N.PartialEq-dict (record { laws = g.met.N.PartialEq.laws }) bare names g.N.RefName g.N.RefName-dict

pub returns-clause-namespace : goal.returns-clause-namespace
returns-clause-namespace g c bare names = namespaces_go g.row.N g.N.PartialEq g.N.PartialEq-dict (record { laws = g.met.N.PartialEq.laws }) bare names g.N.RefName g.N.RefName-dict

pub returns-clause-fragment : goal.returns-clause-fragment
returns-clause-fragment g c bare names = fragments_go g.row.N g.N.PartialEq g.N.PartialEq-dict (record { laws = g.met.N.PartialEq.laws }) bare names g.N.RefName g.N.RefName-dict
