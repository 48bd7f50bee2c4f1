-- SPDX-License-Identifier: Apache-2.0
use Rattle.cedar_comparing.proofs.Names.{conditionals_go, entity_names_go, entity_uids_go, internals_go, paths_go, raws_go}
use Rattle.cedar_comparing.proofs.laws.names_leave_places_out.Goals as goal

pub returns-clause-internal : goal.returns-clause-internal
returns-clause-internal c = internals_go

pub returns-clause-path : goal.returns-clause-path
returns-clause-path c = paths_go

pub returns-clause-entity_type : goal.returns-clause-entity_type
returns-clause-entity_type c = entity_names_go

pub returns-clause-uid : goal.returns-clause-uid
returns-clause-uid c = entity_uids_go

pub returns-clause-raw : goal.returns-clause-raw
returns-clause-raw c = raws_go

pub returns-clause-conditional : goal.returns-clause-conditional
returns-clause-conditional c = conditionals_go
