-- SPDX-License-Identifier: Apache-2.0
-- What the error of a closure of actions is of a schema.
use Rattle.cedar_fragment.specs.of_closure.declared.tc_error.TcError.{TcError}
use Rattle.cedar_fragment.specs.of_closure.declared.tc_error.TcError.TheVariants.{HasCycle, MissingTcEdge}
use Rattle.cedar_names.specs.declared.entity_uid.EntityUID.{EntityUID}
use Rattle.cedar_schema_error.specs.declared.schema_error.SchemaError.{SchemaError}
use Rattle.cedar_schema_error.specs.declared.schema_error.SchemaError.TheVariants.{ActionTransitiveClosure, CycleInActionHierarchy}

-- a cycle tells its member; a missing edge is kept as it is
abbrev pub action_error : TcError EntityUID → SchemaError
action_error (HasCycle vertex) = CycleInActionHierarchy (record { uid = vertex })
action_error (MissingTcEdge vertex) = ActionTransitiveClosure (record { error = MissingTcEdge vertex })
