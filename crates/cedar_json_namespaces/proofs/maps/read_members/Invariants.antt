-- SPDX-License-Identifier: Apache-2.0
use Rattle.cedar_json_types.specs.Faults.{entry_fault}
use Rattle.cedar_json_types.specs.Shapes.{Entry}
use Rattle.cedar_json_types.proofs.MemberLoops.{ReadsMembers}
use Rattle.cedar_json_namespaces.proofs.maps.read_members.Given as goal

-- the members so far are read, and none had a fault
abbrev pub invariant-loop-key : goal.invariant-loop-key
invariant-loop-key g l = ReadsMembers g.K.Ord.cmp (Entry g.K.JsonKey.named g.V.ReadDeclaration.shapes) (entry_fault g.K.JsonKey.key_fault g.V.ReadDeclaration.fault) l.members.entries l.key-iterator l.read
