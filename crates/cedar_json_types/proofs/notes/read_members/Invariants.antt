-- SPDX-License-Identifier: Apache-2.0
use Rattle.cedar_names.specs.Annotating.{annotation_entries, any_cmp}
use Rattle.cedar_json_types.specs.Faults.{entry_fault}
use Rattle.cedar_json_types.specs.Parts.{any_id_fault, annotation_fault, IdentifiesAny, IsAnnotation}
use Rattle.cedar_json_types.specs.Shapes.{Entry}
use Rattle.cedar_json_types.proofs.MemberLoops.{ReadsMembers}
use Rattle.cedar_json_types.proofs.notes.read_members.Given as goal

-- the members so far are read, and none had a fault
abbrev pub invariant-loop-key : goal.invariant-loop-key
invariant-loop-key l = ReadsMembers any_cmp (Entry IdentifiesAny IsAnnotation) (entry_fault any_id_fault annotation_fault) l.members.entries l.key-iterator (annotation_entries l.read)
