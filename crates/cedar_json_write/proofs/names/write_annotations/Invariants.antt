-- SPDX-License-Identifier: Apache-2.0
use Rattle.cedar_names.specs.Annotating.{annotation_entries}
use Rattle.cedar_names.specs.Identifiers.{any_word}
use Rattle.serde_json.specs.View.{members_view}
use Rattle.cedar_json_write.specs.Written.{annotation_json}
use Rattle.cedar_json_write.proofs.Building.{Puts}
use Rattle.cedar_json_write.proofs.names.write_annotations.Given as goal

-- the annotations so far are put in
abbrev pub invariant-loop-key : goal.invariant-loop-key
invariant-loop-key l = Puts any_word annotation_json (annotation_entries l.annotations) l.key-iterator (members_view l.members.entries)
