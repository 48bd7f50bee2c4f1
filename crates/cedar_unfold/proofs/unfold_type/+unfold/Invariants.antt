-- SPDX-License-Identifier: Apache-2.0
use Rattle.std.proofs.Common.{◌+◌, ◌*◌}
use Rattle.std.specs.Option.{option_copied}
use Rattle.cedar_names.specs.Extensions.{extension_words}
use Rattle.cedar_names.specs.of_text.Words.{has_word}
use Rattle.cedar_unfold.specs.Following.{following}
use Rattle.cedar_unfold.specs.Heads.{attributes_of}
use Rattle.cedar_unfold.specs.Notes.{noted}
use Rattle.cedar_unfold.specs.Tables.{is_tabled, tabled}
use Rattle.cedar_unfolding.specs.Written.{nodes, attribute_nodes}
use Rattle.cedar_unfold.proofs.Joins.{Joining}
use Rattle.cedar_unfold.proofs.Noting.{Noting}
use Rattle.cedar_unfold.proofs.unfold_type.+unfold.Given as goal

-- how much is written, where the attributes of a record come after its own look
abbrev pub decreases-unfolded : goal.decreases-unfolded
decreases-unfolded g l = 2 * nodes (g.T.TypeNode.written l.ty.now)

abbrev pub decreases-unfolded_record : goal.decreases-unfolded_record
decreases-unfolded_record g l = 2 * attribute_nodes (attributes_of (g.T.TypeNode.written l.record_type.now)) + 1

-- the attributes up to `after` are joined and their faults noted, and the looks at the others are still to come
abbrev pub invariant-unfolded_record-loop-name : goal.invariant-unfolded_record-loop-name
invariant-unfolded_record-loop-name g l =
    Joining (tabled l.table) (attributes_of (g.T.TypeNode.written l.record_type)) (option_copied l.after) l.made l.depth l.is_whole
    × Noting (is_tabled (tabled l.table)) (has_word (extension_words l.extensions)) (attributes_of (g.T.TypeNode.written l.record_type)) (noted l.fn.fault) l.fn.steps (option_copied l.after) (noted l.fault) l.steps

abbrev pub decreases-unfolded_record-loop-name : goal.decreases-unfolded_record-loop-name
decreases-unfolded_record-loop-name g l = attribute_nodes (following (option_copied l.after) (attributes_of (g.T.TypeNode.written l.record_type)))
