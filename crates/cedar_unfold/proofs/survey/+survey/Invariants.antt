-- SPDX-License-Identifier: Apache-2.0
use Rattle.std.proofs.Common.{◌+◌, ◌*◌}
use Rattle.std.specs.Option.{option_copied}
use Rattle.cedar_names.specs.Extensions.{extension_words}
use Rattle.cedar_names.specs.of_text.Words.{has_word}
use Rattle.cedar_unfold.specs.Following.{following}
use Rattle.cedar_unfold.specs.Heads.{attributes_of}
use Rattle.cedar_unfold.specs.Notes.{noted}
use Rattle.cedar_unfold.specs.Tables.{names_of}
use Rattle.cedar_unfolding.specs.Written.{nodes, attribute_nodes}
use Rattle.cedar_unfold.proofs.Surveying.{Surveying}
use Rattle.cedar_unfold.proofs.survey.+survey.Given as goal

-- how much is written, where the attributes of a record come after its own look
abbrev pub decreases-survey : goal.decreases-survey
decreases-survey g l = 2 * nodes (g.T.TypeNode.written l.ty.now)

abbrev pub decreases-survey_record : goal.decreases-survey_record
decreases-survey_record g l = 2 * attribute_nodes (attributes_of (g.T.TypeNode.written l.record_type.now)) + 1

-- the attributes up to `after` were walked
abbrev pub invariant-survey_record-loop-name : goal.invariant-survey_record-loop-name
invariant-survey_record-loop-name g l =
    Surveying (names_of l.keys) (has_word (extension_words l.extensions)) (attributes_of (g.T.TypeNode.written l.record_type)) l.fn.row (noted l.fn.fault) l.fn.steps (option_copied l.after) l.row (noted l.fault) l.steps

abbrev pub decreases-survey_record-loop-name : goal.decreases-survey_record-loop-name
decreases-survey_record-loop-name g l = attribute_nodes (following (option_copied l.after) (attributes_of (g.T.TypeNode.written l.record_type)))
