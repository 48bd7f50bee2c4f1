-- SPDX-License-Identifier: Apache-2.0
use Rattle.cedar_names.specs.Extensions.{extension_words}
use Rattle.cedar_names.specs.of_text.Words.{has_word}
use Rattle.cedar_unfold.specs.Notes.{noted}
use Rattle.cedar_unfold.specs.Tables.{by_name, names_of}
use Rattle.cedar_unfold.proofs.Surveying.{Surveyed}
use Rattle.cedar_unfold.proofs.survey.survey_definitions.Given as goal

-- the definitions that are left are still to be walked
abbrev pub invariant-loop-ty : goal.invariant-loop-ty
invariant-loop-ty g l =
    Surveyed (names_of l.keys) (has_word (extension_words l.extensions)) (by_name g.T.TypeNode.written l.defs) (noted l.fn.fault) l.fn.steps (by_name g.T.TypeNode.written l.ty-iterator) l.rows.items (noted l.fault) l.steps
