-- SPDX-License-Identifier: Apache-2.0
use Rattle.std.proofs.Common.{sym, arith}
use Rattle.cedar_names.specs.Extensions.{extension_words}
use Rattle.cedar_names.specs.of_text.Words.{has_word}
use Rattle.cedar_unfold.specs.Heads.{attributes_of}
use Rattle.cedar_unfold.specs.Notes.{noted}
use Rattle.cedar_unfold.specs.Tables.{names_of}
use Rattle.cedar_unfold.proofs.Surveying.{Surveying-start, Surveying-next, Surveying-part, Surveying-less}
use Rattle.cedar_unfold.proofs.survey.+survey.Goals as goal

pub survey_record-loop-name-init : goal.survey_record-loop-name-init
survey_record-loop-name-init g t c = Surveying-start (names_of c.args.keys.now) (has_word (extension_words c.args.extensions.now)) (attributes_of (g.T.TypeNode.written c.args.record_type.now)) c.args.row.now (noted c.args.fault.now) c.args.steps.now

pub survey_record-survey-requires : goal.survey_record-survey-requires
survey_record-survey-requires g t c κs within =
    let part = Surveying-part (names_of c.args.keys.now) (has_word (extension_words c.args.extensions.now)) c.loop-name.invariant c.in-Some.name.now (g.T.TypeNode.written c.in-Some.part.now) c.in-Some.field-0-2 c.in-Some.ensures.ordered (sym c.in-Some.ensures.next) in
    (omega (arith, part, c.decreases), (within.0, (within.1, c.requires.sorted)))

pub survey_record-loop-name-smaller : goal.survey_record-loop-name-smaller
survey_record-loop-name-smaller g t c = Surveying-less (names_of c.args.keys.now) (has_word (extension_words c.args.extensions.now)) c.loop-name.invariant c.in-Some.name.now (g.T.TypeNode.written c.in-Some.part.now) c.in-Some.field-0-2 c.in-Some.ensures.ordered (sym c.in-Some.ensures.next)

pub survey_record-loop-name-preserved : goal.survey_record-loop-name-preserved
survey_record-loop-name-preserved g t c =
    Surveying-next (names_of c.args.keys.now) (has_word (extension_words c.args.extensions.now)) c.loop-name.invariant c.in-Some.name.now (g.T.TypeNode.written c.in-Some.part.now) c.in-Some.field-0-2 c.in-Some.ensures.ordered (sym c.in-Some.ensures.next)
    c.survey.new.row (noted c.survey.new.fault) c.survey.new.steps c.in_ok-survey.ensures.row c.in_ok-survey.ensures.fault c.survey.ensures.counts
