-- SPDX-License-Identifier: Apache-2.0
use Rattle.std.proofs.Common.{◌≡◌, false, max, refl, sym, ap, ◌∙◌, subst, ◌++◌, ◌∷◌, [], arith}
use Rattle.std.proofs.lemmas.Result.{IfOk-weaker}
use Rattle.std.specs.Cmp.Lexicographic.{slice_cmp}
use Rattle.std.specs.List.Sorted.{IsStrictlySortedBy}
use Rattle.std.specs.Map.{keys_of}
use Rattle.std.specs.Option.{option_copied}
use Rattle.std.specs.Ordering.{nat_cmp}
use Rattle.cedar_names.specs.Components.{components}
use Rattle.cedar_names.specs.Extensions.{extension_words}
use Rattle.cedar_names.specs.of_text.Words.{has_word}
use Rattle.cedar_unfold.specs.Finished.{entity_of, finished, record_of, within}
use Rattle.cedar_unfold.specs.Heads.{attributes_of}
use Rattle.cedar_unfolding.specs.Resolved as resolved_types
use Rattle.cedar_unfold.specs.ResolvedViews.{resolved_map}
use Rattle.cedar_unfold.specs.Notes.{noted}
use Rattle.cedar_unfold.specs.Tables.{found_type, is_tabled, tabled}
use Rattle.cedar_unfold.proofs.FollowingLemmas.{following-part}
use Rattle.cedar_unfold.proofs.Joins.{Joining-start, Joining-next, Joining-sorted, Joining-deep, Joining-end}
use Rattle.cedar_unfold.proofs.Noting.{Noting-start, Noting-next, Noting-less}
use Rattle.cedar_unfold.proofs.NameTables.{either-found, either-missing, common-found, common-missing}
use Rattle.cedar_unfold.proofs.TableFaults.{either-known, either-unknown, common-known, common-unknown}
use Rattle.cedar_unfold.proofs.unfold_type.+unfold.Goals as goal

pub unfolded_record-loop-name-init : goal.unfolded_record-loop-name-init
unfolded_record-loop-name-init g t c =
    let ws = attributes_of (g.T.TypeNode.written c.args.record_type.now) in
    (Joining-start {table = tabled c.args.table.now} ws c.in_ok-made.made c.in_ok-made.ensures, Noting-start (is_tabled (tabled c.args.table.now)) (has_word (extension_words c.args.extensions.now)) ws (noted c.args.fault.now) c.args.steps.now)

pub unfolded_record-unfolded-requires : goal.unfolded_record-unfolded-requires
unfolded_record-unfolded-requires g t c κs within =
    let part = following-part (option_copied c.loop-name.after) (attributes_of (g.T.TypeNode.written c.args.record_type.now)) c.in-Some.name.now (g.T.TypeNode.written c.in-Some.part.now) c.in-Some.required c.in-Some.ensures.ordered (sym c.in-Some.ensures.next) in
    (omega (arith, part, c.decreases), within)

pub unfolded_record-push_last-requires : goal.unfolded_record-push_last-requires
unfolded_record-push_last-requires g t c =
    subst (λ k. IsStrictlySortedBy (slice_cmp nat_cmp) (keys_of c.loop-name.made ++ k ∷ [])) (sym c.in_ok-dup-in-Some-2.ensures)
    (Joining-sorted c.in-Some.name.now (g.T.TypeNode.written c.in-Some.part.now) c.in-Some.required c.loop-name.invariant.0 c.in-Some.ensures.ordered (sym c.in-Some.ensures.next))

pub unfolded_record-loop-name-smaller-in_ok-push_last-in-Some-2 : goal.unfolded_record-loop-name-smaller-in_ok-push_last-in-Some-2
unfolded_record-loop-name-smaller-in_ok-push_last-in-Some-2 g t c = Noting-less (is_tabled (tabled c.args.table.now)) (has_word (extension_words c.args.extensions.now)) c.loop-name.invariant.1 c.in-Some.name.now (g.T.TypeNode.written c.in-Some.part.now) c.in-Some.required c.in-Some.ensures.ordered (sym c.in-Some.ensures.next)

pub unfolded_record-loop-name-smaller : goal.unfolded_record-loop-name-smaller
unfolded_record-loop-name-smaller g t c = Noting-less (is_tabled (tabled c.args.table.now)) (has_word (extension_words c.args.extensions.now)) c.loop-name.invariant.1 c.in-Some.name.now (g.T.TypeNode.written c.in-Some.part.now) c.in-Some.required c.in-Some.ensures.ordered (sym c.in-Some.ensures.next)

pub unfolded_record-loop-name-preserved-in_ok-push_last-in-Some-2 : goal.unfolded_record-loop-name-preserved-in_ok-push_last-in-Some-2
unfolded_record-loop-name-preserved-in_ok-push_last-in-Some-2 g t c = (
  Joining-next c.in-Some.name.now (g.T.TypeNode.written c.in-Some.part.now) c.in-Some.required c.loop-name.invariant.0 c.in-Some.ensures.ordered (sym c.in-Some.ensures.next)
      (record { attr_type = c.in-Some-2.part.ty; is_required = c.in-Some.required }) c.push_last.new.self c.max-depth.result
      (sym c.in_ok-part.ensures.is ∙ ap found_type c.in-Some-2.is)
      refl
      (c.in_ok-push_last-in-Some-2.ensures.ok
      ∙ ap (λ a. c.loop-name.made ++ (c.in_ok-dup-in-Some-2.field-0, a) ∷ []) c.attribute.ensures
      ∙ ap (λ k. c.loop-name.made ++ (k, record { attr_type = c.in-Some-2.part.ty; is_required = c.in-Some.required }) ∷ []) c.in_ok-dup-in-Some-2.ensures)
      (c.max-depth.ensures ∙ ap (max c.loop-name.depth) c.in-Some-2.part.measured),
  Noting-next (is_tabled (tabled c.args.table.now)) (has_word (extension_words c.args.extensions.now)) c.loop-name.invariant.1 c.in-Some.name.now (g.T.TypeNode.written c.in-Some.part.now) c.in-Some.required c.in-Some.ensures.ordered (sym c.in-Some.ensures.next)
      (noted c.unfolded.new.fault) c.unfolded.new.steps c.in_ok-part.ensures.fault c.unfolded.ensures.counts,
)

pub unfolded_record-loop-name-preserved : goal.unfolded_record-loop-name-preserved
unfolded_record-loop-name-preserved g t c = (
  Joining-deep c.in-Some.name.now (g.T.TypeNode.written c.in-Some.part.now) c.in-Some.required c.loop-name.invariant.0 c.in-Some.ensures.ordered (sym c.in-Some.ensures.next)
      (sym c.in_ok-part.ensures.is ∙ ap found_type c.in-None.is),
  Noting-next (is_tabled (tabled c.args.table.now)) (has_word (extension_words c.args.extensions.now)) c.loop-name.invariant.1 c.in-Some.name.now (g.T.TypeNode.written c.in-Some.part.now) c.in-Some.required c.in-Some.ensures.ordered (sym c.in-Some.ensures.next)
      (noted c.unfolded.new.fault) c.unfolded.new.steps c.in_ok-part.ensures.fault c.unfolded.ensures.counts,
)

pub unfolded-returns-in-Some-get-clause-is : goal.unfolded-returns-in-Some-get-clause-is
unfolded-returns-in-Some-get-clause-is g t c =
    IfOk-weaker c.dup.result (λ copy. copy ≡ c.in-Some-get.found.now) (λ found. found_type found ≡ finished (tabled c.args.table.now) (g.T.TypeNode.written c.args.ty.now))
    (λ copy same. ap found_type same ∙ either-found c.args.table.now c.in-EntityOrCommon.name.now (g.T.TypeNode.written c.args.ty.now) c.in-Some-get.found.now c.in-EntityOrCommon.ensures.tells c.in-Some-get.ensures) c.dup.ensures

pub unfolded-returns-in-None-get-clause-is : goal.unfolded-returns-in-None-get-clause-is
unfolded-returns-in-None-get-clause-is g t c =
    IfOk-weaker c.unfolded_entity-in-None-get.result (λ found. found_type found ≡ entity_of (components c.in-EntityOrCommon.name.now)) (λ found. found_type found ≡ finished (tabled c.args.table.now) (g.T.TypeNode.written c.args.ty.now))
    (λ found is. is ∙ either-missing c.args.table.now c.in-EntityOrCommon.name.now (g.T.TypeNode.written c.args.ty.now) c.in-EntityOrCommon.ensures.tells c.in-None-get.ensures) c.unfolded_entity-in-None-get.ensures.is

pub unfolded-returns-in-Some-get-2-clause-is : goal.unfolded-returns-in-Some-get-2-clause-is
unfolded-returns-in-Some-get-2-clause-is g t c =
    IfOk-weaker c.dup-in-Some-get-2.result (λ copy. copy ≡ c.in-Some-get-2.found.now) (λ found. found_type found ≡ finished (tabled c.args.table.now) (g.T.TypeNode.written c.args.ty.now))
    (λ copy same. ap found_type same ∙ common-found c.args.table.now c.in-Common.name.now (g.T.TypeNode.written c.args.ty.now) c.in-Some-get-2.found.now c.in-Common.ensures.tells c.in-Some-get-2.ensures) c.dup-in-Some-get-2.ensures

pub unfolded-returns-in_ok-note_no_common-in-None-get-2-clause-is : goal.unfolded-returns-in_ok-note_no_common-in-None-get-2-clause-is
unfolded-returns-in_ok-note_no_common-in-None-get-2-clause-is g t c = common-missing c.args.table.now c.in-Common.name.now (g.T.TypeNode.written c.args.ty.now) c.in-Common.ensures.tells c.in-None-get-2.ensures

pub unfolded-returns-in-Some-get-clause-fault : goal.unfolded-returns-in-Some-get-clause-fault
unfolded-returns-in-Some-get-clause-fault g t c =
    either-known c.args.table.now (has_word (extension_words c.args.extensions.now)) c.in-EntityOrCommon.name.now (g.T.TypeNode.written c.args.ty.now) c.in-Some-get.found.now c.in-Some-get.ensures
    c.dup.result (noted c.args.fault.now) c.in-EntityOrCommon.ensures.tells

pub unfolded-returns-in-None-get-clause-fault : goal.unfolded-returns-in-None-get-clause-fault
unfolded-returns-in-None-get-clause-fault g t c =
    either-unknown c.args.table.now (has_word (extension_words c.args.extensions.now)) c.in-EntityOrCommon.name.now (g.T.TypeNode.written c.args.ty.now) c.in-None-get.ensures
    c.unfolded_entity-in-None-get.result (noted c.args.fault.now) (noted c.unfolded_entity-in-None-get.new.fault) c.in-EntityOrCommon.ensures.tells c.unfolded_entity-in-None-get.ensures.fault

pub unfolded-returns-in-Some-get-2-clause-fault : goal.unfolded-returns-in-Some-get-2-clause-fault
unfolded-returns-in-Some-get-2-clause-fault g t c =
    common-known c.args.table.now (has_word (extension_words c.args.extensions.now)) c.in-Common.name.now (g.T.TypeNode.written c.args.ty.now) c.in-Some-get-2.found.now c.in-Some-get-2.ensures
    c.dup-in-Some-get-2.result (noted c.args.fault.now) c.in-Common.ensures.tells

pub unfolded-returns-in_ok-note_no_common-in-None-get-2-clause-fault : goal.unfolded-returns-in_ok-note_no_common-in-None-get-2-clause-fault
unfolded-returns-in_ok-note_no_common-in-None-get-2-clause-fault g t c =
    common-unknown c.args.table.now (has_word (extension_words c.args.extensions.now)) c.in-Common.name.now (g.T.TypeNode.written c.args.ty.now) c.in-None-get-2.ensures
    (noted c.args.fault.now) (noted c.note_no_common.new.fault) c.in-Common.ensures.tells c.in_ok-note_no_common-in-None-get-2.ensures

pub unfolded_record-returns-then-is_whole-clause-is : goal.unfolded_record-returns-then-is_whole-clause-is
unfolded_record-returns-then-is_whole-clause-is g t c =
    IfOk-weaker c.record.result (λ found. found_type found ≡ within (resolved_types.Record (resolved_map c.loop-name.made) false)) (λ found. found_type found ≡ finished (tabled c.args.table.now) (g.T.TypeNode.written c.args.record_type.now))
    (λ found is. is ∙ ap record_of (sym (Joining-end c.loop-name.invariant.0 c.if-is_whole.true (sym c.in_default.ensures.next))) ∙ ap (finished (tabled c.args.table.now)) (sym c.requires)) c.record.ensures
