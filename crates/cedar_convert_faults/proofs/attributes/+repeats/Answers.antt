-- SPDX-License-Identifier: Apache-2.0
use Rattle.std.proofs.Common.{rules, ◌≡◌, ◌+◌, ◌∷◌, ◌∙◌, ap, sym, IfOk, refl, subst, drop, None, Some}
use Rattle.std.proofs.lemmas.List.{drop_more}
use Rattle.cedar_data.specs.Maps.{get}
use Rattle.cedar_tree.specs.Meanings.{type_tree}
use Rattle.cedar_names.specs.Order.{word_cmp}
use Rattle.cedar_convert_faults.specs.TypeRepeats.{leftmost_repeat}
use Rattle.cedar_convert_faults.proofs.RecordRepeats.{record_repeat, Among-found, Among-inner, Among-next}
use Rattle.cedar_convert_faults.proofs.attributes.+repeats.Goals as goal

pub leftmost_repeat-returns-in-Record : goal.leftmost_repeat-returns-in-Record
leftmost_repeat-returns-in-Record t c = subst (λ x. IfOk c.repeat_among.result (λ repeat. repeat ≡ x)) (record_repeat c.args.ty.now c.in-Record.attrs c.in-Record.is) c.repeat_among.ensures

pub repeat_among-loop-attr-preserved : goal.repeat_among-loop-attr-preserved
repeat_among-loop-attr-preserved t c =
    let items = c.as_slice-attr-items.result.now in
    let i = c.loop-attr.attr-index in
    let a = c.attr-item.result in
    let first : drop i items ≡ a ∷ drop (i + 1) items = drop_more items i a c.loop-attr-test.true ∙ ap (λ x. x ∷ drop (i + 1) items) (sym c.attr-item.is) in
    let new : None ≡ get word_cmp c.loop-attr.places c.in_ok-word.word = search rules in
    let clean : None ≡ leftmost_repeat (type_tree a.node.item.ty.node) = search rules in
    Among-next a c.in_ok-word.word c.in_ok-place.place c.loop-attr.invariant first new clean c.in_ok-word.ensures c.in_ok-place.ensures c.in_ok-first.ensures.puts

pub repeat_among-returns-in-Some : goal.repeat_among-returns-in-Some
repeat_among-returns-in-Some t c =
    let items = c.as_slice-attr-items.result.now in
    let i = c.loop-attr.attr-index in
    let a = c.attr-item.result in
    let first : drop i items ≡ a ∷ drop (i + 1) items = drop_more items i a c.loop-attr-test.true ∙ ap (λ x. x ∷ drop (i + 1) items) (sym c.attr-item.is) in
    let here : Some c.in-Some.first ≡ get word_cmp c.loop-attr.places c.in_ok-word.word = search rules in
    Among-found a c.in_ok-word.word c.in-Some.first _ c.loop-attr.invariant first here c.in_ok-word.ensures c.in_ok-name.ensures refl c.in_ok-second.ensures

pub repeat_among-returns-in-Some-2 : goal.repeat_among-returns-in-Some-2
repeat_among-returns-in-Some-2 t c =
    let items = c.as_slice-attr-items.result.now in
    let i = c.loop-attr.attr-index in
    let a = c.attr-item.result in
    let first : drop i items ≡ a ∷ drop (i + 1) items = drop_more items i a c.loop-attr-test.true ∙ ap (λ x. x ∷ drop (i + 1) items) (sym c.attr-item.is) in
    let new : None ≡ get word_cmp c.loop-attr.places c.in_ok-word.word = search rules in
    let inner : Some c.in-Some-2.inner ≡ leftmost_repeat (type_tree a.node.item.ty.node) = search rules in
    Among-inner a c.in_ok-word.word c.in-Some-2.inner c.loop-attr.invariant first new c.in_ok-word.ensures inner
