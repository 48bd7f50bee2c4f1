-- SPDX-License-Identifier: Apache-2.0
use Rattle.std.proofs.Common.{◌≡◌, ◌<◌, ◌∷◌, ◌+◌, ◌∙◌, drop, Some, string_bytes, arith, rules, refl, sym, ap}
use Rattle.std.proofs.lemmas.List.{drop_more}
use Rattle.serde_json.specs.Data.{null, boolean, string}
use Rattle.serde_json.specs.Find.{as_array, as_object}
use Rattle.serde_json.specs.View.{view, items_view, members_view}
use Rattle.serde_json.specs.declared.value.Value.{the_lemmas}
use Rattle.cedar_json_types.proofs.Chains.{under-none}
use Rattle.cedar_json_types.proofs.ItemLoops.{ReadsItems-next}
use Rattle.cedar_json_types.proofs.MemberLoops.{ReadsMembers-next}
use Rattle.cedar_json_values.proofs.ValueLemmas.{null_value, bool_value, string_value, set_value, object_value}
use Rattle.cedar_json_values.proofs.values.+read.Goals as goal

pub read_value-returns-in-Null-clause-shape : goal.read_value-returns-in-Null-clause-shape
read_value-returns-in-Null-clause-shape t c =
    let is : view c.args.value.now ≡ null = search (rules, the_lemmas) in
    null_value c.args.left (view c.args.value.now) is

pub read_value-returns-in-Bool-clause-shape : goal.read_value-returns-in-Bool-clause-shape
read_value-returns-in-Bool-clause-shape t c =
    let is : view c.args.value.now ≡ boolean c.in-Bool.flag = search (rules, the_lemmas) in
    bool_value c.args.left (view c.args.value.now) c.in-Bool.flag is

pub read_value-returns-in_ok-text-in-String-clause-shape : goal.read_value-returns-in_ok-text-in-String-clause-shape
read_value-returns-in_ok-text-in-String-clause-shape t c =
    let is : view c.args.value.now ≡ string (string_bytes c.in-String.text) = search (rules, the_lemmas) in
    string_value c.args.left (view c.args.value.now) c.in_ok-text-in-String.text (is ∙ ap string (sym (c.in_ok-text-in-String.ensures ∙ c.as_str.ensures.value)))

pub read_value-returns-in_ok-list-in-Array-clause-shape : goal.read_value-returns-in_ok-list-in-Array-clause-shape
read_value-returns-in_ok-list-in-Array-clause-shape t c =
    let is : as_array (view c.args.value.now) ≡ Some (items_view c.in-Array.items.items) = search (rules, the_lemmas) in
    let some : 0 < c.args.left = grind arith in
    set_value c.args.left (view c.args.value.now) (items_view c.in-Array.items.items) c.in_ok-list-in-Array.list some is c.in_ok-list-in-Array.ensures.shape

pub read_value-returns-in_ok-map-in-Object-clause-shape : goal.read_value-returns-in_ok-map-in-Object-clause-shape
read_value-returns-in_ok-map-in-Object-clause-shape t c =
    let is : as_object (view c.args.value.now) ≡ Some (members_view c.in-Object.members.entries) = search (rules, the_lemmas) in
    let some : 0 < c.args.left = grind arith in
    object_value c.args.left (view c.args.value.now) (members_view c.in-Object.members.entries) c.in_ok-map-in-Object.map c.mapped.result some c.mapped.ensures is c.in_ok-map-in-Object.ensures.shape

pub read_items-loop-item-preserved : goal.read_items-loop-item-preserved
read_items-loop-item-preserved t c =
    let l = c.loop-item in
    let left : drop l.item-index c.deref-item-items.result.now ≡ c.item-item.result ∷ drop (l.item-index + 1) c.deref-item-items.result.now = grind (arith, drop_more) in
    let shape = rw c.in_ok-value.ensures.ok at c.read_part.ensures.shape in
    let clean = rw c.in_ok-value.ensures.ok at c.read_part.ensures.clean in
    (ReadsItems-next l.invariant.0 left refl shape clean c.in_ok-push.ensures.ok, ap (λ n. n + 1) l.invariant.1)

pub read_members-loop-key-preserved : goal.read_members-loop-key-preserved
read_members-loop-key-preserved t c =
    let shape = rw c.in_ok-value.ensures.ok at c.read_part.ensures.shape in
    let clean = rw c.in_ok-value.ensures.ok at c.read_part.ensures.clean in
    ReadsMembers-next c.loop-key.invariant c.in-Some.ensures.steps (c.in_ok-name.ensures ∙ c.as_str-in-loop-key.ensures.value, shape) (under-none _ _ clean) c.in_ok-insert.ensures.ok
