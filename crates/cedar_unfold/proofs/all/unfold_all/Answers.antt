-- SPDX-License-Identifier: Apache-2.0
use Rattle.std.proofs.Common.{[], map, sym, ◌∙◌, subst, arith, rules}
use Rattle.std.specs.List.Sorted.{IsStrictlySortedBy}
use Rattle.std.specs.Map.{keys_of}
use Rattle.cedar_data.specs.Firsts.{FirstRefused}
use Rattle.cedar_names.specs.Names.{internal_cmp}
use Rattle.cedar_schema_error.specs.KeptDeclarations.{KeepsAmong, placed}
use Rattle.cedar_schema_error.specs.Told.{told}
use Rattle.cedar_sorting.specs.Orders.{IsOrder}
use Rattle.cedar_unfold.specs.Full.{Definitions, IsFull, by_place, job_of, meanings_of}
use Rattle.cedar_unfold.specs.KeptNames.{KeepsNone}
use Rattle.cedar_unfold.specs.Passing.{DefinitionsRefuse, HasSome, LacksType}
use Rattle.cedar_unfold.specs.ResolvedViews.{resolved}
use Rattle.cedar_unfold.specs.Rows.{definition_rows}
use Rattle.cedar_unfold.specs.Tables.{by_name, names_of, tabled}
use Rattle.cedar_unfolding.specs.UnfoldPhases.{UsePasses, UseRefuses, WhyNotUnfoldable}
use Rattle.cedar_unfold.proofs.Finally.{ordered-refused, full, commons-refused, uses-refused, passes_all, unfolds_all}
use Rattle.cedar_unfold.proofs.Kept.{among-none}
use Rattle.cedar_unfold.proofs.Sums.{order-nodes}
use Rattle.cedar_unfold.proofs.UseLemmas.{refused-weaker}
use Rattle.cedar_unfold.proofs.all.unfold_all.Goals as goal

pub ordered-requires-clause-keys : goal.ordered-requires-clause-keys
ordered-requires-clause-keys g c = c.as_slice.ensures.value ∙ c.in_ok-keys.ensures.keys

pub ordered-requires-clause-sorted : goal.ordered-requires-clause-sorted
ordered-requires-clause-sorted g c = subst (IsStrictlySortedBy internal_cmp) (sym (c.as_slice.ensures.value ∙ c.in_ok-keys.ensures.keys)) c.copied_keys.ensures.sorted

pub fill-requires-clause-keys : goal.fill-requires-clause-keys
fill-requires-clause-keys g c = c.as_slice-2.ensures.value ∙ c.in_ok-keys.ensures.keys

pub fill-requires-clause-sorted : goal.fill-requires-clause-sorted
fill-requires-clause-sorted g c = subst (IsStrictlySortedBy internal_cmp) (sym (c.as_slice-2.ensures.value ∙ c.in_ok-keys.ensures.keys)) c.copied_keys.ensures.sorted

pub fill-requires-clause-order : goal.fill-requires-clause-order
fill-requires-clause-order g c = subst (IsOrder (definition_rows (by_name g.T.TypeNode.written c.args.defs.now))) (sym c.as_slice-3.ensures.value) c.in_ok-order.ensures.order

pub returns-in_err-order-clause-refused : goal.returns-in_err-order-clause-refused
returns-in_err-order-clause-refused g c =
    refused-weaker c.from_residual-in_err-order.result (λ e. DefinitionsRefuse (by_name g.T.TypeNode.written c.args.defs.now) c.args.extensions.now (told e)) (λ e. WhyNotUnfoldable (job_of (by_name g.T.TypeNode.written c.args.defs.now) (by_place g.T.TypeNode.written c.args.uses.now) c.args.extensions.now) (told e))
    (λ e r. ordered-refused g.T.TypeNode.written c.args.defs.now c.as_slice.result.now (c.as_slice.ensures.value ∙ c.in_ok-keys.ensures.keys) (subst (IsStrictlySortedBy internal_cmp) (sym (c.as_slice.ensures.value ∙ c.in_ok-keys.ensures.keys)) c.copied_keys.ensures.sorted) (by_place g.T.TypeNode.written c.args.uses.now) c.args.extensions.now (told e) r) (search rules)

pub returns-in_err-common-clause-refused : goal.returns-in_err-common-clause-refused
returns-in_err-common-clause-refused g c =
    refused-weaker c.from_residual-in_err-common.result (λ e. FirstRefused (HasSome (tabled c.in_ok-table.table)) (LacksType (tabled c.in_ok-table.table)) (names_of (keys_of c.args.defs.now)) (told e)) (λ e. WhyNotUnfoldable (job_of (by_name g.T.TypeNode.written c.args.defs.now) (by_place g.T.TypeNode.written c.args.uses.now) c.args.extensions.now) (told e))
    (λ e r. commons-refused g.T.TypeNode.written c.args.defs.now c.as_slice-2.result.now (c.as_slice-2.ensures.value ∙ c.in_ok-keys.ensures.keys) (subst (IsStrictlySortedBy internal_cmp) (sym (c.as_slice-2.ensures.value ∙ c.in_ok-keys.ensures.keys)) c.copied_keys.ensures.sorted) (by_place g.T.TypeNode.written c.args.uses.now) c.args.extensions.now c.in_ok-order.ensures.passes c.in_ok-table.ensures.full (told e) r) (search rules)

pub returns-in_err-order-clause-kept : goal.returns-in_err-order-clause-kept
returns-in_err-order-clause-kept g c =
    refused-weaker c.from_residual-in_err-order.result (KeepsAmong (map placed c.as_slice.result.now) []) (KeepsAmong (map placed (keys_of c.args.defs.now)) [])
    (λ e keeps. subst (λ keys. KeepsAmong (map placed keys) [] e) (c.as_slice.ensures.value ∙ c.in_ok-keys.ensures.keys) keeps) (search rules)

pub returns-in_err-common-clause-kept : goal.returns-in_err-common-clause-kept
returns-in_err-common-clause-kept g c =
    refused-weaker c.from_residual-in_err-common.result KeepsNone (KeepsAmong (map placed (keys_of c.args.defs.now)) []) (among-none (map placed (keys_of c.args.defs.now)) []) (search rules)

pub returns-in_err-used-clause-kept : goal.returns-in_err-used-clause-kept
returns-in_err-used-clause-kept g c =
    refused-weaker c.from_residual-in_err-used.result KeepsNone (KeepsAmong (map placed (keys_of c.args.defs.now)) []) (among-none (map placed (keys_of c.args.defs.now)) []) (search rules)

pub returns-in_err-table-clause-counts : goal.returns-in_err-table-clause-counts
returns-in_err-table-clause-counts g c =
    let looks = order-nodes (by_name g.T.TypeNode.written c.args.defs.now) (keys_of (by_name g.T.TypeNode.written c.args.defs.now)) c.as_slice-3.result.now (subst (IsOrder (definition_rows (by_name g.T.TypeNode.written c.args.defs.now))) (sym c.as_slice-3.ensures.value) c.in_ok-order.ensures.order) in
    omega (arith, looks, c.ordered.ensures.counts, c.fill.ensures.counts)

pub returns-in_err-common-clause-counts : goal.returns-in_err-common-clause-counts
returns-in_err-common-clause-counts g c =
    let looks = order-nodes (by_name g.T.TypeNode.written c.args.defs.now) (keys_of (by_name g.T.TypeNode.written c.args.defs.now)) c.as_slice-3.result.now (subst (IsOrder (definition_rows (by_name g.T.TypeNode.written c.args.defs.now))) (sym c.as_slice-3.ensures.value) c.in_ok-order.ensures.order) in
    omega (arith, looks, c.ordered.ensures.counts, c.fill.ensures.counts)

pub returns-in_err-used-clause-counts : goal.returns-in_err-used-clause-counts
returns-in_err-used-clause-counts g c =
    let looks = order-nodes (by_name g.T.TypeNode.written c.args.defs.now) (keys_of (by_name g.T.TypeNode.written c.args.defs.now)) c.as_slice-3.result.now (subst (IsOrder (definition_rows (by_name g.T.TypeNode.written c.args.defs.now))) (sym c.as_slice-3.ensures.value) c.in_ok-order.ensures.order) in
    omega (arith, looks, c.ordered.ensures.counts, c.fill.ensures.counts, c.unfolded_uses.ensures.counts)

pub returns-clause-counts : goal.returns-clause-counts
returns-clause-counts g c =
    let looks = order-nodes (by_name g.T.TypeNode.written c.args.defs.now) (keys_of (by_name g.T.TypeNode.written c.args.defs.now)) c.as_slice-3.result.now (subst (IsOrder (definition_rows (by_name g.T.TypeNode.written c.args.defs.now))) (sym c.as_slice-3.ensures.value) c.in_ok-order.ensures.order) in
    omega (arith, looks, c.ordered.ensures.counts, c.fill.ensures.counts, c.unfolded_uses.ensures.counts)

pub returns-in_err-used-clause-refused : goal.returns-in_err-used-clause-refused
returns-in_err-used-clause-refused g c =
    refused-weaker c.from_residual-in_err-used.result (λ e. FirstRefused (UsePasses (meanings_of (by_name g.T.TypeNode.written c.args.defs.now) c.args.extensions.now)) (UseRefuses (meanings_of (by_name g.T.TypeNode.written c.args.defs.now) c.args.extensions.now)) (by_place g.T.TypeNode.written c.args.uses.now) (told e)) (λ e. WhyNotUnfoldable (job_of (by_name g.T.TypeNode.written c.args.defs.now) (by_place g.T.TypeNode.written c.args.uses.now) c.args.extensions.now) (told e))
    (λ e r. uses-refused g.T.TypeNode.written c.args.defs.now c.as_slice-2.result.now (c.as_slice-2.ensures.value ∙ c.in_ok-keys.ensures.keys) (subst (IsStrictlySortedBy internal_cmp) (sym (c.as_slice-2.ensures.value ∙ c.in_ok-keys.ensures.keys)) c.copied_keys.ensures.sorted) (by_place g.T.TypeNode.written c.args.uses.now) c.args.extensions.now c.in_ok-order.ensures.passes c.in_ok-table.ensures.full (by_name resolved c.in_ok-common.common) c.in_ok-common.ensures.types (told e) r)
    (refused-weaker c.from_residual-in_err-used.result (λ e. (definitions : Definitions) → IsFull (meanings_of definitions c.args.extensions.now) (tabled c.in_ok-table.table) → FirstRefused (UsePasses (meanings_of definitions c.args.extensions.now)) (UseRefuses (meanings_of definitions c.args.extensions.now)) (by_place g.T.TypeNode.written c.args.uses.now) (told e)) (λ e. FirstRefused (UsePasses (meanings_of (by_name g.T.TypeNode.written c.args.defs.now) c.args.extensions.now)) (UseRefuses (meanings_of (by_name g.T.TypeNode.written c.args.defs.now) c.args.extensions.now)) (by_place g.T.TypeNode.written c.args.uses.now) (told e)) (λ e r. r (by_name g.T.TypeNode.written c.args.defs.now) (full g.T.TypeNode.written c.args.defs.now c.as_slice-2.result.now (c.as_slice-2.ensures.value ∙ c.in_ok-keys.ensures.keys) (subst (IsStrictlySortedBy internal_cmp) (sym (c.as_slice-2.ensures.value ∙ c.in_ok-keys.ensures.keys)) c.copied_keys.ensures.sorted) (by_place g.T.TypeNode.written c.args.uses.now) c.args.extensions.now c.in_ok-order.ensures.passes c.in_ok-table.ensures.full)) (search rules))

pub returns-clause-done : goal.returns-clause-done
returns-clause-done g c =
    let give = c.in_ok-used.ensures.types (by_name g.T.TypeNode.written c.args.defs.now) (full g.T.TypeNode.written c.args.defs.now c.as_slice-2.result.now (c.as_slice-2.ensures.value ∙ c.in_ok-keys.ensures.keys) (subst (IsStrictlySortedBy internal_cmp) (sym (c.as_slice-2.ensures.value ∙ c.in_ok-keys.ensures.keys)) c.copied_keys.ensures.sorted) (by_place g.T.TypeNode.written c.args.uses.now) c.args.extensions.now c.in_ok-order.ensures.passes c.in_ok-table.ensures.full) in (
      passes_all g.T.TypeNode.written c.args.defs.now c.as_slice-2.result.now (c.as_slice-2.ensures.value ∙ c.in_ok-keys.ensures.keys) (subst (IsStrictlySortedBy internal_cmp) (sym (c.as_slice-2.ensures.value ∙ c.in_ok-keys.ensures.keys)) c.copied_keys.ensures.sorted) (by_place g.T.TypeNode.written c.args.uses.now) c.args.extensions.now c.in_ok-order.ensures.passes c.in_ok-table.ensures.full (by_name resolved c.in_ok-common.common) c.in_ok-common.ensures.types (by_place resolved c.in_ok-used.used) give,
      unfolds_all g.T.TypeNode.written c.args.defs.now c.as_slice-2.result.now (c.as_slice-2.ensures.value ∙ c.in_ok-keys.ensures.keys) (subst (IsStrictlySortedBy internal_cmp) (sym (c.as_slice-2.ensures.value ∙ c.in_ok-keys.ensures.keys)) c.copied_keys.ensures.sorted) (by_place g.T.TypeNode.written c.args.uses.now) c.args.extensions.now c.in_ok-order.ensures.passes c.in_ok-table.ensures.full (by_name resolved c.in_ok-common.common) c.in_ok-common.ensures.types (by_place resolved c.in_ok-used.used) give,
    )
