-- SPDX-License-Identifier: Apache-2.0
use Rattle.std.proofs.Common.{ap, ◌∙◌, sym}
use Rattle.std.specs.Cmp.Lexicographic.{slice_cmp}
use Rattle.std.specs.Ordering.{nat_cmp}
use Rattle.std.specs.declared.result.Result.TheVariants.{Ok}
use Rattle.cedar_types.specs.Types.{attributes_of}
use Rattle.cedar_written.specs.Answers.{and_then}
use Rattle.cedar_written.proofs.Goes.{Goes-end, Goes-next, Goes-sorted}
use Rattle.cedar_action_values.proofs.Fields.{typed_fields-are}
use Rattle.cedar_action_values.proofs.typing.+typing.Goals as goal

pub attribute_types-push_last-requires : goal.attribute_types-push_last-requires
attribute_types-push_last-requires t c = Goes-sorted (slice_cmp nat_cmp) c.loop-name.invariant c.in-Some.ensures.steps c.in_ok-name.ensures c.iter-name-items.ensures.ordered

pub attribute_types-loop-name-preserved : goal.attribute_types-loop-name-preserved
attribute_types-loop-name-preserved t c = Goes-next c.loop-name.invariant c.in-Some.ensures.steps c.in_ok-name.ensures c.in_ok-attribute.ensures c.in_ok-push_last.ensures.ok

pub attribute_types-returns : goal.attribute_types-returns
attribute_types-returns t c =
    ap (λ r. and_then r (λ types. Ok (attributes_of types))) (typed_fields-are c.args.fields.now ∙ Goes-end c.loop-name.invariant c.in-None.ensures.steps.0)
    ∙ ap Ok (sym c.in_ok-attributes.ensures)
